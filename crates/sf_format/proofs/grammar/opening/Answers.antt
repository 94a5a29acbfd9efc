use Rattle.std.proofs.Common.{◌+◌, ◌≤◌, ◌∙◌, ap, length, sym, subst}
use Rattle.sf_format.specs.Digits.{is_decimal}
use Rattle.sf_format.specs.Pieces.{Opening, opening_text}
use Rattle.sf_format.specs.Cut.{cut}
use Rattle.sf_format.specs.Passing.{IsIn}
use Rattle.sf_format.proofs.Prefixes.{AllPass}
use Rattle.sf_format.proofs.Cutting.{HasParts, cut_parts, cut_in, length-cut, parts_shorter}
use Rattle.sf_format.proofs.Passages.{if_point}
use Rattle.sf_format.proofs.grammar.opening.Goals as goal

pub returns : goal.returns
returns g c =
    let language = g.G.Grammar.language c.args.grammar in
    let written = c.cut_opening.result.0 in
    let same = sym c.cut_opening.ensures.opening in
    let has = subst HasParts same (cut_parts language c.args.text.now) in record {
      opening = c.cut_opening.ensures.opening;
      rest = c.cut_opening.ensures.rest;
      parts =
          subst (λ (o : Opening). length o.number + length o.flags + length o.width ≤ length c.args.text.now) same
          (parts_shorter language c.args.text.now);
      number = has.number;
      width = has.width;
      precision = if_point (AllPass is_decimal) written.point written.precision.now has.precision;
      own = subst (IsIn language) same (cut_in language c.args.text.now);
      length =
          ap (λ o. length (opening_text o) + length c.cut_opening.result.1.now) c.cut_opening.ensures.opening
          ∙ ap (λ t. length (opening_text (cut language c.args.text.now).opening) + length t) c.cut_opening.ensures.rest
          ∙ length-cut language c.args.text.now;
    }
