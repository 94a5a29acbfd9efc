use Rattle.std.proofs.Common.{◌+◌, length, refl, sym, ◌∙◌, append-nil}
use Rattle.sf_format.proofs.Passages.{begins_mark, behind_mark}
use Rattle.sf_format.proofs.grammar.pass_specification.Goals as goal

pub returns-then-found : goal.returns-then-found
returns-then-found g c =
    λ earlier holds.
    let found = sym c.mark-found.ensures.found ∙ c.if-found.true in
    rw (begins_mark c.args.text.now ∙ found) (
      refl,
      c.mark-found.ensures.rest ∙ behind_mark c.args.text.now found,
      c.literal.ensures (1 + length earlier),
      rw append-nil holds,
      refl,
      refl,
    )
