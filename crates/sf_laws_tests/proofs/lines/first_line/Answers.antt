use Rattle.std.proofs.Common.{◌∷◌, ◌+◌, [], ap, ◌∙◌, drop, take}
use Rattle.sf_run.specs.outcome.Ending.TheVariants.{End}
use Rattle.sf_read.specs.line.Cut.{lines_of}
use Rattle.sf_laws_tests.proofs.Answered.{if_some}
use Rattle.sf_laws_tests.proofs.lines.first_line.Goals as goal

pub returns : goal.returns
returns g c =
    let held = c.args.from.now.held in
    record {
      cut = if_some c.held_line.result c.held_line.ensures.held
          (λ n is. ap lines_of is.ended ∙ (c.lines_are_cut.ensures (take n held) is.is_line).first End (drop (n + 1) held));
      alone = if_some c.held_line.result c.held_line.ensures.held
          (λ n is. c.lines_are_joined.ensures (take n held ∷ []) (is.is_line, tt));
      lines = (c.texts_are_cut.ensures held).0;
      whole = (c.texts_are_cut.ensures held).1;
    }
