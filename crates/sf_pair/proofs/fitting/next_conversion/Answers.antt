use Rattle.std.proofs.Common.{◌+◌, List, ◌∷◌, drop, sym, ap, ◌∙◌}
use Rattle.std.proofs.lemmas.List.{take_rest}
use Rattle.sf_format.specs.declared.unit.Unit.{Unit as PrintUnit}
use Rattle.sf_format.specs.declared.unit.Unit.TheVariants as unit
use Rattle.sf_pair.specs.Fits.{conversions}
use Rattle.sf_pair.proofs.Walking.{drop_next}
use Rattle.sf_pair.proofs.fitting.next_conversion.Goals as goal

pub returns-in-Conv : goal.returns-in-Conv
returns-in-Conv c =
    let us = c.args.units.now in
    let i = c.loop-i.i in
    c.loop-i.invariant
    ∙ ap conversions (drop_next us i (unit.Byte 0) c.loop-i-test.true ∙ ap (λ (u : PrintUnit). u ∷ drop (i + 1) us) c.in-Conv.is)
    ∙ ap (λ (t : List PrintUnit). c.in-Conv.conv ∷ conversions t) (sym (take_rest us (i + 1)))
