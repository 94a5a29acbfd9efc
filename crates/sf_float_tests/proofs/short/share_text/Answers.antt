use Rattle.std.proofs.Common.{take, refl, sym, ◌∙◌}
use Rattle.std.proofs.lemmas.Bool.Decides.{Decides-eqb}
use Rattle.std.proofs.lemmas.Slice.Eq.{slice_eq-Decides}
use Rattle.sf_base.specs.declared.real.Real.TheVariants.{F64}
use Rattle.sf_float_tests.proofs.short.share_text.Goals as goal

pub returns : goal.returns
returns c = λ same.
    let text = take c.write_shortest-end.result c.write_shortest-end.new.out in
    let last = take c.write_shortest-other_end.result c.write_shortest-other_end.new.out in
    c.one_float.ensures (F64 c.args.one) (F64 c.args.other) c.ranges.one.fits c.ranges.other.fits refl
    (sym c.write_shortest-end.ensures.text ∙ (slice_eq-Decides Decides-eqb text last c.eq.result c.eq.ensures).0 same
    ∙ c.write_shortest-other_end.ensures.text)
