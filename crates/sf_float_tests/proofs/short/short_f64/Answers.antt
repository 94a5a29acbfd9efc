use Rattle.std.proofs.Common.{List, ℕ, Some, from_bits, subst, sym, take, to_bits}
use Rattle.std.specs.Float.Ieee.{binary64}
use Rattle.sf_base.specs.declared.real.Real.TheVariants.{F64}
use Rattle.sf_float_read.specs.value.Values.{IsStored}
use Rattle.sf_float_tests.proofs.short.short_f64.Goals as goal

pub value_f64-requires : goal.value_f64-requires
value_f64-requires c =
    let bits = c.args.bits in
    let text = take c.write_shortest-end.result c.write_shortest-end.new.out in
    let stored = subst (λ (t : List ℕ). IsStored binary64 t (Some (to_bits binary64 (from_bits binary64 bits))))
    (sym c.write_shortest-end.ensures.text) (c.short_is_stored.ensures (F64 bits) c.ranges.bits.fits) in
    ((c.stored_is_computed.ensures binary64 text).1 (Some (to_bits binary64 (from_bits binary64 bits))) stored).0

pub returns : goal.returns
returns c =
    let bits = c.args.bits in
    let text = take c.write_shortest-end.result c.write_shortest-end.new.out in
    let stored = subst (λ (t : List ℕ). IsStored binary64 t (Some (to_bits binary64 (from_bits binary64 bits))))
    (sym c.write_shortest-end.ensures.text) (c.short_is_stored.ensures (F64 bits) c.ranges.bits.fits) in
    c.one_stored.ensures binary64 text c.value_f64.result (Some (to_bits binary64 (from_bits binary64 bits))) c.value_f64.ensures stored
