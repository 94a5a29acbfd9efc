use Rattle.std.proofs.Common.{ℕ, inl, inr, false, from_bits, subst, take, lit<, lit≤, lt_of_lt_of_le}
use lib.Ieee.Bits.{of_bits-fits}
use Rattle.std.specs.Float.Ieee.{Float, binary64}
use Rattle.sf_float.specs.General.{IsGeneralOf}
use Rattle.sf_float.specs.Scaled.{IsScientific}
use Rattle.sf_float_tests.proofs.Zeros.{zero_not, none_significant}
use Rattle.sf_float_tests.proofs.printed.general_of.Goals as goal

pub returns-clause-some : goal.returns-clause-some
returns-clause-some c = λ some.
    let x = from_bits binary64 c.args.bits in
    let t = take c.write_general.result c.write_general.new.out in
    let s = c.write_general.ensures.text in
    elim (subst (λ (y : Float). IsScientific y 16 s.0 s.1) c.f64_from_bits_with_nan.ensures s.2) [
      | inl z ↦ absurd (zero_not x z.0 some)
      | inr k ↦ c.general_reads_back.ensures x false 17 s.0 s.1 t (of_bits-fits binary64 c.args.bits) some (lit≤ tt) k.1 k.0 s.3
    ]

pub returns-clause-none : goal.returns-clause-none
returns-clause-none c = λ zero negative.
    let x = from_bits binary64 c.args.bits in
    let t = take c.write_general.result c.write_general.new.out in
    let s = c.write_general.ensures.text in
    elim (subst (λ (y : Float). IsScientific y 16 s.0 s.1) c.f64_from_bits_with_nan.ensures s.2) [
      | inl z ↦ c.general_zero_reads_back.ensures negative false 17 t (lit< tt)
          (subst (λ (n : ℕ). IsGeneralOf false 17 n 400 t) z.1 (subst (λ (p : ℕ). IsGeneralOf false 17 s.0 p t) z.2 s.3))
      | inr k ↦ absurd (none_significant x 17 s.0 s.1 zero k.0 (lt_of_lt_of_le (lit< tt) k.0.full))
    ]
