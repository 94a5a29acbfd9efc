use Rattle.std.proofs.Common.{ℕ, inl, inr, ◌++◌, List, false, true, from_bits, subst, ap, ◌∙◌, lit<, lit≤, lt_of_lt_of_le}
use Rattle.std.specs.Float.{is_sign_negative}
use Rattle.std.specs.Float.Ieee.{Float, binary64}
use Rattle.std.specs.Float.Parse.{parse_float}
use Rattle.std.specs.Fmt.{sign_text}
use lib.Ieee.Bits.{of_bits-fits}
use Rattle.ryu.specs.Plain.{text_with}
use Rattle.sf_float.specs.Scaled.{IsScientific}
use Rattle.sf_float.specs.Texts.{scientific}
use Rattle.sf_float_tests.proofs.Zeros.{zero_not, none_significant}
use Rattle.sf_float_tests.proofs.printed.scientific_of.Goals as goal

pub returns-clause-some : goal.returns-clause-some
returns-clause-some c = λ some.
    let x = from_bits binary64 c.args.bits in
    let s = c.write_scientific.ensures.text in
    elim (subst (λ (y : Float). IsScientific y 16 s.0 s.1) c.f64_from_bits_with_nan.ensures s.2) [
      | inl z ↦ absurd (zero_not x z.0 some)
      | inr k ↦
          ap (λ (t : List ℕ). parse_float binary64 (sign_text (is_sign_negative x) ++ t)) s.3
          ∙ c.scientific_reads_back.ensures x false 16 s.0 s.1 (of_bits-fits binary64 c.args.bits) some (lit≤ tt) k.1 k.0
    ]

pub returns-clause-none : goal.returns-clause-none
returns-clause-none c = λ zero negative.
    let x = from_bits binary64 c.args.bits in
    let s = c.write_scientific.ensures.text in
    elim (subst (λ (y : Float). IsScientific y 16 s.0 s.1) c.f64_from_bits_with_nan.ensures s.2) [
      | inl z ↦
          ap (λ (t : List ℕ). parse_float binary64 (sign_text negative ++ t))
          (s.3 ∙ (λ i. text_with true (scientific false 16 (z.1 i) (z.2 i))))
          ∙ c.zero_reads_back.ensures negative false 16
      | inr k ↦ absurd (none_significant x 17 s.0 s.1 zero k.0 (lt_of_lt_of_le (lit< tt) k.0.full))
    ]
