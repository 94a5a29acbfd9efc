-- Words whose values are known from C, and words that stand for none.
use Rattle.std.proofs.Common.{pos, negsuc, true, false, [], ◌∷◌, length, refl, ap, subst, arith, inr}
use Rattle.std.specs.Prelude.{codes}
use lib.Signed.{le_z_yes, lt_z_yes}
use Rattle.sf_base.specs.Data.{Datum, IsIn}
use Rattle.sf_base.specs.Data.Datum.{Bytes, Number}
use Rattle.sf_base.specs.declared.values.Kind.TheVariants as kind
use Rattle.sf_format.specs.declared.unit.PrintLetter.TheVariants as letter
use Rattle.sf_arguments.specs.Words.{Denotes, StandsFor}
use Rattle.sf_arguments.specs.declared.word_reading.WordReading.TheVariants.{Escaped, Raw}
use Rattle.sf_arguments.specs.Escapes.{IsBadEscape, Unescapes}
use Rattle.sf_arguments.proofs.Escaping.{one_reading}
use Rattle.sf_arguments.proofs.Numbers.{one_number}

minus_zero : Denotes (codes "-0") (pos 0)
minus_zero = record {
  negative = true;
  sign = 45 ∷ [];
  ds = 48 ∷ [];
  parts = refl;
  signed = refl;
  some = omega arith;
  decimal = (refl, tt);
  number = refl;
}

minus_one : Denotes (codes "-1") (negsuc 0)
minus_one = record {
  negative = true;
  sign = 45 ∷ [];
  ds = 49 ∷ [];
  parts = refl;
  signed = refl;
  some = omega arith;
  decimal = (refl, tt);
  number = refl;
}

plus_forty_two : Denotes (codes "+042") (pos 42)
plus_forty_two = record {
  negative = false;
  sign = 43 ∷ [];
  ds = 48 ∷ 52 ∷ 50 ∷ [];
  parts = refl;
  signed = inr refl;
  some = omega arith;
  decimal = (refl, (refl, (refl, tt)));
  number = refl;
}

least : Denotes (codes "-128") (negsuc 127)
least = record {
  negative = true;
  sign = 45 ∷ [];
  ds = 49 ∷ 50 ∷ 56 ∷ [];
  parts = refl;
  signed = refl;
  some = omega arith;
  decimal =
      (refl, (refl, (refl, tt)));
  number = refl;
}

minus_zero_is_unsigned : StandsFor Escaped letter.Unsigned kind.U8 (codes "-0") (Number kind.U8 (pos 0))
minus_zero_is_unsigned = (pos 0, minus_zero, (le_z_yes tt, lt_z_yes tt), refl)

minus_one_is_not : (value : Datum) → StandsFor Escaped letter.Unsigned kind.U8 (codes "-1") value → ⊥
minus_one_is_not value (z, d, i, is) = let low = subst (IsIn kind.U8) (one_number (codes "-1") z (negsuc 0) d minus_one) i in low.0.le

least_is_eight_bits : StandsFor Escaped letter.Signed kind.I8 (codes "-128") (Number kind.I8 (negsuc 127))
least_is_eight_bits = (negsuc 127, least, (le_z_yes tt, lt_z_yes tt), refl)

two_bytes_are_not_one : (value : Datum) → StandsFor Escaped letter.One kind.Text (codes "ab") value → ⊥
two_bytes_are_not_one value (bytes, good, one, is) = let two = one_reading (codes "ab") bytes (codes "ab") good
    (1, 1, refl, refl, (1, 0, refl, refl, refl)) in absurd (omega (arith, one, ap length two))

-- a backslash is a byte as any other where the word is read as it stands
backslash_stands : StandsFor Raw letter.Text kind.Text (codes "a\\x1") (Bytes (codes "a\\x1"))
backslash_stands = (codes "a\\x1", refl, refl)

-- an escape of each kind, and one of one digit
nul_within : Unescapes (codes "a\\x0b\\n") (97 ∷ 11 ∷ 10 ∷ [])
nul_within = (1, 6, refl, refl, (4, 2, refl, refl, (2, 0, refl, refl, refl)))

one_digit : IsBadEscape (codes "a\\x1") 1
one_digit = (omega arith, refl, (97 ∷ [], (1, 0, refl, refl, refl)))
