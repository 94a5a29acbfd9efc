-- Worked examples of printed texts, by computation.
use Rattle.std.proofs.Common.{◌≡◌, ℕ, [], ◌∷◌, true, false, pos, negsuc, Some, None, Err, refl}
use Rattle.std.specs.Prelude.{codes}
use Rattle.std.specs.Fmt.{digits}
use Rattle.sf_base.specs.declared.values.Kind.{Kind}
use Rattle.sf_base.specs.declared.values.Kind.TheVariants as kind
use Rattle.sf_base.specs.Data.Datum.{Number, Bytes}
use Rattle.sf_format.specs.declared.unit.PrintLetter.{PrintLetter}
use Rattle.sf_format.specs.declared.unit.PrintLetter.TheVariants as letter
use Rattle.sf_format.specs.declared.unit.PrintConv.{PrintConv}
use Rattle.sf_format.specs.declared.unit.Unit.TheVariants as unit
use Rattle.sf_print.specs.declared.fault.PrintFault.TheVariants as fault
use Rattle.sf_print.specs.texts.Text.{integer_text, bytes_text}
use Rattle.sf_print.specs.Printed.{printed, measured}

-- a conversion with no flag
abbrev plain : PrintLetter → Kind → ℕ → PrintConv
plain l k slot = record {
  letter = l;
  kind = k;
  slot = slot;
  minus = false;
  plus = false;
  blank = false;
  alt = false;
  zero = false;
  width =
      0;
  precision = None;
}

abbrev d : ℕ → PrintConv
d slot = plain letter.Signed kind.I32 slot

abbrev o : PrintConv
o = plain letter.Octal kind.U32 1

abbrev x : PrintConv
x = plain letter.HexLower kind.U32 1

abbrev b : PrintConv
b = plain letter.Binary kind.U32 1

abbrev s : PrintConv
s = plain letter.Text kind.Text 1

-- `%+5d|%-5d|` of 42, 42
both_sides : printed (unit.Conv (record (d 1) { plus = true; width = 5 }) ∷ unit.Byte 124 ∷ unit.Conv
    (record (d 2) { minus = true; width = 5 }) ∷ unit.Byte 124 ∷ []) (Number kind.I32 (pos 42) ∷ Number kind.I32 (pos 42) ∷ [])
    ≡ codes "  +42|42   |"
unfolding digits
both_sides = refl

-- `%.0d`, `%#o`, `%#x` of 0
no_digit : integer_text (record (d 1) { precision = Some 0 }) (pos 0) ≡ []
unfolding digits
no_digit = refl

octal_zero : integer_text (record o { alt = true }) (pos 0) ≡ codes "0"
unfolding digits
octal_zero = refl

zero_unmarked : integer_text (record x { alt = true }) (pos 0) ≡ codes "0"
unfolding digits
zero_unmarked = refl

-- `%08.3d` of -5, `%#06x` of 255, `%.2s` of abc
zero_flag_beside_precision : integer_text (record (d 1) { zero = true; width = 8; precision = Some 3 }) (negsuc 4) ≡ codes "    -005"
unfolding digits
zero_flag_beside_precision = refl

marked : integer_text (record x { alt = true; zero = true; width = 6 }) (pos 255) ≡ codes "0x00ff"
unfolding digits
marked = refl

cut : bytes_text (record s { precision = Some 2 }) (codes "abc") ≡ codes "ab"
cut = refl

-- `%#b` of 5 and of 0, `%#010b` of 5, `%#.4b` of 5
binary_marked : integer_text (record b { alt = true }) (pos 5) ≡ codes "0b101"
unfolding digits
binary_marked = refl

binary_zero : integer_text (record b { alt = true }) (pos 0) ≡ codes "0"
unfolding digits
binary_zero = refl

binary_padded : integer_text (record b { alt = true; zero = true; width = 10 }) (pos 5) ≡ codes "0b00000101"
unfolding digits
binary_padded = refl

binary_filled : integer_text (record b { alt = true; precision = Some 4 }) (pos 5) ≡ codes "0b0101"
unfolding digits
binary_filled = refl

-- `%+ d` of 5, `% d` of -3, `%-05d` of 42
plus_over_blank : integer_text (record (d 1) { plus = true; blank = true }) (pos 5) ≡ codes "+5"
unfolding digits
plus_over_blank = refl

minus_over_blank : integer_text (record (d 1) { blank = true }) (negsuc 2) ≡ codes "-3"
unfolding digits
minus_over_blank = refl

minus_over_zero : integer_text (record (d 1) { minus = true; zero = true; width = 5 }) (pos 42) ≡ codes "42   "
unfolding digits
minus_over_zero = refl

-- `%#.3o` of 8, `%#.0x` of 0, `%08d` of -42
octal_filled : integer_text (record o { alt = true; precision = Some 3 }) (pos 8) ≡ codes "010"
unfolding digits
octal_filled = refl

nothing_marked : integer_text (record x { alt = true; precision = Some 0 }) (pos 0) ≡ []
unfolding digits
nothing_marked = refl

zeros_inside : integer_text (record (d 1) { zero = true; width = 8 }) (negsuc 41) ≡ codes "-0000042"
unfolding digits
zeros_inside = refl

-- `%2$s-%1$d` of 7, up
by_number : printed (unit.Conv (record s { slot = 2 }) ∷ unit.Byte 45 ∷ unit.Conv (d 1) ∷ [])
    (Number kind.I32 (pos 7) ∷ Bytes (codes "up") ∷ []) ≡ codes "up-7"
unfolding digits
by_number = refl

-- `%d%c` of 1, ab; of x, ab; of 1
abbrev one : PrintConv
one = plain letter.One kind.Text 2

not_one_byte : measured (unit.Conv (d 1) ∷ unit.Conv one ∷ []) (Number kind.I32 (pos 1) ∷ Bytes (codes "ab") ∷ [])
    ≡ Err (fault.NotOneByte 2)
unfolding digits
not_one_byte = refl

wrong_kind : measured (unit.Conv (d 1) ∷ unit.Conv one ∷ []) (Bytes (codes "x") ∷ Bytes (codes "ab") ∷ []) ≡ Err (fault.WrongKind 1)
unfolding digits
wrong_kind = refl

wrong_count : measured (unit.Conv (d 1) ∷ unit.Conv one ∷ []) (Number kind.I32 (pos 1) ∷ []) ≡ Err fault.WrongCount
unfolding digits
wrong_count = refl
