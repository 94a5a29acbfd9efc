-- Prints of reports by a print format, without a pair.
use Rattle.std.specs.Prelude.{◌≡◌, ◌≤◌, ◌<◌, ◌&&◌, ◌||◌, not, ℕ, nat_le, Bool, true, false, if◌then◌else◌, List, length, map, Option, Some}
use Rattle.std.specs.Prelude.{is_ok}
use Rattle.std.specs.Option.{option_map}
use Rattle.std.specs.Prelude.{from_bits, to_bits}
use Rattle.std.specs.Float.Ieee.{binary32, binary64}
use Rattle.sf_base.specs.Data.{Assigned, Datum, Number, Real, datum_at}
use Rattle.sf_base.specs.declared.real.Real as real
use Rattle.sf_base.specs.declared.real.Real.TheVariants as reals
use Rattle.sf_base.specs.declared.values.Kind.{Kind}
use Rattle.sf_base.specs.declared.values.Kind.TheVariants as kind
use Rattle.sf_format.specs.declared.directive.Directive.{Directive}
use Rattle.sf_format.specs.declared.unit.PrintConv.{PrintConv}
use Rattle.sf_format.specs.declared.unit.Unit.{Unit as PrintUnit}
use Rattle.sf_format.specs.Proper.{destinations_of, kind_at}
use Rattle.sf_format.specs.Slots.{kind_with, slots_from}
use Rattle.sf_format.specs.Units.{is_signed, is_text, values_of}
use Rattle.sf_print.specs.Given.{given_measured, given_printed}
use Rattle.sf_report.specs.Runs.{RunReport}
use Rattle.sf_forms.specs.declared.makers.printable.PrintMismatch.{PrintMismatch}
use Rattle.sf_forms.specs.declared.makers.printable.PrintMismatch.TheVariants as mismatch
use Rattle.sf_forms.specs.makers.Works.{Work}

-- ---- kinds

-- how many bits the numbers of the kind have beside the sign (C11 6.2.6.2p2)
abbrev pub bits_of : Kind → ℕ
bits_of kind.I8 = 7
bits_of kind.I16 = 15
bits_of kind.I32 = 31
bits_of kind.I64 = 63
bits_of kind.U8 = 8
bits_of kind.U16 = 16
bits_of kind.U32 = 32
bits_of kind.U64 = 64
bits_of kind.Text = 0
bits_of kind.F32 = 0
bits_of kind.F64 = 0

-- a float of the one kind is one of the other: `double` has each value of `float` (C11 6.2.5p10)
abbrev pub holds_floats : Kind → Kind → Bool
holds_floats kind.F64 kind.F64 = true
holds_floats kind.F64 kind.F32 = true
holds_floats kind.F32 kind.F32 = true
holds_floats _ _ = false

abbrev pub is_float : Kind → Bool
is_float kind.F32 = true
is_float kind.F64 = true
is_float _ = false

-- the first kind has each value of the second
abbrev pub holds_all : Kind → Kind → Bool
holds_all wide narrow =
    if is_float wide || is_float narrow then holds_floats wide narrow else
    if is_text narrow then is_text wide else
    not (is_text wide) && (is_signed wide || not (is_signed narrow)) && nat_le (bits_of narrow) (bits_of wide)

-- a value of the second kind may be printed as one of the first
abbrev pub suit : Option Kind → Option Kind → Bool
suit (Some printed_kind) (Some scanned) = holds_all printed_kind scanned
suit _ _ = false

-- what the print format prints with the slot has each value that the scan format gives it, and isn't `long` for `int`
abbrev pub suits : List PrintUnit → List Directive → ℕ → Bool
suits units ds slot = suit (kind_with slot (values_of units)) (kind_at slot ds)

-- the print format can print what the scan format gives: there are as many values, and each suits
pub record IsPrintable (units : List PrintUnit) (ds : List Directive) : Type 0 where
  pub count : length (values_of units) ≡ length (destinations_of ds)
  pub each : (slot : ℕ) → 1 ≤ slot → slot ≤ length (values_of units) → suits units ds slot ≡ true

-- why it can't: there are not as many values; or this is the lowest slot that doesn't suit, with its kinds
abbrev pub IsMismatch : List PrintUnit → List Directive → PrintMismatch → Type 0
IsMismatch units ds (mismatch.Count values destinations) =
    (values ≡ length (values_of units)) × (destinations ≡ length (destinations_of ds)) × (values ≡ destinations → ⊥)
IsMismatch units ds (mismatch.Kinds slot print scan) =
    (length (values_of units) ≡ length (destinations_of ds)) × (kind_with slot (values_of units) ≡ Some print)
    × (kind_at slot ds ≡ Some scan) × (suit (Some print) (Some scan) ≡ false)
    × ((lower : ℕ) → 1 ≤ lower → lower < slot → suits units ds lower ≡ true)

-- ---- records

-- a float as one of the kind: `float` becomes the same number of `double` (C11 6.3.1.5p1)
abbrev pub real_in : Kind → real.Real → real.Real
real_in kind.F64 (reals.F32 bits) = reals.F64 (to_bits binary64 (from_bits binary32 bits))
real_in _ r = r

-- a number of a kind that another holds, as one of that
abbrev pub in_kind : Option Kind → Datum → Datum
in_kind (Some wide) (Number own n) = if holds_all wide own then Number wide n else Number own n
in_kind (Some wide) (Real r) = Real (real_in wide r)
in_kind _ value = value

-- the value of the slot, as one of the kind that the print format has there
abbrev pub printed_at : List PrintUnit → List Assigned → ℕ → Option Datum
printed_at units values slot = option_map (in_kind (kind_with slot (values_of units))) (datum_at slot values)

-- what the slots from 1 to n have, so: values, some of which may be missing
abbrev pub printed_row : List PrintUnit → ℕ → List Assigned → List (Option Datum)
printed_row units n values = map (printed_at units values) (slots_from 1 n)

abbrev pub printed_in : List PrintUnit → List Directive → RunReport → List (Option Datum)
printed_in units ds r = printed_row units (length (destinations_of ds)) r.values

-- the value that a conversion prints of a record, as one of its kind
abbrev pub value_found : List Assigned → PrintConv → Option Datum
value_found values c = option_map (in_kind (Some c.kind)) (datum_at c.slot values)

-- the text is what is printed of the record with so many values, which fit
pub record IsPrint (units : List PrintUnit) (n : ℕ) (values : List Assigned) (text : List ℕ) : Type 0 where
  pub fits : is_ok (given_measured units (printed_row units n values)) ≡ true
  pub text_is : text ≡ given_printed units (printed_row units n values)

-- The text of the values by the print format is written, where the format can print them: there are as many as it prints, of its
-- kinds, a text that `c` prints has one byte, and the printed text has no more bytes than one may have. A missing value is blanks, as
-- many as the width.
abbrev pub printing : List PrintUnit → List Directive → Work
printing units ds = record {
  fits = λ r. is_ok (given_measured units (printed_in units ds r));
  text = λ r. given_printed units (printed_in units ds r);
}
