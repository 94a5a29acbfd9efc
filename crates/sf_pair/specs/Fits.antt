-- Values that a pair carries over.
use Rattle.std.specs.Prelude.{ℕ, ℤ, pos, negsuc, ◌≡◌, ◌<◌, ◌≤◌, ◌↔◌, Bool, true, false, ◌==◌, ◌&&◌, nat_lt, nat_le, List, [], ◌∷◌, length}
use Rattle.std.specs.Prelude.{Option, Some, None, unsigned_abs, from_bits, if◌then◌else◌}
use Rattle.std.specs.Float.{float_is_finite}
use Rattle.std.specs.Float.Ieee.{binary64}
use Rattle.std.specs.List.{AllByRecursion, filter_map, list_all, list_any}
use Rattle.std.specs.Ordering.{int_eq}
use Rattle.sf_base.specs.Bytes.{AreBytes, is_white}
use Rattle.sf_base.specs.Blanks.{IsTrimmed, trimmed}
use Rattle.sf_base.specs.Sets.{has_byte}
use Rattle.sf_base.specs.Data.{Datum, Number, Bytes, Real, value_of}
use Rattle.sf_base.specs.declared.real.Real as real
use Rattle.sf_base.specs.declared.real.Real.TheVariants as reals
use Rattle.sf_base.specs.declared.values.Kind.{Kind}
use Rattle.sf_base.specs.declared.values.Kind.TheVariants as kind
use Rattle.sf_format.specs.declared.unit.PrintConv.{PrintConv}
use Rattle.sf_format.specs.declared.unit.Unit.{Unit as PrintUnit}
use Rattle.sf_format.specs.declared.unit.Unit.TheVariants as unit
use Rattle.sf_format.specs.declared.directive.Shape.{Shape}
use Rattle.sf_format.specs.declared.directive.Shape.TheVariants as shape
use Rattle.sf_format.specs.declared.directive.Conversion.{Conversion}
use Rattle.sf_format.specs.declared.directive.Directive.{Directive}
use Rattle.sf_format.specs.declared.directive.Directive.TheVariants as directive
use Rattle.sf_format.specs.Leads.{is_strict_lead}
use Rattle.sf_format.specs.Units.{values_of}
use Rattle.sf_item.specs.Tests.{is_ink}
use Rattle.sf_item.specs.ColumnTests.{column_text}
use Rattle.sf_print.specs.Printed.{value_at, same_kind}
use Rattle.sf_print.specs.texts.Text.{base_of, integer_text, value_text}
use Rattle.sf_print.specs.texts.Floats.{real_text}
use Rattle.sf_print.specs.texts.Visible.{visible}
use Rattle.sf_float_read.specs.value.Values.{IsStored}
use Rattle.sf_pair.specs.conversions.Neighbours.{digits_in}
use Rattle.sf_pair.specs.conversions.Reals.{seen, is_read_as}
use Rattle.sf_pair.specs.Groups.{width_of}

abbrev pub is_negative : ℤ → Bool
is_negative (pos m) = false
is_negative (negsuc n) = true

-- the number is one of the kind
abbrev pub IsOfKind : Kind → ℤ → Type 0
IsOfKind kind z = value_of kind (is_negative z) (unsigned_abs z) ≡ Some z

-- a text that an item of the shape and width can be
abbrev pub TextFits : Shape → ℕ → List ℕ → Type 0
TextFits (shape.Text lead) width bytes = (0 < length bytes) × AllByRecursion (λ b. is_white b ≡ false) bytes × (length bytes ≤ width)
TextFits (shape.Set members) width bytes = (0 < length bytes) × AllByRecursion (λ b. has_byte members b ≡ true) bytes
    × (length bytes ≤ width)
TextFits shape.Chars width bytes = length bytes ≡ width
TextFits _ width bytes = ⊥

-- the double is finite, and a scan stores it, bit for bit, of its text, which is no longer than the width
abbrev pub RealFits : PrintConv → Conversion → real.Real → Type 0
RealFits c s (reals.F32 bits) = ⊥
RealFits c s (reals.F64 bits) = (c.kind ≡ kind.F64) × (float_is_finite (from_bits binary64 bits) ≡ true)
    × (length (seen c (reals.F64 bits)) ≤ width_of s) × IsStored binary64 (seen c (reals.F64 bits)) (Some bits)

-- what the conversion prints of the value, an item of the scan's conversion can hold
abbrev pub ItemFits : PrintConv → Conversion → Datum → Type 0
ItemFits c s (Number kind z) = (kind ≡ c.kind) × IsOfKind kind z × (length (visible c z) ≤ width_of s)
ItemFits c s (Bytes bytes) = AreBytes bytes × TextFits s.shape (width_of s) bytes
ItemFits c s (Real r) = RealFits c s r

-- ---- a column

-- the text of the number has a digit; that of 0 has none where the precision is 0
abbrev pub has_digit : PrintConv → ℤ → Bool
has_digit c z = list_any (digits_in (base_of c.letter)) (integer_text c z)

-- no precision cuts the text
abbrev pub IsUncut : Option ℕ → List ℕ → Type 0
IsUncut None bytes = Unit {0}
IsUncut (Some most) bytes = length bytes ≤ most

-- with `!` the text is the column and has no white space, without it has none at its ends
abbrev pub StandsApart : Bool → ℕ → List ℕ → Type 0
StandsApart true width bytes = (length bytes ≡ width) × AllByRecursion (λ b. is_white b ≡ false) bytes
StandsApart false width bytes = IsTrimmed bytes bytes

-- a text that a column of the shape and width can have
abbrev pub TextStands : Shape → ℕ → List ℕ → Type 0
TextStands (shape.Text lead) width bytes = StandsApart (is_strict_lead lead) width bytes
TextStands (shape.Set members) width bytes = StandsApart false width bytes × AllByRecursion (λ b. has_byte members b ≡ true) bytes
TextStands _ width bytes = ⊥

-- the double is finite, and a scan stores it, bit for bit, of the text in the column
abbrev pub RealStands : PrintConv → Conversion → real.Real → Type 0
RealStands c s (reals.F32 bits) = ⊥
RealStands c s (reals.F64 bits) = (c.kind ≡ kind.F64) × (float_is_finite (from_bits binary64 bits) ≡ true)
    × IsStored binary64 (column_text s (real_text c (reals.F64 bits))) (Some bits)

abbrev pub Stands : PrintConv → Conversion → Datum → Type 0
Stands c s (Number kind z) = (kind ≡ c.kind) × IsOfKind kind z × (has_digit c z ≡ true)
Stands c s (Bytes bytes) = AreBytes bytes × IsUncut c.precision bytes × TextStands s.shape (width_of s) bytes
Stands c s (Real r) = RealStands c s r

-- what the conversion prints of the value is a column of the scan's conversion, in which the value stands
abbrev pub ColumnFits : PrintConv → Conversion → Datum → Type 0
ColumnFits c s v = (length (value_text c v) ≡ width_of s) × Stands c s v

-- ---- either

abbrev pub FitsBy : Bool → PrintConv → Conversion → Datum → Type 0
FitsBy true c s v = ColumnFits c s v
FitsBy false c s v = ItemFits c s v

-- what the conversion prints of the value, the scan's conversion reads as the value
abbrev pub ValueFits : PrintConv → Conversion → Datum → Type 0
ValueFits c s v = FitsBy s.column c s v

abbrev pub FitsAt : List Datum → PrintConv → Conversion → Type 0
FitsAt values c s = (v : Datum) × (value_at values c.slot ≡ Some v) × ValueFits c s v

abbrev pub AllFit : List Datum → List PrintConv → List Conversion → Type 0
AllFit values [] [] = Unit {0}
AllFit values (c ∷ cs) (s ∷ ss) = FitsAt values c s × AllFit values cs ss
AllFit values _ _ = ⊥

-- the conversions of a print format, in order
abbrev pub printed_by : PrintUnit → Option PrintConv
printed_by (unit.Byte b) = None
printed_by (unit.Conv c) = Some c

abbrev pub conversions : List PrintUnit → List PrintConv
conversions us = filter_map printed_by us

-- the assigned conversions of a scan format, in order
abbrev pub assigned_by : Directive → Option Conversion
assigned_by (directive.Conv s) = elim s.slot [ None ↦ None | Some slot ↦ Some s ]
assigned_by _ = None

abbrev pub assigned_conversions : List Directive → List Conversion
assigned_conversions ds = filter_map assigned_by ds

-- the values are as many as the slots, and each fits the conversions that print and read it
pub record Fit (us : List PrintUnit) (ds : List Directive) (values : List Datum) : Type 0 where
  pub count : length values ≡ length (values_of us)
  pub each : AllFit values (conversions us) (assigned_conversions ds)

-- ---- the same as a test

abbrev pub is_number_so : Option ℤ → ℤ → Bool
is_number_so None z = false
is_number_so (Some y) z = int_eq y z

abbrev pub is_of_kind : Kind → ℤ → Bool
is_of_kind kind z = is_number_so (value_of kind (is_negative z) (unsigned_abs z)) z

abbrev pub is_byte : ℕ → Bool
is_byte b = nat_lt b 256

abbrev pub is_item_of : (ℕ → Bool) → ℕ → List ℕ → Bool
is_item_of test width bytes = nat_lt 0 (length bytes) && nat_le (length bytes) width && list_all test bytes

abbrev pub text_fits : Shape → ℕ → List ℕ → Bool
text_fits (shape.Text lead) width bytes = is_item_of is_ink width bytes
text_fits (shape.Set members) width bytes = is_item_of (has_byte members) width bytes
text_fits shape.Chars width bytes = length bytes == width
text_fits _ width bytes = false

abbrev pub real_fits : PrintConv → Conversion → real.Real → Bool
real_fits c s (reals.F32 bits) = false
real_fits c s (reals.F64 bits) = same_kind c.kind kind.F64 && float_is_finite (from_bits binary64 bits)
    && nat_le (length (seen c (reals.F64 bits))) (width_of s) && is_read_as (seen c (reals.F64 bits)) bits

abbrev pub item_fits : PrintConv → Conversion → Datum → Bool
item_fits c s (Number kind z) = same_kind kind c.kind && is_of_kind kind z && nat_le (length (visible c z)) (width_of s)
item_fits c s (Bytes bytes) = list_all is_byte bytes && text_fits s.shape (width_of s) bytes
item_fits c s (Real r) = real_fits c s r

abbrev pub is_uncut : Option ℕ → List ℕ → Bool
is_uncut None bytes = true
is_uncut (Some most) bytes = nat_le (length bytes) most

abbrev pub is_trimmed : List ℕ → Bool
is_trimmed bytes = nat_lt 0 (length bytes) && length (trimmed bytes) == length bytes

abbrev pub stands_apart : Bool → ℕ → List ℕ → Bool
stands_apart true width bytes = length bytes == width && list_all is_ink bytes
stands_apart false width bytes = is_trimmed bytes

abbrev pub text_stands : Shape → ℕ → List ℕ → Bool
text_stands (shape.Text lead) width bytes = stands_apart (is_strict_lead lead) width bytes
text_stands (shape.Set members) width bytes = is_trimmed bytes && list_all (has_byte members) bytes
text_stands _ width bytes = false

abbrev pub real_stands : PrintConv → Conversion → real.Real → Bool
real_stands c s (reals.F32 bits) = false
real_stands c s (reals.F64 bits) = same_kind c.kind kind.F64 && float_is_finite (from_bits binary64 bits)
    && is_read_as (column_text s (real_text c (reals.F64 bits))) bits

abbrev pub stands : PrintConv → Conversion → Datum → Bool
stands c s (Number kind z) = same_kind kind c.kind && is_of_kind kind z && has_digit c z
stands c s (Bytes bytes) = list_all is_byte bytes && (is_uncut c.precision bytes && text_stands s.shape (width_of s) bytes)
stands c s (Real r) = real_stands c s r

abbrev pub column_fits : PrintConv → Conversion → Datum → Bool
column_fits c s v = length (value_text c v) == width_of s && stands c s v

abbrev pub value_fits : PrintConv → Conversion → Datum → Bool
value_fits c s v = if s.column then column_fits c s v else item_fits c s v

abbrev pub fits_or_not : PrintConv → Conversion → Option Datum → Bool
fits_or_not c s None = false
fits_or_not c s (Some v) = value_fits c s v

abbrev pub all_fit : List Datum → List PrintConv → List Conversion → Bool
all_fit values [] [] = true
all_fit values (c ∷ cs) (s ∷ ss) = fits_or_not c s (value_at values c.slot) && all_fit values cs ss
all_fit values _ _ = false

abbrev pub fits : List PrintUnit → List Directive → List Datum → Bool
fits us ds values = (length values == length (values_of us)) && all_fit values (conversions us) (assigned_conversions ds)

-- the test is exact
abbrev pub FitsIsFit : Type 0
FitsIsFit = (us : List PrintUnit) (ds : List Directive) (values : List Datum) → fits us ds values ≡ true ↔ Fit us ds values
