-- The tests of what fits, and what they say.
use Rattle.std.proofs.Common.{◌≡◌, ℕ, suc, ◌+◌, ◌<◌, ◌≤◌, Bool, true, false, cond, ◌&&◌, nat_lt, nat_le, nat_eq, List, [], ◌∷◌, length}
use Rattle.std.proofs.Common.{get_or}
use Rattle.std.proofs.Common.{drop, is_some, ap₂, ℤ, unsigned_abs, Option, Some, None, from_bits, refl, sym, ap, subst, ◌∙◌, arith}
use Rattle.std.proofs.lemmas.Bool.{eqb-true}
use Rattle.std.proofs.lemmas.Bool.Decides.{nat_tests, Decides-int_eq}
use Rattle.std.specs.Prelude.{◌↔◌, not, MatchOption}
use Rattle.std.specs.Float.{float_is_finite}
use Rattle.std.specs.Float.Ieee.{binary64}
use Rattle.std.specs.List.{AllByRecursion, list_all, cons_option}
use Rattle.sf_base.specs.Bytes.{is_white}
use Rattle.sf_base.specs.Blanks.{IsTrimmed, trimmed}
use Rattle.sf_base.specs.Sets.{has_byte}
use Rattle.sf_base.specs.Data.{Datum, Number, Bytes, Real, value_of}
use Rattle.sf_base.specs.declared.real.Real as real
use Rattle.sf_base.specs.declared.real.Real.TheVariants as reals
use Rattle.sf_base.specs.declared.values.Kind.{Kind}
use Rattle.sf_base.specs.declared.values.Kind.TheVariants as kind
use Rattle.sf_format.specs.declared.directive.Shape.{Shape}
use Rattle.sf_format.specs.declared.directive.Shape.TheVariants as shape
use Rattle.sf_format.specs.declared.directive.Conversion.{Conversion}
use Rattle.sf_format.specs.declared.directive.Directive.{Directive}
use Rattle.sf_format.specs.declared.unit.PrintConv.{PrintConv}
use Rattle.sf_format.specs.declared.unit.Unit.{Unit as PrintUnit}
use Rattle.sf_format.specs.Units.{values_of}
use Rattle.sf_float_read.specs.declared.item.reached.Forms.TheVariants as forms
use Rattle.sf_float_read.specs.item.Tests.{is_float}
use Rattle.sf_float_read.specs.value.Values.{IsStored}
use Rattle.sf_float_read.specs.value.Computed.{stored_in}
use Rattle.sf_format.specs.Leads.{is_strict_lead}
use Rattle.sf_item.specs.Tests.{is_ink}
use Rattle.sf_item.specs.ColumnTests.{column_text}
use Rattle.sf_print.specs.Printed.{value_at, same_kind}
use Rattle.sf_print.specs.texts.Floats.{real_text}
use Rattle.sf_print.specs.texts.Text.{value_text}
use Rattle.sf_print.specs.texts.Visible.{visible}
use Rattle.sf_pair.specs.conversions.Below.{LawsBelow}
use Rattle.sf_pair.specs.conversions.Reals.{seen, is_pattern, is_read_as}
use Rattle.sf_pair.specs.Groups.{width_of}
use Rattle.sf_pair.specs.Fits.{is_negative, TextFits, RealFits, ItemFits, has_digit, IsUncut, StandsApart, TextStands, RealStands, Stands}
use Rattle.sf_pair.specs.Fits.{ColumnFits, FitsBy, ValueFits, FitsAt, AllFit, Fit, conversions, assigned_by, assigned_conversions}
use Rattle.sf_pair.specs.Fits.{is_number_so, is_of_kind, is_byte, is_item_of, text_fits, real_fits, item_fits, is_uncut, is_trimmed}
use Rattle.sf_pair.specs.Fits.{}
use Rattle.sf_pair.specs.Fits.{stands_apart, text_stands, real_stands, stands, column_fits, value_fits, fits_or_not, all_fit, fits}
use Rattle.sf_pair.specs.Fits.{FitsIsFit}
use Rattle.sf_pair.specs.Formats.{Formats}
use Rattle.sf_pair.proofs.Paired.{and_so, and_both, kinds_are}
use Rattle.sf_pair.proofs.Trims.{ends_some, as_long, long_as}

lt_true : (a b : ℕ) → a < b → nat_lt a b ≡ true
lt_true a b h = grind (arith, nat_tests)

lt_so : (a b : ℕ) → nat_lt a b ≡ true → a < b
lt_so a b h = grind (arith, nat_tests)

le_true : (a b : ℕ) → a ≤ b → nat_le a b ≡ true
le_true a b h = grind (arith, nat_tests)

le_so : (a b : ℕ) → nat_le a b ≡ true → a ≤ b
le_so a b h = grind (arith, nat_tests)

eq_true : (a b : ℕ) → a ≡ b → nat_eq a b ≡ true
eq_true a b h = grind (arith, nat_tests)

-- the bytes of a slice
pub all_bytes : (bs : List ℕ) → ((i : ℕ) → get_or bs i 0 < 256) → list_all is_byte bs ≡ true
all_bytes [] h = refl
all_bytes (b ∷ bs) h = and_so (nat_lt b 256) (list_all is_byte bs) (lt_true b 256 (h 0)) (all_bytes bs (λ i. h (suc i)))

-- ---- lists

module _ {A : Type 0} (test : A → Bool) (P : A → Type 0) (each : (x : A) → test x ≡ true ↔ P x) where
  pub all_is : (xs : List A) → list_all test xs ≡ true ↔ AllByRecursion P xs
  all_is [] = (λ e. tt, λ h. refl)
  all_is (x ∷ xs) = (
    λ e. let h = and_both (test x) (list_all test xs) e in ((each x).0 h.0, (all_is xs).0 h.1),
    λ h. and_so (test x) (list_all test xs) ((each x).1 h.0) ((all_is xs).1 h.1),
  )

pub ink_is : (b : ℕ) → is_ink b ≡ true ↔ (is_white b ≡ false)
ink_is b = by (is_white b)
  where
    by : (t : Bool) → not t ≡ true ↔ (t ≡ false)
    by true = (λ e. absurd cc, λ e. absurd cc)
    by false = (λ e. refl, λ e. refl)

byte_is : (b : ℕ) → is_byte b ≡ true ↔ (b < 256)
byte_is b = (lt_so b 256, lt_true b 256)

-- ---- texts

item_is : (test : ℕ → Bool) (P : ℕ → Type 0) → ((b : ℕ) → test b ≡ true ↔ P b) → (width : ℕ) (bytes : List ℕ)
    → is_item_of test width bytes ≡ true ↔ ((0 < length bytes) × AllByRecursion P bytes × (length bytes ≤ width))
item_is test P each width bytes = (
  λ e. let h = and_both (nat_lt 0 (length bytes) && nat_le (length bytes) width) (list_all test bytes) e in
      let k = and_both (nat_lt 0 (length bytes)) (nat_le (length bytes) width) h.0 in
      (lt_so 0 (length bytes) k.0, (all_is test P each bytes).0 h.1, le_so (length bytes) width k.1),
  λ h. and_so (nat_lt 0 (length bytes) && nat_le (length bytes) width) (list_all test bytes)
      (and_so (nat_lt 0 (length bytes)) (nat_le (length bytes) width) (lt_true 0 (length bytes) h.0) (le_true (length bytes) width h.2))
      ((all_is test P each bytes).1 h.1),
)

text_is : (read : Shape) (width : ℕ) (bytes : List ℕ) → text_fits read width bytes ≡ true ↔ TextFits read width bytes
text_is (shape.Text lead) width bytes = item_is is_ink (λ b. is_white b ≡ false) ink_is width bytes
text_is (shape.Set members) width bytes = item_is (has_byte members) (λ b. has_byte members b ≡ true) (λ b. (λ e. e, λ e. e)) width bytes
text_is shape.Chars width bytes = (λ e. eqb-true (length bytes) width e, λ e. eq_true (length bytes) width e)
text_is (shape.Int numeral) width bytes = (λ e. absurd cc, λ h. absurd h)
text_is (shape.Float lead) width bytes = (λ e. absurd cc, λ h. absurd h)
text_is shape.Count width bytes = (λ e. absurd cc, λ h. absurd h)

-- ---- numbers

pub same_itself : (k : Kind) → same_kind k k ≡ true
same_itself kind.I8 = refl
same_itself kind.I16 = refl
same_itself kind.I32 = refl
same_itself kind.I64 = refl
same_itself kind.U8 = refl
same_itself kind.U16 = refl
same_itself kind.U32 = refl
same_itself kind.U64 = refl
same_itself kind.Text = refl
same_itself kind.F32 = refl
same_itself kind.F64 = refl

number_so : (o : Option ℤ) (z : ℤ) → is_number_so o z ≡ true ↔ (o ≡ Some z)
number_so None z = (λ e. absurd cc, λ e. absurd cc)
number_so (Some y) z = let d = Decides-int_eq y z in (λ e. ap Some (d.0 e), λ e. d.1 (let same : y ≡ z = cc in same))

-- ---- floats

pattern_is : (o : Option ℕ) (bits : ℕ) → is_pattern o bits ≡ true ↔ (o ≡ Some bits)
pattern_is None bits = (λ e. absurd cc, λ e. absurd cc)
pattern_is (Some b) bits = (λ e. ap Some (eqb-true b bits e), λ e. eq_true b bits (let same : b ≡ bits = cc in same))

read_as_is : LawsBelow → (item : List ℕ) (bits : ℕ) → is_read_as item bits ≡ true ↔ IsStored binary64 item (Some bits)
read_as_is laws item bits = (
  λ e. let h = and_both (is_float item) (is_pattern (stored_in binary64 item) bits) e in
      subst (IsStored binary64 item) ((pattern_is (stored_in binary64 item) bits).0 h.1)
      ((laws.stored binary64 item).0 ((laws.floats forms.All item).0.0 h.0)),
  λ h. let k = (laws.stored binary64 item).1 (Some bits) h in
      and_so (is_float item) (is_pattern (stored_in binary64 item) bits) ((laws.floats forms.All item).0.1 k.0)
      ((pattern_is (stored_in binary64 item) bits).1 (sym k.1)),
)

real_is : LawsBelow → (c : PrintConv) (s : Conversion) (r : real.Real) → real_fits c s r ≡ true ↔ RealFits c s r
real_is laws c s (reals.F32 bits) = (λ e. absurd cc, λ h. absurd h)
real_is laws c s (reals.F64 bits) =
    let item : List ℕ = seen c (reals.F64 bits) in
    let finite : Bool = float_is_finite (from_bits binary64 bits) in
    let within : Bool = nat_le (length item) (width_of s) in (
      λ e. let h = and_both (same_kind c.kind kind.F64 && finite && within) (is_read_as item bits) e in
          let g = and_both (same_kind c.kind kind.F64 && finite) within h.0 in
          let k = and_both (same_kind c.kind kind.F64) finite g.0 in
          (kinds_are c.kind kind.F64 k.0, k.1, le_so (length item) (width_of s) g.1, (read_as_is laws item bits).0 h.1),
      λ h. and_so (same_kind c.kind kind.F64 && finite && within) (is_read_as item bits)
          (and_so (same_kind c.kind kind.F64 && finite) within
          (and_so (same_kind c.kind kind.F64) finite (ap (λ (k : Kind). same_kind k kind.F64) h.0) h.1)
          (le_true (length item) (width_of s) h.2)) ((read_as_is laws item bits).1 h.3),
    )

-- ---- values

item_fits_is : LawsBelow → (c : PrintConv) (s : Conversion) (v : Datum) → item_fits c s v ≡ true ↔ ItemFits c s v
item_fits_is laws c s (Number k z) = (
  λ e. let h = and_both (same_kind k c.kind && is_of_kind k z) (nat_le (length (visible c z)) (width_of s)) e in
      let g = and_both (same_kind k c.kind) (is_of_kind k z) h.0 in
      (kinds_are k c.kind g.0, (number_so (value_of k (is_negative z) (unsigned_abs z)) z).0 g.1, le_so _ _ h.1),
  λ h. and_so (same_kind k c.kind && is_of_kind k z) (nat_le (length (visible c z)) (width_of s))
      (and_so (same_kind k c.kind) (is_of_kind k z) (ap (same_kind k) (sym h.0) ∙ same_itself k)
      ((number_so (value_of k (is_negative z) (unsigned_abs z)) z).1 h.1))
      (le_true _ _ h.2),
)
item_fits_is laws c s (Real r) = real_is laws c s r
item_fits_is laws c s (Bytes bytes) = (
  λ e. let h = and_both (list_all is_byte bytes) (text_fits s.shape (width_of s) bytes) e in
      ((all_is is_byte (λ b. b < 256) byte_is bytes).0 h.0, (text_is s.shape (width_of s) bytes).0 h.1),
  λ h. and_so (list_all is_byte bytes) (text_fits s.shape (width_of s) bytes) ((all_is is_byte (λ b. b < 256) byte_is bytes).1 h.0)
      ((text_is s.shape (width_of s) bytes).1 h.1),
)

-- ---- columns

uncut_is : (o : Option ℕ) (bytes : List ℕ) → is_uncut o bytes ≡ true ↔ IsUncut o bytes
uncut_is None bytes = (λ e. tt, λ h. refl)
uncut_is (Some most) bytes = (λ e. le_so (length bytes) most e, λ h. le_true (length bytes) most h)

trimmed_is : (bytes : List ℕ) → is_trimmed bytes ≡ true ↔ IsTrimmed bytes bytes
trimmed_is bytes = (
  λ e. let h = and_both (nat_lt 0 (length bytes)) (nat_eq (length (trimmed bytes)) (length bytes)) e in
      as_long bytes (lt_so 0 (length bytes) h.0) (eqb-true (length (trimmed bytes)) (length bytes) h.1),
  λ h. and_so (nat_lt 0 (length bytes)) (nat_eq (length (trimmed bytes)) (length bytes))
      (lt_true 0 (length bytes) (ends_some bytes h.ends)) (eq_true _ _ (long_as bytes h)),
)

apart_is : (strict : Bool) (width : ℕ) (bytes : List ℕ) → stands_apart strict width bytes ≡ true ↔ StandsApart strict width bytes
apart_is true width bytes = (
  λ e. let h = and_both (nat_eq (length bytes) width) (list_all is_ink bytes) e in
      (eqb-true (length bytes) width h.0, (all_is is_ink (λ b. is_white b ≡ false) ink_is bytes).0 h.1),
  λ h. and_so (nat_eq (length bytes) width) (list_all is_ink bytes) (eq_true _ _ h.0)
      ((all_is is_ink (λ b. is_white b ≡ false) ink_is bytes).1 h.1),
)
apart_is false width bytes = trimmed_is bytes

text_stands_is : (read : Shape) (width : ℕ) (bytes : List ℕ) → text_stands read width bytes ≡ true ↔ TextStands read width bytes
text_stands_is (shape.Text lead) width bytes = apart_is (is_strict_lead lead) width bytes
text_stands_is (shape.Set members) width bytes =
    let all = all_is (has_byte members) (λ b. has_byte members b ≡ true) (λ b. (λ e. e, λ e. e)) bytes in (
      λ e. let h = and_both (is_trimmed bytes) (list_all (has_byte members) bytes) e in ((trimmed_is bytes).0 h.0, all.0 h.1),
      λ h. and_so (is_trimmed bytes) (list_all (has_byte members) bytes) ((trimmed_is bytes).1 h.0) (all.1 h.1),
    )
text_stands_is (shape.Int numeral) width bytes = (λ e. absurd cc, λ h. absurd h)
text_stands_is (shape.Float lead) width bytes = (λ e. absurd cc, λ h. absurd h)
text_stands_is shape.Chars width bytes = (λ e. absurd cc, λ h. absurd h)
text_stands_is shape.Count width bytes = (λ e. absurd cc, λ h. absurd h)

real_stands_is : LawsBelow → (c : PrintConv) (s : Conversion) (r : real.Real) → real_stands c s r ≡ true ↔ RealStands c s r
real_stands_is laws c s (reals.F32 bits) = (λ e. absurd cc, λ h. absurd h)
real_stands_is laws c s (reals.F64 bits) =
    let item : List ℕ = column_text s (real_text c (reals.F64 bits)) in
    let finite : Bool = float_is_finite (from_bits binary64 bits) in (
      λ e. let h = and_both (same_kind c.kind kind.F64 && finite) (is_read_as item bits) e in
          let k = and_both (same_kind c.kind kind.F64) finite h.0 in
          (kinds_are c.kind kind.F64 k.0, k.1, (read_as_is laws item bits).0 h.1),
      λ h. and_so (same_kind c.kind kind.F64 && finite) (is_read_as item bits)
          (and_so (same_kind c.kind kind.F64) finite (ap (λ (k : Kind). same_kind k kind.F64) h.0) h.1)
          ((read_as_is laws item bits).1 h.2),
    )

stands_is : LawsBelow → (c : PrintConv) (s : Conversion) (v : Datum) → stands c s v ≡ true ↔ Stands c s v
stands_is laws c s (Number k z) = (
  λ e. let h = and_both (same_kind k c.kind && is_of_kind k z) (has_digit c z) e in
      let g = and_both (same_kind k c.kind) (is_of_kind k z) h.0 in
      (kinds_are k c.kind g.0, (number_so (value_of k (is_negative z) (unsigned_abs z)) z).0 g.1, h.1),
  λ h. and_so (same_kind k c.kind && is_of_kind k z) (has_digit c z)
      (and_so (same_kind k c.kind) (is_of_kind k z) (ap (same_kind k) (sym h.0) ∙ same_itself k)
      ((number_so (value_of k (is_negative z) (unsigned_abs z)) z).1 h.1)) h.2,
)
stands_is laws c s (Real r) = real_stands_is laws c s r
stands_is laws c s (Bytes bytes) =
    let text : Bool = text_stands s.shape (width_of s) bytes in (
      λ e. let h = and_both (list_all is_byte bytes) (is_uncut c.precision bytes && text) e in
          let k = and_both (is_uncut c.precision bytes) text h.1 in
          ((all_is is_byte (λ b. b < 256) byte_is bytes).0 h.0, (uncut_is c.precision bytes).0 k.0, (text_stands_is s.shape _ bytes).0 k.1),
      λ h. and_so (list_all is_byte bytes) (is_uncut c.precision bytes && text)
          ((all_is is_byte (λ b. b < 256) byte_is bytes).1 h.0)
          (and_so (is_uncut c.precision bytes) text ((uncut_is c.precision bytes).1 h.1) ((text_stands_is s.shape _ bytes).1 h.2)),
    )

column_is : LawsBelow → (c : PrintConv) (s : Conversion) (v : Datum) → column_fits c s v ≡ true ↔ ColumnFits c s v
column_is laws c s v = (
  λ e. let h = and_both (nat_eq (length (value_text c v)) (width_of s)) (stands c s v) e in
      (eqb-true (length (value_text c v)) (width_of s) h.0, (stands_is laws c s v).0 h.1),
  λ h. and_so (nat_eq (length (value_text c v)) (width_of s)) (stands c s v) (eq_true _ _ h.0) ((stands_is laws c s v).1 h.1),
)

-- ---- either

value_is : LawsBelow → (c : PrintConv) (s : Conversion) (v : Datum) → value_fits c s v ≡ true ↔ ValueFits c s v
value_is laws c s v = by s.column
  where
    by : (t : Bool) → cond t (column_fits c s v) (item_fits c s v) ≡ true ↔ FitsBy t c s v
    by true = column_is laws c s v
    by false = item_fits_is laws c s v

-- ---- the whole

at_is : LawsBelow → (values : List Datum) (c : PrintConv) (s : Conversion)
    → fits_or_not c s (value_at values c.slot) ≡ true ↔ FitsAt values c s
at_is laws values c s = by (value_at values c.slot)
  where
    by : (o : Option Datum) → fits_or_not c s o ≡ true ↔ ((v : Datum) × (o ≡ Some v) × ValueFits c s v)
    by None = (λ e. absurd cc, λ h. absurd (let wrong : None ≡ Some h.0 = h.1 in cc))
    by (Some v) = (
      λ e. (v, refl, (value_is laws c s v).0 e),
      λ h. (value_is laws c s v).1
          (subst (ValueFits c s) (let same : h.0 ≡ v = (let e = h.1 in cc) in same) h.2),
    )

all_fit_is : LawsBelow → (values : List Datum) (cs : List PrintConv) (ss : List Conversion)
    → all_fit values cs ss ≡ true ↔ AllFit values cs ss
all_fit_is laws values [] [] = (λ e. tt, λ h. refl)
all_fit_is laws values [] (s ∷ ss) = (λ e. absurd cc, λ h. absurd h)
all_fit_is laws values (c ∷ cs) [] = (λ e. absurd cc, λ h. absurd h)
all_fit_is laws values (c ∷ cs) (s ∷ ss) = (
  λ e. let h = and_both (fits_or_not c s (value_at values c.slot)) (all_fit values cs ss) e in
      ((at_is laws values c s).0 h.0, (all_fit_is laws values cs ss).0 h.1),
  λ h. and_so (fits_or_not c s (value_at values c.slot)) (all_fit values cs ss) ((at_is laws values c s).1 h.0)
      ((all_fit_is laws values cs ss).1 h.1),
)

pub fits_is_fit : LawsBelow → FitsIsFit
fits_is_fit laws us ds values = (
  λ e. let h = and_both (nat_eq (length values) (length (values_of us))) (all_fit values (conversions us) (assigned_conversions ds)) e in
      record {
        count = eqb-true (length values) (length (values_of us)) h.0;
        each =
            (all_fit_is laws values (conversions us) (assigned_conversions ds)).0 h.1;
      },
  λ h. and_so (nat_eq (length values) (length (values_of us))) (all_fit values (conversions us) (assigned_conversions ds))
      (eq_true _ _ h.count) ((all_fit_is laws values (conversions us) (assigned_conversions ds)).1 h.each),
)

-- ---- the loop over the directives

pub assigned_next : (ds : List Directive) (i : ℕ) (d : Directive) (o : Option Conversion) → drop i ds ≡ d ∷ drop (i + 1) ds
    → assigned_by d ≡ o → assigned_conversions (drop i ds) ≡ cons_option o (assigned_conversions (drop (i + 1) ds))
assigned_next ds i d o e a = ap assigned_conversions e ∙ ap (λ (o : Option Conversion). cons_option o
    (assigned_conversions (drop (i + 1) ds))) a

pub one_fits : (values : List Datum) (left rest : List PrintUnit) (c : PrintConv) (ds : List Directive) (i : ℕ) (d : Directive)
    (s : Conversion) → drop i ds ≡ d ∷ drop (i + 1) ds
    → assigned_by d ≡ Some s → conversions left ≡ c ∷ conversions rest
    → all_fit values (conversions left) (assigned_conversions (drop i ds))
    ≡ (fits_or_not c s (value_at values c.slot) && all_fit values (conversions rest) (assigned_conversions (drop (i + 1) ds)))
one_fits values left rest c ds i d s e a u = ap₂ (all_fit values) u (assigned_next ds i d (Some s) e a)

pub none_left : (values : List Datum) (left : List PrintUnit) (ds : List Directive) (i : ℕ) (d : Directive) (s : Conversion)
    → drop i ds ≡ d ∷ drop (i + 1) ds
    → assigned_by d ≡ Some s → conversions left ≡ [] → all_fit values (conversions left) (assigned_conversions (drop i ds)) ≡ false
none_left values left ds i d s e a u = ap₂ (all_fit values) u (assigned_next ds i d (Some s) e a)

pub none_assigned : (values : List Datum) (left : List PrintUnit) (ds : List Directive) (i : ℕ) (d : Directive)
    → drop i ds ≡ d ∷ drop (i + 1) ds → assigned_by d ≡ None
    → all_fit values (conversions left) (assigned_conversions (drop i ds))
    ≡ all_fit values (conversions left) (assigned_conversions (drop (i + 1) ds))
none_assigned values left ds i d e a = ap (all_fit values (conversions left)) (assigned_next ds i d None e a)

pub none_fit : (values : List Datum) (cs : List PrintConv) (ss : List Conversion) (c : PrintConv) (s : Conversion) (x : Bool)
    → x ≡ fits_or_not c s (value_at values c.slot) → x ≡ false
    → (fits_or_not c s (value_at values c.slot) && all_fit values cs ss) ≡ false
none_fit values cs ss c s x e f = ap (λ (t : Bool). t && all_fit values cs ss) (sym e ∙ f)

pub some_fit : (values : List Datum) (cs : List PrintConv) (ss : List Conversion) (c : PrintConv) (s : Conversion) (x : Bool)
    → x ≡ fits_or_not c s (value_at values c.slot) → x ≡ true
    → (fits_or_not c s (value_at values c.slot) && all_fit values cs ss) ≡ all_fit values cs ss
some_fit values cs ss c s x e f = ap (λ (t : Bool). t && all_fit values cs ss) (sym e ∙ f)

-- no directive is left
pub last : {A : Type 0} (o : Option A) (P : A → Type 0) (values : List Datum) (cs : List PrintConv) (r : Bool) → is_some o ≡ not r
    → MatchOption o (cs ≡ []) P
    → ((x : A) → P x → (c : PrintConv) × (rest : List PrintConv) × (cs ≡ c ∷ rest)) → r ≡ all_fit values cs []
last None P values cs true e m h = sym (ap (λ (cs : List PrintConv). all_fit values cs []) m)
last None P values cs false e m h = absurd cc
last (Some x) P values cs true e m h = absurd cc
last (Some x) P values cs false e m h = sym (ap (λ (cs : List PrintConv). all_fit values cs []) (h x m).2)

-- what the code tests, as the contract of a pair sees it
pub fits_when : LawsBelow → (us : List PrintUnit) (ds : List Directive) (f : Formats) (values : List Datum) (r : Bool)
    → record { print = us; scan = ds } ≡ f → length values ≡ length (values_of us)
    → r ≡ all_fit values (conversions us) (assigned_conversions ds) → (r ≡ true) ↔ Fit f.print f.scan values
fits_when laws us ds f values r same count e =
    let is : r ≡ fits us ds values = e ∙ sym (ap (λ (t : Bool). t && all_fit values (conversions us) (assigned_conversions ds))
    (eq_true (length values) (length (values_of us)) count)) in
    let d = fits_is_fit laws us ds values in (
      λ h. subst (λ (f : Formats). Fit f.print f.scan values) same (d.0 (sym is ∙ h)),
      λ h. is ∙ d.1 (subst (λ (f : Formats). Fit f.print f.scan values) (sym same) h),
    )
