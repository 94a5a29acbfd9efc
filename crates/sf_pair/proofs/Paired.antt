-- What is known of a print conversion and a scan conversion that pair.
use Rattle.std.proofs.Common.{◌≡◌, ℕ, suc, ◌-◌, ◌%◌, ◌^◌, ◌<◌, ◌≤◌, Bool, true, false, cond, eqb, ◌&&◌, ◌||◌, nat_lt, nat_le, [], ◌∷◌}
use Rattle.std.proofs.Common.{length, ℤ, pos, negsuc, Option, Some, None, is_some, unwrap_or, refl, sym, ap, ◌∙◌, subst, arith, lit≤}
use Rattle.std.specs.Prelude.{not, is_none}
use Rattle.std.proofs.lemmas.Bool.{eqb-true}
use Rattle.std.proofs.lemmas.Bool.Decides.{nat_tests}
use Rattle.sf_base.specs.declared.values.Kind.{Kind}
use Rattle.sf_base.specs.declared.values.Kind.TheVariants as kind
use Rattle.sf_base.specs.Data.{signed_value, unsigned_value, value_of}
use Rattle.sf_base.specs.Data.{Datum}
use Rattle.sf_format.specs.declared.directive.Shape.{Shape}
use Rattle.sf_format.specs.declared.directive.Conversion.{Conversion}
use Rattle.sf_format.specs.declared.unit.PrintConv.{PrintConv}
use Rattle.sf_format.specs.Leads.{is_strict}
use Rattle.sf_format.specs.Units.{is_unsigned}
use Rattle.sf_print.specs.Printed.{same_kind}
use Rattle.sf_print.specs.texts.Text.{least_digits}
use Rattle.sf_base.specs.Rules.{first_reason}
pub use Rattle.sf_pair.proofs.ConversionLemmas.Tests.{or_none, not_none, and_so, and_both}
use Rattle.sf_pair.specs.declared.fault.PairWhy.TheVariants as why
use Rattle.sf_pair.specs.Groups.{is_integer, is_number, is_text, is_chars, is_one, letters_pair, width_of, least_by, kinds_differ}
use Rattle.sf_pair.specs.conversions.Neighbours.{fills_with_zeros}
use Rattle.sf_pair.specs.Groups.{is_hex_float, adds_to_number, fills_badly, is_width, is_other_width, bad_mark}
use Rattle.sf_pair.specs.Groups.{numbers_differ, bad_flag, has_no_width, too_narrow, leading_zero, rule, pairing_fault}
use Rattle.sf_pair.specs.Fits.{IsOfKind, ItemFits, ColumnFits, FitsBy, ValueFits}

-- ---- tests

seven : (m a b c d e f : Bool) → first_reason (rule why.BadMark m ∷ rule why.KindDiffers a ∷ rule why.NumberDiffers b
    ∷ rule why.BadFlagHere c ∷ rule why.NoWidth d ∷ rule why.TooNarrow e ∷ rule why.LeadingZero f ∷ []) ≡ None
    → (m ≡ false) × (a ≡ false) × (b ≡ false) × (c ≡ false) × (d ≡ false) × (e ≡ false) × (f ≡ false)
seven false false false false false false false h = (refl, refl, refl, refl, refl, refl, refl)
seven _ _ _ _ _ _ _ h = absurd cc

four : (a b c d : Bool) → (a || b || c || d) ≡ false → (a ≡ false) × (b ≡ false) × (c ≡ false) × (d ≡ false)
four false false false false h = (refl, refl, refl, refl)
four _ _ _ _ h = absurd cc

five : (a b c d e : Bool) → (a || b || c || d || e) ≡ false → (a ≡ false) × (b ≡ false) × (c ≡ false) × (d ≡ false) × (e ≡ false)
five false false false false false h = (refl, refl, refl, refl, refl)
five _ _ _ _ _ h = absurd cc

-- ---- the pair

-- what a conversion with ! is paired with
pub record IsBare (c : PrintConv) : Type 0 where
  pub plus : c.plus ≡ false
  pub blank : c.blank ≡ false
  pub alt : c.alt ≡ false
  pub decimal : is_hex_float c.letter ≡ false

pub record IsPlain (c : PrintConv) : Type 0 where
  pub bare : IsBare c
  pub unpadded : nat_lt 0 c.width ≡ false

-- of each pair
pub record Alike (c : PrintConv) (s : Conversion) : Type 0 where
  pub marked : bad_mark c s ≡ false
  pub same : same_kind c.kind s.kind ≡ true
  pub letters : letters_pair c.letter s.shape ≡ true
  pub slot : unwrap_or s.slot 0 ≡ c.slot
  pub no_zeros : leading_zero c s ≡ false

-- of one that reads an item
pub record Pairs (c : PrintConv) (s : Conversion) : Type 0 where
  pub alike : Alike c s
  pub item : s.column ≡ false
  pub right : c.minus ≡ false
  pub some_digit : (is_integer s.shape && eqb (least_digits c) 0) ≡ false
  pub whole : (not (is_number s.shape) && is_some c.precision) ≡ false
  pub unpadded : (not (is_number s.shape) && not (is_text s.shape) && nat_lt 0 c.width) ≡ false
  pub single : (is_one c.letter && not (eqb (width_of s) 1)) ≡ false
  pub width : has_no_width s ≡ false
  pub wide : too_narrow c s ≡ false

-- the rules of a pair, none of which applies
none_applies : (c : PrintConv) (s : Conversion) → pairing_fault c s ≡ None
    → (bad_mark c s ≡ false) × (kinds_differ c s ≡ false) × (numbers_differ c s ≡ false) × ((not s.column && bad_flag c s) ≡ false)
    × ((not s.column && has_no_width s) ≡ false) × ((not s.column && too_narrow c s) ≡ false) × (leading_zero c s ≡ false)
none_applies c s e = seven (bad_mark c s) (kinds_differ c s) (numbers_differ c s) (not s.column && bad_flag c s)
    (not s.column && has_no_width s) (not s.column && too_narrow c s) (leading_zero c s) e

pub alike : (c : PrintConv) (s : Conversion) → pairing_fault c s ≡ None → Alike c s
alike c s e =
    let h = none_applies c s e in
    let kinds = and_both (same_kind c.kind s.kind) (letters_pair c.letter s.shape) (not_none _ h.1) in
    record {
      marked = h.0;
      same = kinds.0;
      letters = kinds.1;
      slot = eqb-true (unwrap_or s.slot 0) c.slot (not_none _ h.2);
      no_zeros = h.6;
    }

pub pairs : (c : PrintConv) (s : Conversion) → s.column ≡ false → pairing_fault c s ≡ None → Pairs c s
pairs c s item e =
    let h = none_applies c s e in
    let at_item = λ (t : Bool) (f : (not s.column && t) ≡ false). sym (ap (λ (k : Bool). not k && t) item) ∙ f in
    let k = five c.minus (is_integer s.shape && eqb (least_digits c) 0) (not (is_number s.shape) && is_some c.precision)
    (not (is_number s.shape) && not (is_text s.shape) && nat_lt 0 c.width) (is_one c.letter && not (eqb (width_of s) 1))
    (at_item (bad_flag c s) h.3) in
    record {
      alike = alike c s e;
      item = item;
      right = k.0;
      some_digit = k.1;
      whole = k.2;
      unpadded = k.3;
      single = k.4;
      width = at_item (has_no_width s) h.4;
      wide = at_item (too_narrow c s) h.5;
    }

-- what a mark asks for
bare_filled : (c : PrintConv) (s : Conversion) → Alike c s → is_strict s.shape ≡ true → IsBare c × (fills_badly c s ≡ false)
bare_filled c s p strict =
    let both = or_none (is_other_width c s) (is_strict s.shape && (adds_to_number c || fills_badly c s)) p.marked in
    let adds = or_none (adds_to_number c) (fills_badly c s)
    (sym (ap (λ (t : Bool). t && (adds_to_number c || fills_badly c s)) strict) ∙ both.1) in
    let k = four c.plus c.blank c.alt (is_hex_float c.letter) adds.0 in
    (record { plus = k.0; blank = k.1; alt = k.2; decimal = k.3 }, adds.1)

pub bare_is : (c : PrintConv) (s : Conversion) → Alike c s → is_strict s.shape ≡ true → IsBare c
bare_is c s p strict = (bare_filled c s p strict).0

pub plain_is : (c : PrintConv) (s : Conversion) → Pairs c s → is_strict s.shape ≡ true → IsPlain c
plain_is c s p strict =
    let k = bare_filled c s p.alike strict in
    record {
      bare = k.0;
      unpadded = sym (ap (λ (t : Bool). cond t (not (is_text s.shape) && not (fills_with_zeros c)) (nat_lt 0 c.width)) p.item) ∙ k.1;
    }

-- zeros fill a column of numbers that has a `!`
pub zeros_fill : (c : PrintConv) (s : Conversion) → Alike c s → s.column ≡ true → is_strict s.shape ≡ true → is_text s.shape ≡ false
    → fills_with_zeros c ≡ true
zeros_fill c s p column strict number =
    let k = bare_filled c s p strict in
    not_none (fills_with_zeros c) (sym ((λ i. cond (column i) (not (number i) && not (fills_with_zeros c)) (nat_lt 0 c.width))) ∙ k.1)

-- a column is as wide as what is printed for it
pub column_is : (c : PrintConv) (s : Conversion) → Alike c s → s.column ≡ true → s.width ≡ Some c.width
column_is c s p column =
    let other = (or_none (is_other_width c s) (is_strict s.shape && (adds_to_number c || fills_badly c s)) p.marked).0 in
    by s.width (not_none (is_width c.width s.width) (sym (ap (λ (t : Bool). t && not (is_width c.width s.width)) column) ∙ other))
  where
    by : (o : Option ℕ) → is_width c.width o ≡ true → o ≡ Some c.width
    by None e = absurd cc
    by (Some w) e = ap Some (eqb-true w c.width e)

-- ---- what fits

pub item_value : (c : PrintConv) (s : Conversion) (v : Datum) → s.column ≡ false → ItemFits c s v → ValueFits c s v
item_value c s v item h = subst (λ (t : Bool). FitsBy t c s v) (sym item) h

pub value_item : (c : PrintConv) (s : Conversion) (v : Datum) → s.column ≡ false → ValueFits c s v → ItemFits c s v
value_item c s v item h = subst (λ (t : Bool). FitsBy t c s v) item h

pub value_column : (c : PrintConv) (s : Conversion) (v : Datum) → s.column ≡ true → ValueFits c s v → ColumnFits c s v
value_column c s v column h = subst (λ (t : Bool). FitsBy t c s v) column h

-- no blank stands before such a text
pub none_padded : (n : ℕ) → nat_lt 0 n ≡ false → n ≡ 0
none_padded n e = grind (arith, nat_tests)

pub no_left : (m p : Bool) (w n : ℕ) → nat_lt 0 w ≡ false → cond m 0 (cond p 0 (w - n)) ≡ 0
no_left true p w n e = refl
no_left false true w n e = refl
no_left false false w n e = omega (arith, none_padded w e)

-- the slot of a conversion that is assigned
pub slot_is : (c : PrintConv) (s : Conversion) → Alike c s → is_some s.slot ≡ true → s.slot ≡ Some c.slot
slot_is c s p some = by s.slot p.slot some
  where
    by : (o : Option ℕ) → unwrap_or o 0 ≡ c.slot → is_some o ≡ true → o ≡ Some c.slot
    by None e h = absurd cc
    by (Some k) e h = ap Some e

pub kinds_are : (a b : Kind) → same_kind a b ≡ true → a ≡ b
kinds_are kind.I8 kind.I8 e = refl
kinds_are kind.I16 kind.I16 e = refl
kinds_are kind.I32 kind.I32 e = refl
kinds_are kind.I64 kind.I64 e = refl
kinds_are kind.U8 kind.U8 e = refl
kinds_are kind.U16 kind.U16 e = refl
kinds_are kind.U32 kind.U32 e = refl
kinds_are kind.U64 kind.U64 e = refl
kinds_are kind.Text kind.Text e = refl
kinds_are kind.F32 kind.F32 e = refl
kinds_are kind.F64 kind.F64 e = refl
kinds_are _ _ e = absurd cc

-- whether an item of the shape is always full
abbrev pub full_by : PrintConv → Conversion → Shape → Bool
full_by c s h = is_chars h || cond (is_number h) (eqb (length (least_by h c)) (width_of s)) (eqb (width_of s) 1)

-- the width of a conversion that has one
pub width_is : (s : Conversion) → is_chars s.shape ≡ false → has_no_width s ≡ false → s.width ≡ Some (width_of s)
width_is s no_chars e = by s.width (sym (ap (λ (t : Bool). not t && is_none s.width) no_chars) ∙ e)
  where
    by : (o : Option ℕ) → is_none o ≡ false → o ≡ Some (unwrap_or o 1)
    by None e = absurd cc
    by (Some w) e = refl

-- ---- numbers of a kind

-- a test that passed
passed : (t : Bool) (v z : ℤ) → cond t (Some v) None ≡ Some z → t ≡ true
passed true v z e = refl
passed false v z e = absurd cc

less : (m n : ℕ) → nat_lt m n ≡ true → m < n
less m n e = grind (arith, nat_tests)

most : (m n : ℕ) → nat_le m n ≡ true → m ≤ n
most m n e = grind (arith, nat_tests)

signed_small : (n : ℕ) → 2 ^ n ≤ 2 ^ 63 → (negative : Bool) (m : ℕ) (z : ℤ) → signed_value n negative m ≡ Some z → m < 2 ^ 64
signed_small n low true m z e = let h = most m (2 ^ n) (passed _ _ z e) in omega arith
signed_small n low false m z e = let h = less m (2 ^ n) (passed _ _ z e) in omega arith

unsigned_small : (n : ℕ) → 2 ^ n ≤ 2 ^ 64 → (negative : Bool) (m : ℕ) (z : ℤ) → unsigned_value n negative m ≡ Some z → m < 2 ^ 64
unsigned_small n low true m z e = let h = less m (2 ^ n) (passed _ _ z e) in omega arith
unsigned_small n low false m z e = let h = less m (2 ^ n) (passed _ _ z e) in omega arith

pub small_of : (k : Kind) (negative : Bool) (m : ℕ) (z : ℤ) → value_of k negative m ≡ Some z → m < 2 ^ 64
small_of kind.I8 negative m z e = signed_small 7 (lit≤ tt) negative m z e
small_of kind.I16 negative m z e = signed_small 15 (lit≤ tt) negative m z e
small_of kind.I32 negative m z e = signed_small 31 (lit≤ tt) negative m z e
small_of kind.I64 negative m z e = signed_small 63 (lit≤ tt) negative m z e
small_of kind.U8 negative m z e = unsigned_small 8 (lit≤ tt) negative m z e
small_of kind.U16 negative m z e = unsigned_small 16 (lit≤ tt) negative m z e
small_of kind.U32 negative m z e = unsigned_small 32 (lit≤ tt) negative m z e
small_of kind.U64 negative m z e = unsigned_small 64 (lit≤ tt) negative m z e
small_of kind.Text negative m z e = absurd cc
small_of kind.F32 negative m z e = absurd cc
small_of kind.F64 negative m z e = absurd cc

unsigned_is : (w n : ℕ) → unsigned_value w true (suc n) ≡ Some (negsuc n) → ⊥
unsigned_is w n e = by (nat_lt (suc n) (2 ^ w)) e
  where
    by : (t : Bool) → cond t (Some (pos ((2 ^ w - suc n) % 2 ^ w))) None ≡ Some (negsuc n) → ⊥
    by true e = cc
    by false e = cc

-- no number of an unsigned kind is negative
pub unsigned_number : (k : Kind) → is_unsigned k ≡ true → (z : ℤ) → IsOfKind k z → (m : ℕ) × (z ≡ pos m)
unsigned_number k u (pos m) h = (m, refl)
unsigned_number kind.U8 u (negsuc n) h = absurd (unsigned_is 8 n h)
unsigned_number kind.U16 u (negsuc n) h = absurd (unsigned_is 16 n h)
unsigned_number kind.U32 u (negsuc n) h = absurd (unsigned_is 32 n h)
unsigned_number kind.U64 u (negsuc n) h = absurd (unsigned_is 64 n h)
unsigned_number _ u (negsuc n) h = absurd cc

pub no_number_of_text : (z : ℤ) → IsOfKind kind.Text z → ⊥
no_number_of_text z h = cc
