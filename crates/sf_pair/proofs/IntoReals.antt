-- An item of a float that isn't full runs on into each byte of its stop set that isn't spare, after the text of 0.
use Rattle.std.proofs.Common.{◌≡◌, ◌⊎◌, inl, inr, ℕ, zero, suc, ◌-◌, ◌<◌, ◌≤◌, Bool, true, false, cond, eqb, ◌&&◌, ◌||◌, nat_lt, nat_le}
use Rattle.std.proofs.Common.{List, [], ◌∷◌, ◌++◌, length, Option, Some, None, is_some, refl, sym, ap, subst, ◌∙◌, arith, length-append}
use Rattle.std.proofs.Common.{true≢false}
use Rattle.std.specs.Prelude.{not}
use Rattle.std.proofs.lemmas.Bool.{lt-ltb}
use Rattle.std.proofs.lemmas.Bool.Decides.{nat_tests}
use Rattle.std.specs.Char.{is_digit, is_ascii_digit}
use Rattle.std.specs.Float.{float_is_finite}
use Rattle.std.specs.Float.Ieee.{Float, binary64}
use Rattle.sf_base.specs.declared.real.Real.TheVariants as reals
use Rattle.sf_base.specs.declared.values.Kind.{Kind}
use Rattle.sf_base.specs.declared.values.Kind.TheVariants as kind
use Rattle.sf_base.specs.Data.{Datum, Real}
use Rattle.sf_format.specs.declared.directive.Lead.{Lead}
use Rattle.sf_format.specs.declared.directive.Lead.TheVariants.{Any, Minus, Nothing}
use Rattle.sf_format.specs.declared.directive.Shape.{Shape}
use Rattle.sf_format.specs.declared.directive.Shape.TheVariants as shape
use Rattle.sf_format.specs.declared.directive.Conversion.{Conversion}
use Rattle.sf_format.specs.declared.directive.Directive.TheVariants as directive
use Rattle.sf_format.specs.Leads.{is_strict_lead, is_strict}
use Rattle.sf_format.specs.declared.unit.FloatStyle.{FloatStyle}
use Rattle.sf_format.specs.declared.unit.FloatStyle.TheVariants as style
use Rattle.sf_format.specs.declared.unit.PrintConv.{PrintConv}
use Rattle.sf_format.specs.declared.unit.PrintLetter.{PrintLetter}
use Rattle.sf_format.specs.declared.unit.PrintLetter.TheVariants as letter
use Rattle.sf_format.specs.Units.{is_double, prints_kind, IsProperConv}
use Rattle.sf_format.specs.Proper.{IsProper, HasItsWidth}
use Rattle.sf_float.specs.declared.text.FloatConv.{FloatConv}
use Rattle.sf_float.specs.Printed.{is_hexadecimal, bare_len, inner_zeros}
use Rattle.sf_float.specs.Computed.{float_text}
use Rattle.sf_float_read.specs.declared.item.reached.Forms.TheVariants as forms
use Rattle.sf_float_read.specs.declared.item.reached.Radix.TheVariants.{Ten}
use Rattle.sf_float_read.specs.declared.item.reached.Reached.{Reached}
use Rattle.sf_float_read.specs.declared.item.reached.Reached.TheVariants as at
use Rattle.sf_float_read.specs.item.Tests.{next, read, start_of, is_whole_at}
use Rattle.sf_float_read.specs.value.Values.{IsStored}
use Rattle.sf_item.specs.Matching.{forms_of}
use Rattle.sf_item.specs.Tests.{is_within, shape_begins, can_take}
use Rattle.sf_print.specs.texts.Floats.{style_of, float_conv}
use Rattle.sf_print.specs.texts.Visible.{without_blanks}
use Rattle.sf_pair.specs.conversions.Below.{LawsBelow}
use Rattle.sf_pair.specs.conversions.Reals.{zero_seen, has_point}
use Rattle.sf_pair.specs.conversions.Neighbours.{is_prefix_letter, exponent_stops, fraction_stops, whole_stops, float_stops, is_spare}
use Rattle.sf_pair.specs.conversions.Neighbours.{stop_set}
use Rattle.sf_pair.specs.Groups.{is_number, is_chars, letters_pair, width_of, least_by, always_full}
use Rattle.sf_pair.specs.Fits.{ItemFits}
use Rattle.sf_pair.specs.Laws.{TakesInto}
use Rattle.sf_pair.proofs.ConversionLemmas.Bodies.{without_some}
use Rattle.sf_pair.proofs.Paired.{and_so, or_none, full_by, IsBare, Pairs, plain_is, item_value, width_is}
use Rattle.sf_pair.proofs.GoesOn.{either_so}
use Rattle.sf_pair.proofs.ConversionLemmas.Places.{read_more}
use Rattle.sf_pair.proofs.ConversionLemmas.RealTexts.{size_of, body, seen_is}
use Rattle.sf_pair.proofs.ConversionLemmas.RealSizes.{zero_is, zero_number, zero_finite, pads_is}
use Rattle.sf_pair.proofs.ConversionLemmas.RealZero.{fixed_pointed, general_pointed}
use Rattle.sf_pair.proofs.ConversionLemmas.ZeroRead.{whole_place, plain_place, fixed_zero_read, general_zero_read, exponent_zero_read}
use Rattle.sf_pair.proofs.ConversionLemmas.ZeroRead.{zero_matches}
use Rattle.sf_pair.proofs.ConversionLemmas.ZeroStored.{zero_is_stored}
use Rattle.sf_pair.proofs.Back.{ReadsBack}
use Rattle.sf_pair.proofs.ConversionLemmas.StrictPlaces.{strict_place, strict_goes}
use Rattle.sf_pair.proofs.ReadReals.{not_hexadecimal, strict_reads}
use Rattle.sf_pair.proofs.ReadBack.{reads_back}
use Rattle.sf_pair.proofs.RunsOn.{takes_too}

-- ---- a 0 goes on after each float

zero_may_follow : (c : PrintConv) (lead : Lead) (l : PrintLetter) → c.letter ≡ l → letters_pair l (shape.Float lead) ≡ true
    → float_stops c.letter c 48 ≡ true
zero_may_follow c lead (letter.Float style.Exponent u) a pair = ap (λ (l : PrintLetter). float_stops l c 48) a
zero_may_follow c lead (letter.Float style.Hexadecimal u) a pair = ap (λ (l : PrintLetter). float_stops l c 48) a
zero_may_follow c lead (letter.Float style.General u) a pair = ap (λ (l : PrintLetter). float_stops l c 48) a
zero_may_follow c lead (letter.Float style.Fixed u) a pair = ap (λ (l : PrintLetter). float_stops l c 48) a ∙ by (has_point c)
  where
    by : (t : Bool) → cond t fraction_stops whole_stops 48 ≡ true
    by true = refl
    by false = refl
zero_may_follow c lead letter.Text a pair = absurd cc
zero_may_follow c lead letter.One a pair = absurd cc
zero_may_follow c lead _ a pair = absurd cc

pub zero_follows : (c : PrintConv) (lead : Lead) → letters_pair c.letter (shape.Float lead) ≡ true
    → stop_set (shape.Float lead) c 48 ≡ true
zero_follows c lead pair = by (is_strict_lead lead) ∙ zero_may_follow c lead c.letter refl pair
  where
    by : (t : Bool) → cond (t && false) false (float_stops c.letter c 48) ≡ float_stops c.letter c 48
    by true = refl
    by false = refl

pub zero_not_spare : (c : PrintConv) (lead : Lead) → is_spare (shape.Float lead) c 48 ≡ false
zero_not_spare c lead = by c.alt c.zero (nat_lt 0 c.width)
  where
    by : (a z w : Bool) → ((a && false) || (z && w && false)) ≡ false
    by true true true = refl
    by true true false = refl
    by true false w = refl
    by false true true = refl
    by false true false = refl
    by false false w = refl

-- ---- what goes on from a place

a_digit : (b : ℕ) → is_digit b 10 ≡ true → is_ascii_digit b ≡ true
a_digit b e = grind (arith, nat_tests)

goes_if : (t : Bool) (r : Reached) (o : Option Reached) → t ≡ true → is_some (cond t (Some r) o) ≡ true
goes_if true r o e = refl
goes_if false r o e = absurd cc

either_goes : (t : Bool) (r : Reached) (o : Option Reached) → is_some o ≡ true → is_some (cond t (Some r) o) ≡ true
either_goes true r o e = refl
either_goes false r o e = e

exponent_goes : (b : ℕ) → exponent_stops b ≡ true → is_some (next at.Exponent b) ≡ true
exponent_goes b e = goes_if (is_ascii_digit b) at.Exponent None (a_digit b e)

fraction_goes : (b : ℕ) → fraction_stops b ≡ true → is_some (next (at.Fraction Ten) b) ≡ true
fraction_goes b e = elim (either_so (exponent_stops b) (eqb b 101 || eqb b 69) e) [
  | inl d ↦ goes_if (is_ascii_digit b) (at.Fraction Ten) (cond (eqb b 101 || eqb b 69) (Some at.Letter) None) (a_digit b d)
  | inr l ↦ either_goes (is_ascii_digit b) (at.Fraction Ten) (cond (eqb b 101 || eqb b 69) (Some at.Letter) None)
      (goes_if (eqb b 101 || eqb b 69) at.Letter None l)
]

digits_go : (b : ℕ) → whole_stops b ≡ true → (is_prefix_letter b ≡ true) ⊎ (is_some (next (at.Whole Ten) b) ≡ true)
digits_go b e = elim (either_so (fraction_stops b) (eqb b 46 || is_prefix_letter b) e) [
  | inl f ↦ inr (elim (either_so (exponent_stops b) (eqb b 101 || eqb b 69) f) [
    | inl d ↦ goes_if (is_ascii_digit b) (at.Whole Ten) more (a_digit b d)
    | inr l ↦ either_goes (is_ascii_digit b) (at.Whole Ten) more
        (either_goes (eqb b 46) (at.Fraction Ten) (cond (eqb b 101 || eqb b 69) (Some at.Letter) None)
        (goes_if (eqb b 101 || eqb b 69) at.Letter None l))
  ])
  | inr r ↦ elim (either_so (eqb b 46) (is_prefix_letter b) r) [
    | inl d ↦ inr (either_goes (is_ascii_digit b) (at.Whole Ten) more
        (goes_if (eqb b 46) (at.Fraction Ten) (cond (eqb b 101 || eqb b 69) (Some at.Letter) None) d))
    | inr x ↦ inl x
  ]
]
  where
    more : Option Reached
    more = cond (eqb b 46) (Some (at.Fraction Ten)) (cond (eqb b 101 || eqb b 69) (Some at.Letter) None)

zero_goes : (b : ℕ) → whole_stops b ≡ true → is_some (next at.Zero b) ≡ true
zero_goes b e = elim (digits_go b e) [
  | inl x ↦ goes_if (is_prefix_letter b) at.Prefix (next (at.Whole Ten) b) x
  | inr d ↦ either_goes (is_prefix_letter b) at.Prefix (next (at.Whole Ten) b) d
]

-- ---- after the text of 0

-- a byte goes on with the text of 0
record GoesOn (c : PrintConv) (b : ℕ) : Type 0 where
  place : Reached
  is : read (Some at.Start) (body (float_conv c) zero_number) ≡ Some place
  goes : is_some (next place b) ≡ true

module _ (c : PrintConv) (lead : Lead) (b : ℕ) (spare : is_spare (shape.Float lead) c b ≡ false) where
  parts : ((c.alt && (eqb b 46 || is_prefix_letter b)) ≡ false) × ((c.zero && nat_lt 0 c.width && is_prefix_letter b) ≡ false)
  parts = or_none (c.alt && (eqb b 46 || is_prefix_letter b)) (c.zero && nat_lt 0 c.width && is_prefix_letter b) spare

  -- zeros fill it, so that no letter of a prefix follows
  filled : (k : ℕ) → inner_zeros (float_conv c) zero_number (size_of (float_conv c) zero_number) ≡ suc k → is_prefix_letter b ≡ false
  filled k e = by c.zero c.minus (sym (ap (λ (t : Bool). cond t (c.width - bare_len (float_conv c) zero_number
      (size_of (float_conv c) zero_number)) 0) (pads_is (float_conv c) zero_number zero_finite)) ∙ e) parts.1
    where
      by : (z m : Bool) → cond (z && not m) (c.width - bare_len (float_conv c) zero_number (size_of (float_conv c) zero_number)) 0 ≡ suc k
          → (z && nat_lt 0 c.width && is_prefix_letter b) ≡ false → is_prefix_letter b ≡ false
      by true false e s =
          let wide : nat_lt 0 c.width ≡ true = lt-ltb 0 c.width (omega (arith, e)) in
          sym (ap (λ (t : Bool). t && is_prefix_letter b) wide) ∙ s
      by true true e s = absurd (omega (arith, e))
      by false m e s = absurd (omega (arith, e))

  plain_goes : whole_stops b ≡ true
      → is_some (next (whole_place (inner_zeros (float_conv c) zero_number (size_of (float_conv c) zero_number))) b) ≡ true
  plain_goes stops = by (inner_zeros (float_conv c) zero_number (size_of (float_conv c) zero_number)) refl
    where
      by : (k : ℕ) → inner_zeros (float_conv c) zero_number (size_of (float_conv c) zero_number) ≡ k
          → is_some (next (whole_place k) b) ≡ true
      by zero e = zero_goes b stops
      by (suc k) e = elim (digits_go b stops) [ inl x ↦ absurd (true≢false (sym x ∙ filled k e)) | inr d ↦ d ]

  -- with `#` neither a point nor such a letter does
  fraction_left : c.alt ≡ true → whole_stops b ≡ true → fraction_stops b ≡ true
  fraction_left alt stops =
      let none : (eqb b 46 || is_prefix_letter b) ≡ false =
      sym (ap (λ (t : Bool). t && (eqb b 46 || is_prefix_letter b)) alt) ∙ parts.0 in
      elim (either_so (fraction_stops b) (eqb b 46 || is_prefix_letter b) stops)
      [ inl f ↦ f | inr x ↦ absurd (true≢false (sym x ∙ none)) ]

  follows_at : (r : Reached) → read (Some at.Start) (body (float_conv c) zero_number) ≡ Some r → is_some (next r b) ≡ true → GoesOn c b
  follows_at r is goes = record { place = r; is = is; goes = goes }

  zero_goes_on : (u : Bool) (l : FloatStyle) → c.letter ≡ letter.Float l u → float_stops c.letter c b ≡ true → GoesOn c b
  zero_goes_on u style.Exponent a stops = follows_at at.Exponent (exponent_zero_read (float_conv c) (inl (ap style_of a)))
      (exponent_goes b (sym (ap (λ (l : PrintLetter). float_stops l c b) a) ∙ stops))
  zero_goes_on u style.Hexadecimal a stops = follows_at at.Exponent (exponent_zero_read (float_conv c) (inr (ap style_of a)))
      (exponent_goes b (sym (ap (λ (l : PrintLetter). float_stops l c b) a) ∙ stops))
  zero_goes_on u style.General a stops =
      follows_at _ (general_zero_read (float_conv c) (ap style_of a))
      (subst (λ (t : Bool). is_some (next (plain_place (float_conv c) t) b) ≡ true) (sym (general_pointed c.alt c.precision))
      (by c.alt refl (sym (ap (λ (l : PrintLetter). float_stops l c b) a) ∙ stops)))
    where
      by : (t : Bool) → c.alt ≡ t → whole_stops b ≡ true → is_some (next (plain_place (float_conv c) t) b) ≡ true
      by true e stops = fraction_goes b (fraction_left e stops)
      by false e stops = plain_goes stops
  zero_goes_on u style.Fixed a stops =
      follows_at _ (fixed_zero_read (float_conv c) (ap style_of a))
      (subst (λ (t : Bool). is_some (next (plain_place (float_conv c) t) b) ≡ true) (sym (fixed_pointed c.alt c.precision))
      (by (has_point c) (sym (ap (λ (l : PrintLetter). float_stops l c b) a) ∙ stops)))
    where
      by : (t : Bool) → cond t fraction_stops whole_stops b ≡ true → is_some (next (plain_place (float_conv c) t) b) ≡ true
      by true stops = fraction_goes b stops
      by false stops = plain_goes stops

-- also where it is read with `!`
module _ (c : PrintConv) (b : ℕ) (k : GoesOn c b) where
  goes_from : (start place : Reached) → read (Some start) (body (float_conv c) zero_number) ≡ Some place → is_some (next place b) ≡ true
      → is_some (read (Some start) (body (float_conv c) zero_number ++ b ∷ [])) ≡ true
  goes_from start place is goes = ap is_some (read_more (Some start) (body (float_conv c) zero_number) (b ∷ [])
      ∙ ap (λ (o : Option Reached). read o (b ∷ [])) is) ∙ one (next place b) goes
    where
      one : (o : Option Reached) → is_some o ≡ true → is_some (read o []) ≡ true
      one None e = absurd cc
      one (Some q) e = refl

  strict_goes_on : IsBare c → is_hexadecimal (style_of c.letter) ≡ false → is_prefix_letter b ≡ false
      → is_some (read (Some at.DecimalStart) (body (float_conv c) zero_number ++ b ∷ [])) ≡ true
  strict_goes_on plain other letter = goes_from at.DecimalStart (strict_place k.place)
      (strict_reads c zero_number zero_finite plain other k.place k.is)
      (strict_goes k.place (sym (ap is_whole_at k.is) ∙ zero_matches (float_conv c)) b letter k.goes)

  goes_under : (lead : Lead) → (is_strict_lead lead ≡ true → IsBare c)
      → (is_strict_lead lead ≡ true → is_hexadecimal (style_of c.letter) ≡ false)
      → (is_strict_lead lead ≡ true → is_prefix_letter b ≡ false)
      → is_some (read (Some (start_of (forms_of lead))) (body (float_conv c) zero_number ++ b ∷ [])) ≡ true
  goes_under Any plain other letter = goes_from at.Start k.place k.is k.goes
  goes_under Minus plain other letter = strict_goes_on (plain refl) (other refl) (letter refl)
  goes_under Nothing plain other letter = strict_goes_on (plain refl) (other refl) (letter refl)

-- a byte of a strict float's stop set is one without `!`, and no letter of a prefix
unmarked : (strict x s : Bool) → cond (strict && x) false s ≡ true → (s ≡ true) × (strict ≡ true → x ≡ false)
unmarked true true s e = absurd cc
unmarked true false s e = (e, λ h. refl)
unmarked false x s e = (e, λ h. absurd cc)

-- ---- the whole

module _ (laws : LawsBelow) (c : PrintConv) (s : Conversion) (proper : IsProperConv c) (scan : IsProper (directive.Conv s))
    (sized : HasItsWidth s.shape s.width)
    (p : Pairs c s) (assigned : is_some s.slot ≡ true) (not_full : always_full c s ≡ false)
    (lead : Lead) (e : s.shape ≡ shape.Float lead) where
  seen_zero : zero_seen c ≡ body (float_conv c) zero_number
  seen_zero = ap (λ (x : Float). without_blanks (float_text (float_conv c) x)) zero_is
      ∙ seen_is (float_conv c) zero_number zero_finite p.right

  wide : length (zero_seen c) ≤ width_of s
  wide = at_most (length (zero_seen c)) (width_of s) (sym (ap (λ (h : Shape). is_number h && nat_lt (width_of s) (length (least_by h c))) e)
      ∙ p.wide)
    where
      at_most : (a b : ℕ) → nat_lt b a ≡ false → a ≤ b
      at_most a b e = grind (arith, nat_tests)

  short : length (zero_seen c) < width_of s
  short = less_than (length (zero_seen c)) (width_of s) wide (sym (ap (full_by c s) e) ∙ not_full)
    where
      less_than : (a b : ℕ) → a ≤ b → eqb a b ≡ false → a < b
      less_than a b low e = grind (arith, nat_tests)

  double : (l : PrintLetter) → c.letter ≡ l → letters_pair l (shape.Float lead) ≡ true → c.kind ≡ kind.F64
  double (letter.Float l u) a pair =
      kind_is c.kind (ap (λ (l : PrintLetter). prints_kind l c.kind) (sym a) ∙ proper.kind)
    where
      kind_is : (k : Kind) → is_double k ≡ true → k ≡ kind.F64
      kind_is kind.F64 e = refl
      kind_is _ e = absurd cc
  double letter.Text a pair = absurd cc
  double letter.One a pair = absurd cc
  double _ a pair = absurd cc

  zero_fits : ItemFits c s (Real (reals.F64 0))
  zero_fits =
      let f : FloatConv = float_conv c in
      let stored : IsStored binary64 (body f zero_number) (Some 0) =
      subst (IsStored binary64 (body f zero_number)) (zero_is_stored laws f)
      ((laws.stored binary64 (body f zero_number)).0 ((laws.floats forms.All (body f zero_number)).0.0 (zero_matches f))) in (
        double c.letter refl (ap (letters_pair c.letter) (sym e) ∙ p.alike.letters),
        ap float_is_finite zero_is ∙ zero_finite,
        wide,
        subst (λ (t : List ℕ). IsStored binary64 t (Some 0)) (sym seen_zero) stored,
      )

  pub real_into : (b : ℕ) → stop_set (shape.Float lead) c b ≡ true → is_spare (shape.Float lead) c b ≡ false → TakesInto c s b
  real_into b stops spare = by c.letter refl (ap (letters_pair c.letter) (sym e) ∙ p.alike.letters)
    where
      by : (l : PrintLetter) → c.letter ≡ l → letters_pair l (shape.Float lead) ≡ true → TakesInto c s b
      by (letter.Float l u) a pair =
          let f : FloatConv = float_conv c in
          let v : Datum = Real (reals.F64 0) in
          let r : ReadsBack c s v = reads_back laws c s v proper scan.1 sized p assigned zero_fits in
          let t = r.takes [] (inr tt) in
          let item : r.item ≡ body f zero_number =
          sym (ap without_blanks r.text_is ∙ without_some r.before r.item (r.ink (ap is_number e))) ∙ seen_zero in
          let plain = λ (strict : is_strict_lead lead ≡ true). (plain_is c s p (ap is_strict e ∙ strict)).bare in
          let k = unmarked (is_strict_lead lead) (is_prefix_letter b) (float_stops c.letter c b) stops in
          let on = goes_under c b (zero_goes_on c lead b spare u l a k.0) lead plain
          (λ strict. not_hexadecimal c l u a (plain strict).decimal) k.1 in
          let width : s.width ≡ Some (width_of s) = width_is s (ap is_chars e) p.width in
          let long : length (body f zero_number ++ b ∷ []) ≤ width_of s = omega (
            arith,
            length-append (body f zero_number) (b ∷ []),
            ap length seen_zero,
            short,
          ) in
          let more : can_take s (r.item ++ b ∷ []) ≡ true = ap (λ (f : List ℕ). can_take s (f ++ b ∷ [])) item
          ∙ and_so (is_within s.width (length (body f zero_number ++ b ∷ []))) (shape_begins s.shape s.width (body f zero_number ++ b ∷ []))
          (ap (λ (o : Option ℕ). is_within o (length (body f zero_number ++ b ∷ []))) width ∙ le_so _ _ long)
          (ap (λ (h : Shape). shape_begins h s.width (body f zero_number ++ b ∷ [])) e ∙ on) in
          (v, item_value c s v p.item zero_fits, takes_too laws c s v scan p.item r t.item b more)
        where
          le_so : (a b : ℕ) → a ≤ b → nat_le a b ≡ true
          le_so a b h = grind (arith, nat_tests)
      by letter.Text a pair = absurd cc
      by letter.One a pair = absurd cc
      by _ a pair = absurd cc
