-- Columns of integers that lie whole in a piece.
use Rattle.std.proofs.Common.{◌≡◌, ℕ, ◌+◌, ◌<◌, ◌≤◌, ◌&&◌, Bool, true, false, cond, not, List, [], ◌∷◌, ◌++◌, length, take, drop, get_or}
use Rattle.std.proofs.Common.{append_assoc, length-append, Some, refl, sym, ap, subst, ◌∙◌, arith, lit<, true≢false, inl, inr}
use Rattle.std.proofs.Common.{add-zero, eq-zero-or-pos}
use Rattle.std.proofs.lemmas.Bool.{and_left, and_parts, and_right, false_from_ne_true}
use Rattle.std.proofs.lemmas.List.{get_or-drop, get_or-take, length-drop, length-take-le}
use Rattle.std.specs.Char.{digit_value}
use Rattle.std.specs.Str.Parse.{AllDigits}
use Rattle.sf_base.specs.Blanks.{EndsWithInk, StartsWithInk, are_white, trimmed}
use Rattle.sf_base.specs.Bytes.{is_white}
use Rattle.sf_base.specs.Data.{value_of}
use Rattle.sf_format.specs.declared.directive.Conversion.{Conversion}
use Rattle.sf_format.specs.declared.directive.Directive.TheVariants.{Conv}
use Rattle.sf_format.specs.declared.directive.Numeral.{Numeral}
use Rattle.sf_format.specs.declared.directive.Shape.TheVariants.{Int}
use Rattle.sf_format.specs.Leads.{is_strict, is_strict_lead}
use Rattle.sf_format.specs.Proper.{IsProper}
use Rattle.sf_item.specs.Columns.{column_width}
use Rattle.sf_item.specs.ColumnTests.{column_text}
use Rattle.sf_item.specs.Matching.{IsInteger, IsPrefixed, IsUnsignedInteger}
use Rattle.sf_item.specs.Radices.{first_radix, prefix_radix, zero_radix}
use Rattle.sf_item.specs.Tests.{integer_at}
use Rattle.sf_report.specs.Machine.{Skipping, shape_skips}
use Rattle.sf_run.specs.Phases.{passed_number}
use Rattle.sf_run.specs.Pieces.{EndsIn}
use Rattle.sf_run.proofs.Columns.{number_column}
use Rattle.sf_run.proofs.FloatTexts.{white_is}
use Rattle.sf_run.proofs.Stages.{integer_is}
use Rattle.sf_run.proofs.WholeColumns.{column_ends, ink_is, starts_at, text_is}

-- ---- an integer begins and ends with no white space

white_code : (b : ℕ) → is_white b ≡ true → 16 < digit_value b
white_code b white = white_is (λ n. 16 < digit_value n) b (lit< tt) (lit< tt) (lit< tt) (lit< tt) (lit< tt) (lit< tt) white

ends_more : (s t : List ℕ) → EndsWithInk t → EndsWithInk (s ++ t)
ends_more s t ends = (
  s ++ ends.0,
  ends.1,
  ap (λ y. s ++ y) ends.2 ∙ sym (append_assoc s ends.0 (ends.1 ∷ [])),
  ends.3,
)

digits_end : (radix : ℕ) (ds : List ℕ) → radix ≤ 16 → 0 < length ds → AllDigits radix ds → EndsWithInk ds
digits_end radix [] small some digits = absurd (omega (arith, some))
digits_end radix (b ∷ []) small some digits =
    ([], b, refl, false_from_ne_true (is_white b) (λ white. (let high = white_code b white in omega (arith, high, small, digits.0))))
digits_end radix (b ∷ d ∷ ds) small some digits = ends_more (b ∷ []) (d ∷ ds) (digits_end radix (d ∷ ds) small (omega arith) digits.1)

-- each radix has the digits up to f at most
first_small : (numeral : Numeral) → first_radix numeral ≤ 16
first_small numeral = grind arith

zero_small : (numeral : Numeral) → zero_radix numeral ≤ 16
zero_small numeral = grind arith

prefix_small : (numeral : Numeral) (letter radix : ℕ) → prefix_radix numeral letter ≡ Some radix → radix ≤ 16
prefix_small numeral letter radix is = grind arith

prefixed_ends : (numeral : Numeral) (body : List ℕ) (m : ℕ) → IsPrefixed numeral body m → EndsWithInk body
prefixed_ends numeral [] m is = absurd is
prefixed_ends numeral (b ∷ []) m is = absurd is
prefixed_ends numeral (b ∷ letter ∷ ds) m is =
    ends_more (b ∷ letter ∷ []) ds (digits_end is.1.0 ds (prefix_small numeral letter is.1.0 is.1.1) is.1.2.0.0 is.1.2.0.1)

unsigned_ends : (numeral : Numeral) (body : List ℕ) (m : ℕ) → IsUnsignedInteger numeral body m → EndsWithInk body
unsigned_ends numeral body m (inl is) = digits_end (first_radix numeral) body (first_small numeral) is.1.0.0 is.1.0.1
unsigned_ends numeral body m (inr (inl is)) = digits_end (zero_radix numeral) body (zero_small numeral) is.1.0.0 is.1.0.1
unsigned_ends numeral body m (inr (inr is)) = prefixed_ends numeral body m is

-- an integer ends with a digit
integer_ends : (numeral : Numeral) (t : List ℕ) (negative : Bool) (m : ℕ) → IsInteger numeral t negative m → EndsWithInk t
integer_ends numeral t negative m is =
    subst EndsWithInk (sym is.2) (ends_more is.0 is.1 (unsigned_ends numeral is.1 m is.4))

ends_some : (t : List ℕ) → EndsWithInk t → 0 < length t
ends_some t ends = subst (λ s. 0 < length s) (sym ends.2) (omega (arith, length-append ends.0 (ends.1 ∷ [])))

ink_last : (s : List ℕ) (last : ℕ) → is_white last ≡ false → are_white (s ++ last ∷ []) ≡ false
ink_last [] last ink = and_left (is_white last) true ink
ink_last (b ∷ s) last ink = and_right (is_white b) (are_white (s ++ last ∷ [])) (ink_last s last ink)

-- ---- a column of an integer

-- it is white space before the text, where that is skipped, the text, and white space after that, with ! none
module _ (c : Conversion) (numeral : Numeral) (column : c.column ≡ true) (shape : c.shape ≡ Int numeral) (piece : List ℕ)
    (before item after m : ℕ) (negative : Bool) (width : before + item + after ≡ column_width c) (within : column_width c ≤ length piece)
    (white_before : (k : ℕ) → k < before → (shape_skips c.shape && is_white (get_or piece k 0)) ≡ true)
    (next : before < length piece → (shape_skips c.shape && is_white (get_or piece before 0)) ≡ false)
    (white_after : (k : ℕ) → k < after → is_white (get_or piece (before + item + k) 0) ≡ true)
    (tight : is_strict_lead numeral.lead ≡ true → after ≡ 0) (is : IsInteger numeral (take item (drop before piece)) negative m) where
  abbrev bytes : List ℕ
  bytes = take (before + item + after) piece

  abbrev text : List ℕ
  text = take item (drop before piece)

  ends : EndsWithInk text
  ends = integer_ends numeral text negative m is

  skips : (v : Bool) → is_strict_lead numeral.lead ≡ v → shape_skips c.shape ≡ not v
  skips v e = ap shape_skips shape ∙ ap not e

  abbrev IsText : Type 0
  IsText = (are_white bytes ≡ false) × (column_text c bytes ≡ text)

  loose : is_strict_lead numeral.lead ≡ false → IsText
  loose e =
      let does : shape_skips c.shape ≡ true = skips false e in
      let long = length-take-le item (drop before piece) (omega (arith, width, within, length-drop before piece)) in
      let whole = ends_some text ends in
      let some : 0 < item = omega (arith, whole, long) in
      let first : get_or text 0 0 ≡ get_or piece before 0 = get_or-take item (drop before piece) 0 0 some ∙ get_or-drop before piece 0 0
      ∙ ap (λ i. get_or piece i 0) (add-zero before) in
      let ink : is_white (get_or piece before 0) ≡ false =
      ap (λ v. v && is_white (get_or piece before 0)) (sym does) ∙ next (omega (arith, width, within, some)) in
      let starts : StartsWithInk text = starts_at text whole (ap is_white first ∙ ink) in
      let white : (k : ℕ) → k < before → is_white (get_or piece k 0) ≡ true =
      λ k low. (and_parts (shape_skips c.shape) (is_white (get_or piece k 0)) (white_before k low)).1 in
      let free : is_strict c.shape ≡ false = ap is_strict shape ∙ e in (
        ink_is c column free piece before item after width within white white_after starts,
        text_is c column free piece before item after width within white white_after starts ends,
      )

  strict : is_strict_lead numeral.lead ≡ true → IsText
  strict e =
      let none : before ≡ 0 = elim (eq-zero-or-pos before) [
        | inl zero ↦ zero
        | inr some ↦ absurd (true≢false (sym (white_before 0 some) ∙ ap (λ v. v && is_white (get_or piece 0 0)) (skips true e)))
      ] in
      let no_more = tight e in
      let all : before + item + after ≡ item = omega (arith, none, no_more) in
      let same : bytes ≡ text = ap (λ k. take k piece) all ∙ ap (λ k. take item (drop k piece)) (sym none) in (
        ap are_white (same ∙ ends.2) ∙ ink_last ends.0 ends.1 ends.3,
        ap (λ v. cond v bytes (trimmed bytes)) (ap is_strict shape ∙ e) ∙ same,
      )

  own : IsText
  own = by (is_strict_lead numeral.lead) refl
    where
      by : (v : Bool) → is_strict_lead numeral.lead ≡ v → IsText
      by true e = strict e
      by false e = loose e

  pub column_number : (n : ℕ) → IsProper (Conv c)
      → EndsIn (Conv c) Skipping n piece (before + item + after) (passed_number c c.slot (value_of c.kind negative m))
  column_number n proper =
      let read : integer_at numeral (column_text c bytes) ≡ Some (negative, m) =
      ap (integer_at numeral) own.1 ∙ integer_is numeral text negative m is in
      subst (λ e. EndsIn (Conv c) Skipping n piece (before + item + after) e)
      (sym (number_column c bytes negative m false (own.0, (numeral, m, shape, read, refl))))
      (column_ends c column proper n (before + item + after) piece width (subst (λ k. k ≤ length piece) (sym width) within))
