-- The longest text of an integer conversion is that of the least or of the greatest number.
use Rattle.std.proofs.Common.{◌≡◌, ℕ, zero, suc, ◌+◌, ◌-◌, ◌*◌, ◌/◌, ◌^◌, ◌≤◌, ◌<◌, ◌⊎◌, inl, inr, Bool, true, false, cond, eqb, ◌&&◌, List}
use Rattle.std.proofs.Common.{[], ◌∷◌, ◌++◌, length, slice_index, ℤ, pos, negsuc, unsigned_abs, max, refl, sym, ap, ap₂, subst, ◌∙◌, arith}
use Rattle.std.proofs.Common.{length-append}
use Rattle.std.specs.Prelude.{not}
use Rattle.std.proofs.Math.Nat.{div-lt_self, div-mul-le_self}
use Rattle.std.proofs.lemmas.Nat.{le-div}
use Rattle.std.proofs.lemmas.List.{length-replicate}
use Rattle.std.proofs.lemmas.Bool.{eqb-true}
use Rattle.std.specs.Fmt.{digits}
use Rattle.std.specs.Str.Parse.{digits_value}
use Rattle.sf_base.specs.Data.{Datum, IsIn}
use Rattle.sf_format.specs.declared.unit.PrintConv.{PrintConv}
use Rattle.sf_print.specs.texts.Text.{prefix, mark, base_mark, filled, all_digits, with_octal_zero, opens_with_zero, is_octal, is_upper}
use Rattle.sf_print.specs.texts.Text.{least_digits, base_of, blanks, zeros, pads_with_zeros, value_text}
use Rattle.sf_print.specs.texts.Visible.{visible, without_blanks}
use Rattle.sf_print.proofs.DigitLemmas.Digits.{digits_one, length_step, length_some}
use Rattle.sf_pair.specs.conversions.Below.{LawsBelow}
use Rattle.sf_pair.specs.conversions.Widths.{IsLongest, IsBetween, AreExtremes}
use Rattle.sf_pair.proofs.ConversionLemmas.Parts.{bare_sign, hidden, sign_is, digits_of, numeral_is}
use Rattle.sf_pair.proofs.ConversionLemmas.Bodies.{Body, body_of, small_base}
use Rattle.sf_pair.proofs.ConversionLemmas.Shortest.{visible_size, size_more, signs}

-- ---- digits

div_grows : (b m n : ℕ) → 0 < b → m ≤ n → m / b ≤ n / b
div_grows b m n some h = le-div (m / b) n b some (omega (arith, div-mul-le_self m b))

-- a greater number has no shorter numeral
numeral_grows : (b : ℕ) (up : Bool) (fuel m n : ℕ) → 2 ≤ b → b ≤ 16 → m ≤ n → n < 2 ^ 64 → n ≤ fuel
    → length (digits b up m) ≤ length (digits b up n)
numeral_grows b up zero m n low high h small fuel =
    let e = ap (λ (k : ℕ). length (digits b up k)) {x = m} {y = n} (omega arith) in omega (arith, e)
numeral_grows b up (suc fuel) m n low high h small enough = elim (at_most b m) [
  | inr below ↦
      let one = ap length (digits_one b up m low below) in
      omega (arith, one, length_some b up n low high small)
  | inl large ↦
      let less = numeral_grows b up fuel (m / b) (n / b) low high (div_grows b m n (omega arith) h)
      (omega (arith, div-lt_self {n = n} {k = b} (omega arith) (omega arith)))
      (omega (arith, div-lt_self {n = n} {k = b} (omega arith) (omega arith))) in
      omega (arith, less, length_step b up m low large (omega arith), length_step b up n low (omega arith) small)
]
  where
    at_most : (n k : ℕ) → (n ≤ k) ⊎ (k < n)
    at_most zero k = inl (omega arith)
    at_most (suc n) zero = inr (omega arith)
    at_most (suc n) (suc k) = elim (at_most n k) [ inl h ↦ inl (omega arith) | inr h ↦ inr (omega arith) ]

-- zeros fill up to the least number of digits
filled_length : (c : PrintConv) (ds : List ℕ) → length (filled c ds) ≡ max (least_digits c) (length ds)
filled_length c ds = omega (
  arith,
  length-append (zeros (least_digits c - length ds)) ds,
  length-replicate {A = ℕ} (least_digits c - length ds) 48,
)

opened_by : (k : ℕ) (ds : List ℕ) → 0 < k → opens_with_zero (zeros k ++ ds) ≡ true
opened_by zero ds some = absurd (omega arith)
opened_by (suc k) ds some = refl

-- of the numerals only that of 0 begins with a zero
zero_value : (r : ℕ) (ds : List ℕ) → length ds ≡ 1 → slice_index ds 0 ≡ 48 → digits_value r ds ≡ 0
zero_value r [] one e = absurd (omega (arith, one))
zero_value r (b ∷ []) one e = ap (λ (k : ℕ). digits_value r (k ∷ [])) e ∙ none
  where
    none : 0 * r + 0 ≡ 0
    none = omega arith
zero_value r (b ∷ d ∷ ds) one e = absurd (omega (arith, one))

opened_is_zero : LawsBelow → (c : PrintConv) (n : ℕ) → n < 2 ^ 64
    → opens_with_zero (digits (base_of c.letter) (is_upper c.letter) n) ≡ true → n ≡ 0
opened_is_zero laws c n small opened =
    let b = small_base c.letter in
    let is = laws.numerals (base_of c.letter) (is_upper c.letter) n b.0 b.1 small in
    let first : slice_index (digits (base_of c.letter) (is_upper c.letter) n) 0 ≡ 48 = eqb-true _ 48 opened in
    sym is.value ∙ zero_value (base_of c.letter) _ (is.shortest first) first

module _ (laws : LawsBelow) (c : PrintConv) (m n : ℕ) (some : 0 < least_digits c) (h : m ≤ n) (small : n < 2 ^ 64) where
  abbrev ds : ℕ → List ℕ
  ds k = digits (base_of c.letter) (is_upper c.letter) k

  longer : length (ds m) ≤ length (ds n)
  longer = let b = small_base c.letter in numeral_grows (base_of c.letter) (is_upper c.letter) n m n b.0 b.1 h small (omega arith)

  -- where the greater number's digits open with a zero, so do those of the other
  opened : opens_with_zero (filled c (ds n)) ≡ true → opens_with_zero (filled c (ds m)) ≡ true
  opened e = by (least_digits c - length (ds n)) refl
    where
      by : (k : ℕ) → least_digits c - length (ds n) ≡ k → opens_with_zero (filled c (ds m)) ≡ true
      by zero none =
          let first : opens_with_zero (ds n) ≡ true = ap (λ (k : ℕ). opens_with_zero (zeros k ++ ds n)) (sym none) ∙ e in
          let zero_is : n ≡ 0 = opened_is_zero laws c n small first in
          ap (λ (k : ℕ). opens_with_zero (filled c (ds k))) {x = m} {y = n} (omega (arith, zero_is)) ∙ e
      by (suc k) filling = opened_by (least_digits c - length (ds m)) (ds m) (omega (arith, filling, longer))

  size_of : (o x : Bool) (xs : List ℕ) → length (cond (o && not x) (48 ∷ xs) xs) ≡ cond (o && not x) 1 0 + length xs
  size_of true true xs = omega arith
  size_of true false xs = omega arith
  size_of false x xs = omega arith

  fewer : (o x y : Bool) → (y ≡ true → x ≡ true) → cond (o && not x) 1 0 ≤ cond (o && not y) 1 0
  fewer false x y h = omega arith
  fewer true true y h = omega arith
  fewer true false false h = omega arith
  fewer true false true h = let wrong : false ≡ true = h refl in absurd cc

  pub digits_grow : length (all_digits c m) ≤ length (all_digits c n)
  digits_grow =
      let o : Bool = is_octal c.letter && c.alt in
      let xs : List ℕ = filled c (ds m) in
      let ys : List ℕ = filled c (ds n) in
      let left : length (all_digits c m) ≡ cond (o && not (opens_with_zero xs)) 1 0 + length xs =
      ap (λ (t : List ℕ). length (with_octal_zero c (filled c t))) (numeral_is c m some) ∙ size_of o (opens_with_zero xs) xs in
      let right : length (all_digits c n) ≡ cond (o && not (opens_with_zero ys)) 1 0 + length ys =
      ap (λ (t : List ℕ). length (with_octal_zero c (filled c t))) (numeral_is c n some) ∙ size_of o (opens_with_zero ys) ys in
      omega (
        arith,
        left,
        right,
        fewer o (opens_with_zero xs) (opens_with_zero ys) opened,
        filled_length c (ds m),
        filled_length c (ds n),
        longer,
      )

-- ---- what stands before the digits

mark_grows : (c : PrintConv) (m n : ℕ) → m ≤ n → length (mark c m) ≤ length (mark c n)
mark_grows c m n h = by c.alt (eqb m 0) (eqb n 0) refl refl
  where
    by : (a x y : Bool) → eqb m 0 ≡ x → eqb n 0 ≡ y
        → length (cond (a && not x) (base_mark c.letter) []) ≤ length (cond (a && not y) (base_mark c.letter) [])
    by false x y e f = omega arith
    by true true y e f = omega arith
    by true false false e f = omega arith
    by true false true e f = let k : n ≡ 0 = eqb-true n 0 f in
        let wrong : eqb m 0 ≡ true = ap (λ (k : ℕ). eqb k 0) {x = m} {y = 0} (omega arith) in
        absurd cc

-- the bytes from the digits on, as they were counted
counted_digits : (c : PrintConv) (z : ℤ) (b : Body c z) → b.lead + length (digits_of c z) ≡ length (all_digits c (unsigned_abs z))
counted_digits c z b =
    let m : ℕ = unsigned_abs z in
    let signs : length (prefix c z) ≡ hidden c z + length (bare_sign c z) + length (mark c m) =
    ap (λ (xs : List ℕ). length (xs ++ mark c m)) (sign_is c z) ∙ omega (
      arith,
      length-append (blanks (hidden c z) ++ bare_sign c z) (mark c m),
      length-append (blanks (hidden c z)) (bare_sign c z),
      length-replicate {A = ℕ} (hidden c z) 32,
    ) in
    omega (arith, b.counted, signs)

-- ---- numbers of one sign

pub record OneSign (c : PrintConv) (z y : ℤ) : Type 0 where
  pub hides : hidden c z ≡ hidden c y
  pub shows : length (bare_sign c z) ≡ length (bare_sign c y)
  pub one : hidden c z + length (bare_sign c z) ≤ 1

text_grows : LawsBelow → (c : PrintConv) → 0 < least_digits c → (z y : ℤ) → Body c z → Body c y → OneSign c z y
    → unsigned_abs z ≤ unsigned_abs y → unsigned_abs y < 2 ^ 64 → length (visible c z) ≤ length (visible c y)
text_grows laws c some z y b d s h small =
    let g = size_more (pads_with_zeros c) c.width (hidden c z) (length (bare_sign c z)) (length (mark c (unsigned_abs z)))
    (b.lead + length (digits_of c z))
    (hidden c y) (length (bare_sign c y)) (length (mark c (unsigned_abs y))) (d.lead + length (digits_of c y))
    (omega (arith, s.hides, s.shows, s.one)) s.one (omega (arith, s.shows)) (omega (arith, s.hides))
    (mark_grows c (unsigned_abs z) (unsigned_abs y) h)
    (omega (arith, counted_digits c z b, counted_digits c y d, digits_grow laws c (unsigned_abs z) (unsigned_abs y) some h small)) in
    omega (arith, visible_size c z b, visible_size c y d, g)

signs_alike : (c : PrintConv) (m n : ℕ) → OneSign c (pos m) (pos n)
signs_alike c m n = record { hides = refl; shows = refl; one = signs c.plus c.blank }

minuses_alike : (c : PrintConv) (m n : ℕ) → OneSign c (negsuc m) (negsuc n)
minuses_alike c m n = record { hides = refl; shows = refl; one = omega arith }

module _ (laws : LawsBelow) (c : PrintConv) (right : c.minus ≡ false) (some : 0 < least_digits c) where
  no_longer : (low : ℤ) (high : ℕ) → unsigned_abs low < 2 ^ 64 → high < 2 ^ 64 → (z : ℤ) → IsBetween low high z
      → length (visible c z) ≤ max (length (visible c low)) (length (visible c (pos high)))
  no_longer low high low_small small (pos m) h =
      let g = text_grows laws c some (pos m) (pos high) (body_of laws c (pos m) right some (omega arith))
      (body_of laws c (pos high) right some small) (signs_alike c m high) h small in
      omega (arith, g)
  no_longer (negsuc l) high low_small small (negsuc k) h =
      let g = text_grows laws c some (negsuc k) (negsuc l) (body_of laws c (negsuc k) right some (omega arith))
      (body_of laws c (negsuc l) right some low_small) (minuses_alike c k l) (omega arith) low_small in
      omega (arith, g)
  no_longer (pos l) high low_small small (negsuc k) h = absurd h

-- ---- the numbers of a kind

-- the greater of the lengths of the two
pub longest_is : LawsBelow → (c : PrintConv) → c.minus ≡ false → 0 < least_digits c → (least greatest : Datum)
    → AreExtremes c.kind least greatest
    → IsLongest c (max (length (without_blanks (value_text c least))) (length (without_blanks (value_text c greatest))))
longest_is laws c right some least greatest ends =
    subst (λ (n : ℕ). IsLongest c n)
    (ap₂ (λ (a b : Datum). max (length (without_blanks (value_text c a))) (length (without_blanks (value_text c b))))
    (sym ends.least_is) (sym ends.greatest_is)) (elim (le_or_lt low high) [
      | inl h ↦ record { longest = pos ends.high; of_kind = ends.high_in; has = omega (arith, h); none_longer = each }
      | inr h ↦ record { longest = ends.low; of_kind = ends.low_in; has = omega (arith, h); none_longer = each }
    ])
  where
    low : ℕ
    low = length (visible c ends.low)

    high : ℕ
    high = length (visible c (pos ends.high))

    le_or_lt : (n k : ℕ) → (n ≤ k) ⊎ (k < n)
    le_or_lt zero k = inl (omega arith)
    le_or_lt (suc n) zero = inr (omega arith)
    le_or_lt (suc n) (suc k) = elim (le_or_lt n k) [ inl h ↦ inl (omega arith) | inr h ↦ inr (omega arith) ]

    each : (z : ℤ) → IsIn c.kind z → length (visible c z) ≤ max low high
    each z h = no_longer laws c right some ends.low ends.high ends.low_small ends.high_small z (ends.between z h)
