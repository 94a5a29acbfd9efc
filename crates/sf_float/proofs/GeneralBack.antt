-- What `%g` prints with 17 digits or more is read as the float.
use Rattle.std.proofs.Common.{◌≡◌, ℕ, ◌+◌, ◌-◌, ◌*◌, ◌/◌, ◌%◌, ◌^◌, ◌<◌, ◌≤◌, Bool, true, ◌++◌, length, T, refl, sym, ap, ◌∙◌, subst, inl}
use Rattle.std.proofs.Common.{inr, arith, append-nil, Some, lt_of_lt_of_le, leb, lt_of_mul-lt-mul_right}
use Rattle.std.proofs.lemmas.Nat.{pow-add}
use Rattle.std.proofs.Math.Nat.{pow-le-pow_right, le_trans, zero-mul}
use native.Mathlib.Nat.{eq_of_mul-eq-mul_right}
use lib.Dec.{lit<}
use lib.Ieee.Bits.{of_bits-to_bits, to_bits-lt}
use lib.Ieee.Scale.{round_same}
use Rattle.std.specs.Str.Parse.{digits_value}
use Rattle.std.specs.Float.{is_sign_negative}
use Rattle.std.specs.Float.Ieee.{Float, binary64, round, of_bits, to_bits, fits, top}
use Rattle.std.specs.Float.Numeral.{Parts, text_of, numeral_digits, tens_up, tens_down, IsWellFormed, nearest_float}
use Rattle.std.specs.Float.Parse.{parse_float}
use Rattle.std.specs.Fmt.{sign_text}
use Rattle.ryu.specs.Plain.{text_with}
use Rattle.ryu.proofs.Plus.{parse_float-text_with}
use Rattle.ryu.proofs.Signs.{parts, finite_number}
use Rattle.sf_float.specs.Scaled.{scaled, is_nonzero, IsSignificant}
use Rattle.sf_float.specs.Texts.{fixed_digits, fixed_parts, fixed_text, point_text, scientific, IsCount}
use Rattle.sf_float.specs.General.{IsShortened}
use Rattle.sf_float.specs.Laws.{GeneralReadsBack, GeneralZeroReadsBack}
use Rattle.sf_float.proofs.Limbs.{power_pos}
use Rattle.sf_float.proofs.ReadBack.{reads_back}
use Rattle.sf_float.proofs.TextLaws.{finite_of, sign_is, enough, fixed_all, fixed_length, fixed_value, fixed_split, pointless, well_formed}
use Rattle.sf_float.proofs.TextLaws.{worth, zero_round}
use Rattle.sf_float.proofs.Values.{at_pattern}

-- the parts stand for more than 2 ^ 53 steps of x, rounded
pub text_back : (x : Float) (p : Parts) (i j : ℕ) → T (fits binary64 x) → is_nonzero x → IsWellFormed p → 0 < length p.whole
    → 2 ^ 53 < scaled x i j
    → numeral_digits p * 10 ^ tens_up p * 10 ^ i ≡ scaled x i j * 10 ^ j * 10 ^ tens_down p
    → parse_float binary64 (sign_text (is_sign_negative x) ++ text_with true p) ≡ Some x
text_back x p i j f some formed whole many same_worth =
    let raw = to_bits binary64 x in
    let finite = finite_of x some in
    let split = parts binary64 x raw (of_bits-to_bits binary64 x f) (to_bits-lt binary64 x f) (finite_number x finite) in
    let negative = leb (top binary64) raw in
    let bits = raw % top binary64 in
    let bound = split.finite.0 finite in
    let read = parse_float-text_with binary64 negative p formed whole in
    let same : nearest_float binary64 negative p ≡ x =
    round_same binary64 negative _ _ (scaled x i j * 10 ^ j) (10 ^ i) (power_pos 10 (tens_down p) (lit< tt))
    (power_pos 10 i (lit< tt)) same_worth
    ∙ reads_back binary64 x negative bits i j split bound many in
    let sign : negative ≡ is_sign_negative x = sign_is x (of_bits binary64 bits) negative _ _ split.same (at_pattern bits bound) in
    ap (λ b. parse_float binary64 (sign_text b ++ text_with true p)) (sym sign) ∙ read ∙ ap Some same

-- ---- the style of `%f`

abbrev plain_parts : Bool → ℕ → ℕ → ℕ → Parts
plain_parts alt kept m count = fixed_parts alt kept m count (length (text_of (fixed_parts alt kept m count 0)))

plain_formed : (alt : Bool) (kept m count : ℕ) → IsWellFormed (plain_parts alt kept m count)
plain_formed alt kept m count =
    record {
      whole_digits = fixed_all count (m / 10 ^ kept);
      fraction_digits = fixed_all kept m;
      exponent_digits = tt;
      no_point = pointless alt kept m;
      no_exponent = λ h. refl;
      len_is = refl;
    }

plain_text : (alt : Bool) (kept m count : ℕ) → fixed_text alt kept m count ≡ text_with true (plain_parts alt kept m count)
plain_text alt kept m count = ap (λ t. fixed_digits count (m / 10 ^ kept) ++ t) (sym (append-nil (point_text alt kept m)))

plain_digits : (alt : Bool) (kept m count : ℕ) → m < 10 ^ (count + kept) → numeral_digits (plain_parts alt kept m count) ≡ m
plain_digits alt kept m count h = ap (digits_value 10) (fixed_split count kept m) ∙ fixed_value (count + kept) m h

plain_worth : (alt : Bool) (kept m count decimals n : ℕ) → m < 10 ^ (count + kept) → kept ≤ decimals → n ≡ m * 10 ^ (decimals - kept)
    → let p = plain_parts alt kept m count in numeral_digits p * 10 ^ tens_up p * 10 ^ decimals ≡ n * 10 ^ 0 * 10 ^ tens_down p
plain_worth alt kept m count decimals n h l e =
    let d : decimals ≡ decimals - kept + kept = omega arith in
    let w : 10 ^ decimals ≡ 10 ^ (decimals - kept) * 10 ^ kept = ap (λ t. 10 ^ t) d ∙ pow-add 10 (decimals - kept) kept in
    let down : length (fixed_digits kept m) + 0 ≡ kept = omega (arith, fixed_length kept m) in
    (λ i. plain_digits alt kept m count h i * 10 ^ 0 * w i)
    ∙ regroup m (10 ^ (decimals - kept)) (10 ^ kept)
    ∙ (λ i. sym e i * 10 ^ 0 * 10 ^ (sym down i))
  where
    regroup : (x y z : ℕ) → x * 1 * (y * z) ≡ x * y * 1 * z
    regroup x y z = omega arith

-- ---- the style of `%e`

raised_worth : (alt : Bool) (kept m power digits n : ℕ) → m < 10 ^ (kept + 1) → power < 1000 → kept + 1 ≤ digits
    → n ≡ m * 10 ^ (digits - 1 - kept)
    → let p = scientific alt kept m power in numeral_digits p * 10 ^ tens_up p * 10 ^ (digits + 399 - power)
    ≡ n * 10 ^ (power - (digits + 399)) * 10 ^ tens_down p
raised_worth alt kept m power digits n h few l e =
    let p = scientific alt kept m power in
    let a = numeral_digits p * 10 ^ tens_up p in
    let i = digits + 399 - power in
    let j = power - (digits + 399) in
    let k = kept + 1 + 399 - power in
    let q = power - (kept + 1 + 399) in
    let w = digits - 1 - kept in
    let s : q + i ≡ w + (j + k) = omega arith in
    let t : 10 ^ q * 10 ^ i ≡ 10 ^ w * (10 ^ j * 10 ^ k) = sym (pow-add 10 q i) ∙ ap (λ x. 10 ^ x) s ∙ pow-add 10 w (j + k)
    ∙ ap (λ x. 10 ^ w * x) (pow-add 10 j k) in
    let b : a * 10 ^ k ≡ m * 10 ^ q * 10 ^ tens_down p = worth alt kept m power k q h few refl refl in
    eq_of_mul-eq-mul_right (10 ^ k) (power_pos 10 k (lit< tt)) (a * 10 ^ i) (n * 10 ^ j * 10 ^ tens_down p)
    (joined a m n (10 ^ tens_down p) (10 ^ i) (10 ^ j) (10 ^ k) (10 ^ q) (10 ^ w) b t e)
  where
    joined : (a m n d I J K Q W : ℕ) → a * K ≡ m * Q * d → Q * I ≡ W * (J * K) → n ≡ m * W → a * I * K ≡ n * J * d * K
    joined a m n d I J K Q W b t e = omega (arith, ap (λ x. x * I) b, ap (λ x. m * d * x) t, ap (λ x. x * J * d * K) e)

-- ---- both

module _ (x : Float) (digits n power : ℕ) (f : T (fits binary64 x)) (some : is_nonzero x) (many : 17 ≤ digits) (few : power < 1000)
    (s : IsSignificant x digits n power) where
  long : 2 ^ 53 < n
  long = let l : 16 ≤ digits - 1 = omega arith in lt_of_lt_of_le enough (le_trans (pow-le-pow_right (lit< tt) l) s.full)

  -- what is left of n is below 10 ^ (kept + 1)
  short : (alt : Bool) (kept m : ℕ) → IsShortened 10 alt (digits - 1) n kept m → m < 10 ^ (kept + 1)
  short alt kept m k =
      let less : kept ≤ digits - 1 = k.fewer in
      let e : digits ≡ kept + 1 + (digits - 1 - kept) = omega arith in
      let p : 10 ^ digits ≡ 10 ^ (kept + 1) * 10 ^ (digits - 1 - kept) = ap (λ t. 10 ^ t) e ∙ pow-add 10 (kept + 1) (digits - 1 - kept) in
      lt_of_mul-lt-mul_right (10 ^ (digits - 1 - kept)) (omega (arith, k.same, p, s.fits))

  raised : (alt : Bool) (kept m : ℕ) → IsShortened 10 alt (digits - 1) n kept m
      → parse_float binary64 (sign_text (is_sign_negative x) ++ text_with true (scientific alt kept m power)) ≡ Some x
  raised alt kept m k =
      let less : kept ≤ digits - 1 = k.fewer in
      let w = raised_worth alt kept m power digits n (short alt kept m k) few (omega arith) k.same in
      let p = scientific alt kept m power in
      text_back x p (digits + 399 - power) (power - (digits + 399)) f some (well_formed alt kept m power) (lit< tt)
      (subst (λ t. 2 ^ 53 < t) s.is long)
      (w ∙ ap (λ t. t * 10 ^ (power - (digits + 399)) * 10 ^ tens_down p) s.is)

  plain : (alt : Bool) (kept m count : ℕ) → power < 400 + digits → IsShortened 10 alt (digits + 399 - power) n kept m → IsCount kept m count
      → parse_float binary64 (sign_text (is_sign_negative x) ++ fixed_text alt kept m count) ≡ Some x
  plain alt kept m count l k c =
      let p = plain_parts alt kept m count in
      let i = digits + 399 - power in
      let z : power - (digits + 399) ≡ 0 = omega arith in
      let is : n ≡ scaled x i 0 = s.is ∙ ap (scaled x i) z in
      let w = plain_worth alt kept m count i n c.fits k.fewer k.same in
      let some_digits : 0 < length (fixed_digits count (m / 10 ^ kept)) = omega (arith, fixed_length count (m / 10 ^ kept), c.some) in
      ap (λ t. parse_float binary64 (sign_text (is_sign_negative x) ++ t)) (plain_text alt kept m count)
      ∙ text_back x p i 0 f some (plain_formed alt kept m count) some_digits (subst (λ t. 2 ^ 53 < t) is long)
      (w ∙ ap (λ t. t * 10 ^ 0 * 10 ^ tens_down p) is)

pub general_back : GeneralReadsBack
general_back x alt digits n power t f some many few s (inl g) =
    ap (λ u. parse_float binary64 (sign_text (is_sign_negative x) ++ u)) g.1.5
    ∙ plain x digits n power f some many few s alt g.1.0 g.1.1 g.1.2 g.0.1 g.1.3 g.1.4
general_back x alt digits n power t f some many few s (inr g) =
    ap (λ u. parse_float binary64 (sign_text (is_sign_negative x) ++ u)) g.1.3
    ∙ raised x digits n power f some many few s alt g.1.0 g.1.1 g.1.2

-- ---- zero

none_left : (m w : ℕ) → 0 ≡ m * 10 ^ w → m ≡ 0
none_left m w e = eq_of_mul-eq-mul_right (10 ^ w) (power_pos 10 w (lit< tt)) m 0 (sym e ∙ omega arith)

pub general_zero : GeneralZeroReadsBack
general_zero negative alt digits t D (inr g) = elim g.0 [ inl l ↦ absurd (omega (arith, l)) | inr l ↦ absurd (omega (arith, l)) ]
general_zero negative alt digits t D (inl g) =
    let kept = g.1.0 in
    let m = g.1.1 in
    let count = g.1.2 in
    let c = g.1.4 in
    let p = plain_parts alt kept m count in
    let none : numeral_digits p * 10 ^ tens_up p ≡ 0 = ap (λ k. k * 10 ^ tens_up p)
    (plain_digits alt kept m count c.fits ∙ none_left m (digits + 399 - 400 - kept) g.1.3.same) ∙ zero-mul (10 ^ tens_up p) in
    let some : 0 < length (fixed_digits count (m / 10 ^ kept)) = omega (arith, fixed_length count (m / 10 ^ kept), c.some) in
    ap (λ u. parse_float binary64 (sign_text negative ++ u)) (g.1.5 ∙ plain_text alt kept m count)
    ∙ parse_float-text_with binary64 negative p (plain_formed alt kept m count) some
    ∙ ap Some (ap (λ k. round binary64 negative k (10 ^ tens_down p)) none
    ∙ zero_round negative (10 ^ tens_down p) (power_pos 10 (tens_down p) (lit< tt)))
