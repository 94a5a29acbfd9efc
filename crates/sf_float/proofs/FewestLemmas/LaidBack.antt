-- Digits that are laid out are read as their decimal.
use Rattle.std.proofs.Common.{◌≡◌, ℕ, ◌+◌, ◌-◌, ◌*◌, ◌/◌, ◌^◌, ◌<◌, ◌≤◌, Bool, true, false, ◌||◌, List, [], ◌∷◌, ◌++◌, length, max, nat_lt}
use Rattle.std.proofs.Common.{if◌then◌else◌, Some, refl, sym, ap, ◌∙◌, inl, inr, arith, eq-zero-or-pos, append-nil, lt-ltb, le-ltb}
use Rattle.std.proofs.Common.{mul-lt-mul_of_pos_right, lt_of_lt_of_le}
use Rattle.std.proofs.lemmas.Nat.{pow-add}
use Rattle.std.proofs.Math.Nat.{pow-le-pow_right}
use lib.Dec.{lit<}
use lib.Ieee.Scale.{round_same}
use Rattle.std.specs.Str.Parse.{digits_value}
use Rattle.std.specs.Float.Ieee.{Float, Format, round}
use Rattle.std.specs.Float.Numeral.{Parts, text_of, exponent_text, numeral_digits, tens_up, tens_down, IsWellFormed, nearest_float}
use Rattle.std.specs.Float.Parse.{parse_float}
use Rattle.std.specs.Fmt.{sign_text}
use Rattle.std.proofs.lemmas.Float.Parse.{parse_float-text_of}
use Rattle.sf_base.specs.declared.real.Real as real
use Rattle.sf_float.specs.Texts.{fixed_digits, fixed_parts, fixed_text, point_text, exponent_size}
use Rattle.sf_float.specs.Computed.{count_of}
use Rattle.sf_float.proofs.Limbs.{power_pos}
use Rattle.sf_float.proofs.TextLaws.{fixed_all, fixed_length, fixed_value, fixed_split, pointless}
use Rattle.sf_float.specs.fewest.Laid.{plain_text, raised_text, is_plain, laid_out}
use Rattle.sf_float.proofs.FewestLemmas.FirstDigits.{count_fits, count_some}

-- the float of the kind that is nearest to a decimal
abbrev pub decimal : Format → Bool → ℕ → ℕ → Float
decimal f negative n last = round f negative (n * 10 ^ (last - 400)) (10 ^ (400 - last))

-- parts of that worth
worth : (f : Format) (negative : Bool) (p : Parts) (n last : ℕ)
    → numeral_digits p * 10 ^ tens_up p * 10 ^ (400 - last) ≡ n * 10 ^ (last - 400) * 10 ^ tens_down p
    → nearest_float f negative p ≡ decimal f negative n last
worth f negative p n last e =
    round_same f negative _ _ _ _ (power_pos 10 (tens_down p) (lit< tt)) (power_pos 10 (400 - last) (lit< tt)) e

regrouped : (n a i j d : ℕ) → a + i ≡ j + d → n * 10 ^ a * 10 ^ i ≡ n * 10 ^ j * 10 ^ d
regrouped n a i j d e =
    let t : 10 ^ a * 10 ^ i ≡ 10 ^ j * 10 ^ d = sym (pow-add 10 a i) ∙ ap (λ k. 10 ^ k) e ∙ pow-add 10 j d in
    omega (arith, ap (λ k. n * k) t)

-- ---- without an exponent

module _ (f : Format) (negative : Bool) (m decimals count : ℕ) where
  plain_parts : Parts
  plain_parts = fixed_parts false decimals m count (length (text_of (fixed_parts false decimals m count 0)))

  plain_formed : IsWellFormed plain_parts
  unfolding plain_parts
  plain_formed = record {
    whole_digits = fixed_all count (m / 10 ^ decimals);
    fraction_digits = fixed_all decimals m;
    exponent_digits = tt;
    no_point = pointless false decimals m;
    no_exponent = λ h. refl;
    len_is = refl;
  }

  plain_is : fixed_text false decimals m count ≡ text_of plain_parts
  unfolding plain_parts
  plain_is = ap (λ t. fixed_digits count (m / 10 ^ decimals) ++ t) (sym (append-nil (point_text false decimals m)))

  plain_digits : m < 10 ^ (count + decimals) → numeral_digits plain_parts ≡ m
  unfolding plain_parts
  plain_digits h = ap (digits_value 10) (fixed_split count decimals m) ∙ fixed_value (count + decimals) m h

  plain_down : tens_down plain_parts ≡ decimals
  unfolding plain_parts
  plain_down = omega (arith, fixed_length decimals m)

  plain_up : tens_up plain_parts ≡ 0
  unfolding plain_parts
  plain_up = refl

  plain_some : 0 < count → 0 < length plain_parts.whole
  unfolding plain_parts
  plain_some c = omega (arith, fixed_length count (m / 10 ^ decimals), c)

  pub fixed_back : (n last : ℕ) → 0 < count → m < 10 ^ (count + decimals)
      → m * 10 ^ 0 * 10 ^ (400 - last) ≡ n * 10 ^ (last - 400) * 10 ^ decimals
      → parse_float f (sign_text negative ++ fixed_text false decimals m count) ≡ Some (decimal f negative n last)
  fixed_back n last c h e =
      ap (λ t. parse_float f (sign_text negative ++ t)) plain_is
      ∙ parse_float-text_of f negative plain_parts plain_formed (plain_some c)
      ∙ ap Some (worth f negative plain_parts n last
      ((λ i. plain_digits h i * 10 ^ (plain_up i) * 10 ^ (400 - last)) ∙ e ∙ ap (λ d. n * 10 ^ (last - 400) * 10 ^ d) (sym plain_down)))

plain_back : (f : Format) (negative : Bool) (n last count : ℕ) → n < 10 ^ count
    → parse_float f (sign_text negative ++ plain_text n last (count + last)) ≡ Some (decimal f negative n last)
plain_back f negative n last count h =
    let decimals = max (400 - last) 1 in
    let k = last + decimals - 400 in
    let whole = max (count + last - 400) 1 in
    let some : 0 < whole = omega arith in
    let room : count + k ≤ whole + decimals = omega arith in
    let up : 10 ^ (count + k) ≤ 10 ^ (whole + decimals) = pow-le-pow_right {n = 10} (lit< tt) room in
    let l : n * 10 ^ k < 10 ^ count * 10 ^ k = mul-lt-mul_of_pos_right h (power_pos 10 k (lit< tt)) in
    let s : k + (400 - last) ≡ last - 400 + decimals = omega arith in
    let e : n * 10 ^ k * 10 ^ 0 * 10 ^ (400 - last) ≡ n * 10 ^ (last - 400) * 10 ^ decimals =
    omega (arith, regrouped n k (400 - last) (last - 400) decimals s) in
    fixed_back f negative (n * 10 ^ k) decimals whole n last some (lt_of_lt_of_le l (omega (arith, pow-add 10 count k, up))) e

-- ---- with an exponent

longer : (ds : List ℕ) (negative : Bool) → 0 < length ds → exponent_text negative ds ≡ 101 ∷ (sign_text negative ++ ds)
longer [] negative h = absurd (omega (arith, h))
longer (d ∷ ds) negative h = refl

module _ (f : Format) (negative : Bool) (n count power : ℕ) where
  size : ℕ
  size = exponent_size power

  low : Bool
  low = nat_lt power 400

  exponent : List ℕ
  exponent = fixed_digits (count_of 0 (exponent_size power)) (exponent_size power)

  parts : ℕ → Parts
  parts len = record {
    whole = fixed_digits 1 (n / 10 ^ (count - 1));
    point = nat_lt 0 (count - 1) || false;
    fraction = fixed_digits (count - 1) n;
    exponent_negative = low;
    exponent = exponent;
    len = len;
  }

  raised_parts : Parts
  raised_parts = parts (length (text_of (parts 0)))

  some_exponent : 0 < length exponent
  unfolding exponent
  some_exponent = omega (arith, fixed_length (count_of 0 (exponent_size power)) (exponent_size power), count_some (exponent_size power))

  raised_formed : IsWellFormed raised_parts
  unfolding raised_parts parts exponent low
  raised_formed = record {
    whole_digits = fixed_all 1 (n / 10 ^ (count - 1));
    fraction_digits = fixed_all (count - 1) n;
    exponent_digits = fixed_all (count_of 0 (exponent_size power)) (exponent_size power);
    no_point = pointless false (count - 1) n;
    no_exponent = λ h. absurd (omega (arith, some_exponent, ap length h));
    len_is = refl;
  }

  raised_is : fixed_digits 1 (n / 10 ^ (count - 1)) ++ point_text false (count - 1) n ++ 101 ∷ (sign_text (nat_lt power 400)
      ++ fixed_digits (count_of 0 (exponent_size power)) (exponent_size power)) ≡ text_of raised_parts
  unfolding raised_parts parts exponent low
  raised_is =
      ap (λ t. fixed_digits 1 (n / 10 ^ (count - 1)) ++ point_text false (count - 1) n ++ t)
      (sym (longer exponent (nat_lt power 400) some_exponent))

  raised_digits : 0 < count → n < 10 ^ count → numeral_digits raised_parts ≡ n
  unfolding raised_parts parts
  raised_digits c h =
      let e : 1 + (count - 1) ≡ count = omega arith in
      ap (digits_value 10) (fixed_split 1 (count - 1) n) ∙ fixed_value (1 + (count - 1)) n (rw e h)

  exponent_value : digits_value 10 exponent ≡ exponent_size power
  unfolding exponent
  exponent_value = fixed_value (count_of 0 (exponent_size power)) (exponent_size power) (count_fits (exponent_size power))

  up_high : 400 ≤ power → tens_up raised_parts ≡ power - 400
  unfolding raised_parts parts low
  up_high l = rw (le-ltb power 400 l) (exponent_value ∙ omega arith)

  down_high : 400 ≤ power → tens_down raised_parts ≡ count - 1
  unfolding raised_parts parts low
  down_high l = rw (le-ltb power 400 l) (omega (arith, fixed_length (count - 1) n))

  up_low : power < 400 → tens_up raised_parts ≡ 0
  unfolding raised_parts parts low
  up_low l = rw (lt-ltb power 400 l) refl

  down_low : power < 400 → tens_down raised_parts ≡ count - 1 + (400 - power)
  unfolding raised_parts parts low
  down_low l = rw (lt-ltb power 400 l) (let s : exponent_size power ≡ 400 - power = omega arith in
      (λ i. fixed_length (count - 1) n i + (exponent_value ∙ s) i))

  raised_some : 0 < length raised_parts.whole
  unfolding raised_parts parts
  raised_some = lit< tt

  raised_worth : (last : ℕ) → 0 < count → power + 1 ≡ count + last → n < 10 ^ count
      → numeral_digits raised_parts * 10 ^ tens_up raised_parts * 10 ^ (400 - last) ≡ n * 10 ^ (last - 400) * 10 ^ tens_down raised_parts
  raised_worth last c p h =
      let d = raised_digits c h in
      elim (eq-zero-or-pos (400 - power)) [
        | inl z ↦
            let l : 400 ≤ power = omega arith in
            let s : power - 400 + (400 - last) ≡ last - 400 + (count - 1) = omega arith in
            (λ i. d i * 10 ^ (up_high l i) * 10 ^ (400 - last)) ∙ regrouped n (power - 400) (400 - last) (last - 400) (count - 1) s
            ∙ ap (λ k. n * 10 ^ (last - 400) * 10 ^ k) (sym (down_high l))
        | inr q ↦
            let l : power < 400 = omega arith in
            let s : 0 + (400 - last) ≡ last - 400 + (count - 1 + (400 - power)) = omega arith in
            (λ i. d i * 10 ^ (up_low l i) * 10 ^ (400 - last)) ∙ regrouped n 0 (400 - last) (last - 400) (count - 1 + (400 - power)) s
            ∙ ap (λ k. n * 10 ^ (last - 400) * 10 ^ k) (sym (down_low l))
      ]

  pub raised_back : (last : ℕ) → 0 < count → power + 1 ≡ count + last → n < 10 ^ count
      → parse_float f (sign_text negative ++ (fixed_digits 1 (n / 10 ^ (count - 1)) ++ point_text false (count - 1) n ++ 101 ∷
      (sign_text (nat_lt power 400) ++ fixed_digits (count_of 0 (exponent_size power)) (exponent_size power))))
      ≡ Some (decimal f negative n last)
  raised_back last c p h =
      ap (λ t. parse_float f (sign_text negative ++ t)) raised_is
      ∙ parse_float-text_of f negative raised_parts raised_formed raised_some
      ∙ ap Some (worth f negative raised_parts n last (raised_worth last c p h))

-- ---- either way

pub laid_back : (r : real.Real) (f : Format) (negative : Bool) (n last : ℕ)
    → parse_float f (sign_text negative ++ laid_out r n last) ≡ Some (decimal f negative n last)
laid_back r f negative n last = by (is_plain r (count + last))
  where
    count : ℕ
    count = count_of 0 n

    by : (b : Bool) → parse_float f (sign_text negative ++ (if b then plain_text n last (count_of 0 n + last)
        else raised_text n (count_of 0 n) (count_of 0 n + last))) ≡ Some (decimal f negative n last)
    by true = plain_back f negative n last (count_of 0 n) (count_fits n)
    by false =
        let c = count_some n in
        let p : count_of 0 n + last - 1 + 1 ≡ count_of 0 n + last = omega (arith, c) in
        raised_back f negative n (count_of 0 n) (count_of 0 n + last - 1) last c p (count_fits n)
