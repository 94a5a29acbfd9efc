-- The text of a float is the one that is computed.
use Rattle.std.proofs.Common.{◌≡◌, ℕ, zero, suc, ◌+◌, ◌-◌, ◌*◌, ◌/◌, ◌%◌, ◌^◌, ◌<◌, ◌≤◌, Bool, true, false, List, ◌∷◌, ◌++◌, max, nat_eq}
use Rattle.std.proofs.Common.{nat_lt, nat_le, Option, Some, None, refl, sym, ap, ◌∙◌, subst, arith, eq-or-lt_of_le, inl, inr, pow-suc}
use Rattle.std.proofs.Common.{pow_pos, mul-div_cancel, le_trans, mul-pos, div-add-mod', mul-le-mul_left, ◌⊎◌, unwrap_or, cond}
use Rattle.std.proofs.lemmas.Bool.{true≢false, eqb-true, eq-eqb, ne_eqb, lt-ltb, le-ltb, le-leb, lt-leb, and_from, and_right}
use Rattle.std.proofs.lemmas.Nat.{pow-add}
use Rattle.std.proofs.Math.Nat.{pow-le-pow_right}
use native.Mathlib.Nat.{eq_of_mul-eq-mul_right, mul-mod_left}
use lib.Dec.{lit<}
use lib.Ieee.Fits.{down_pos}
use Rattle.std.specs.Float.Ieee.{Float, nan, inf, fin, up, down}
use Rattle.std.specs.Float.Ieee.Exact.{HasValue}
use Rattle.std.specs.Float.Ieee.Nearest.{closest}
use Rattle.ryu.specs.Plain.{text_with}
use Rattle.sf_float.specs.declared.text.Style.{Style}
use Rattle.sf_float.specs.declared.text.Style.TheVariants.{Fixed, Exponent, General, Hexadecimal}
use Rattle.sf_float.specs.Scaled.{scaled, scaled_at, is_zero, IsSignificant, IsScientific}
use Rattle.sf_float.specs.Texts.{fixed_digits, fixed_text, scientific, IsCount}
use Rattle.sf_float.specs.General.{IsShortened, IsPlainPower, IsGeneralOf}
use Rattle.sf_float.specs.Hexadecimal.{IsBinary, binary_power, IsBinaryExponent, IsHexNumeral, hex_text}
use Rattle.sf_float.specs.Printed.{IsDigitsText, IsSizeText, in_case, field_text}
use Rattle.sf_float.specs.Computed.{first_passing, least_passing, count_of, needed_of, kept_of, cut_to, is_zero_size, power_of, number_of}
use Rattle.sf_float.specs.Computed.{is_plain_power, fixed_of, general_of, units_of, two_power_of, binary_number_of, hex_numeral_of}
use Rattle.sf_float.specs.Computed.{binary_exponent_of, digits_text, size_text, float_text, HasOneText}
use Rattle.sf_float.proofs.Closest.{closest_below}
use Rattle.sf_float.proofs.Limbs.{power_pos}

-- ---- the least number that passes a test

passing_is : (test : ℕ → Bool) (k i n : ℕ) (b : Bool) → test i ≡ b → i ≤ n → n ≤ i + k → test n ≡ true
    → ((q : ℕ) → i ≤ q → q < n → test q ≡ false)
    → first_passing test k b i ≡ n
passing_is test zero i n b is low high passes least = omega arith
passing_is test (suc k) i n true is low high passes least =
    elim (eq-or-lt_of_le low) [
      | inl e ↦ e
      | inr l ↦ absurd (true≢false (sym is ∙ least i (omega arith) l))
    ]
passing_is test (suc k) i n false is low high passes least =
    elim (eq-or-lt_of_le low) [
      | inl e ↦ absurd (true≢false (sym passes ∙ ap test (sym e) ∙ is))
      | inr l ↦ passing_is test k (suc i) n (test (suc i)) refl l (omega arith) passes (λ q from. least q (omega arith))
    ]

least_is : (test : ℕ → Bool) (k i n : ℕ) → i ≤ n → n ≤ i + k → test n ≡ true → ((q : ℕ) → i ≤ q → q < n → test q ≡ false)
    → least_passing test k i ≡ n
least_is test k i n low high passes least = passing_is test k i n (test i) refl low high passes least

-- ---- digits

below_power : (k : ℕ) → k < 10 ^ k
below_power zero = omega arith
below_power (suc k) = omega (arith, below_power k, pow-suc 10 k)

pub count_is : (decimals n count : ℕ) → IsCount decimals n count → count ≡ count_of decimals n
unfolding count_of
count_is decimals n count c =
    sym (least_is (λ k. nat_lt n (10 ^ (k + decimals))) n 1 count c.some few (lt-ltb _ _ c.fits) more)
  where
    ten : 0 < 10
    ten = lit< tt

    few : count ≤ 1 + n
    few = elim (eq-or-lt_of_le c.some) [
      | inl e ↦ omega arith
      | inr l ↦
          let up : 10 ^ (count - 1) ≤ 10 ^ (count - 1 + decimals) = pow-le-pow_right {n = 10} ten (omega arith) in
          omega (arith, below_power (count - 1), up, c.least l)
    ]

    more : (q : ℕ) → 1 ≤ q → q < count → nat_lt n (10 ^ (q + decimals)) ≡ false
    more q from l =
        let up : 10 ^ (q + decimals) ≤ 10 ^ (count - 1 + decimals) = pow-le-pow_right {n = 10} ten (omega arith) in
        le-ltb _ _ (le_trans up (c.least (omega arith)))

module _ (base decimals n kept m : ℕ) (B : 0 < base) (s : IsShortened base false decimals n kept m) where
  rest_is : n % base ^ (decimals - kept) ≡ 0
  rest_is = ap (λ t. t % base ^ (decimals - kept)) s.same ∙ mul-mod_left m (base ^ (decimals - kept))

  -- with fewer digits kept something is lost
  lost : (q : ℕ) → 0 ≤ q → q < kept → nat_eq (n % base ^ (decimals - q)) 0 ≡ false
  lost q from l = ne_eqb _ _ (λ e. s.needed refl (omega arith) (whole e))
    where
      regroup : (x y z v : ℕ) → x * (y * z * v) ≡ x * y * z * v
      regroup x y z v = omega arith

      w : ℕ
      w = base ^ (decimals - kept)

      more : base ^ (decimals - q) ≡ base ^ (kept - q - 1) * base * w
      more =
          let less : kept ≤ decimals = s.fewer in
          let a : decimals - q ≡ suc (kept - q - 1) + (decimals - kept) = omega arith in
          ap (λ t. base ^ t) a ∙ pow-add base (suc (kept - q - 1)) (decimals - kept) ∙ ap (λ t. t * w) (pow-suc base (kept - q - 1))

      whole : n % base ^ (decimals - q) ≡ 0 → m % base ≡ 0
      whole e =
          let u = base ^ (decimals - q) in
          let r = n / u in
          let split : n ≡ r * u = sym (div-add-mod' n u) ∙ ap (λ t. r * u + t) e ∙ omega arith in
          let both : m * w ≡ r * (base ^ (kept - q - 1) * base * w) = sym s.same ∙ split ∙ ap (λ t. r * t) more in
          let same : m * w ≡ r * base ^ (kept - q - 1) * base * w = both ∙ regroup r (base ^ (kept - q - 1)) base w in
          let m_is : m ≡ r * base ^ (kept - q - 1) * base = eq_of_mul-eq-mul_right w (power_pos base (decimals - kept) B) m
          (r * base ^ (kept - q - 1) * base) same in
          ap (λ t. t % base) m_is ∙ mul-mod_left (r * base ^ (kept - q - 1)) base

  needed_is : kept ≡ needed_of base decimals n
  unfolding needed_of
  needed_is = sym (least_is (λ k. nat_eq (n % base ^ (decimals - k)) 0) decimals 0 kept (omega arith) (omega (arith, s.fewer))
      (eq-eqb _ _ rest_is) lost)

cut_is : (base : ℕ) (all : Bool) (decimals n kept m : ℕ) → 0 < base → IsShortened base all decimals n kept m
    → m ≡ cut_to base decimals n kept
cut_is base all decimals n kept m B s =
    sym (ap (λ t. t / base ^ (decimals - kept)) s.same ∙ mul-div_cancel m (power_pos base (decimals - kept) B))

pub kept_is : (base : ℕ) (all : Bool) (decimals n kept m : ℕ) → 0 < base → IsShortened base all decimals n kept m
    → kept ≡ kept_of base all decimals n
kept_is base true decimals n kept m B s = s.each refl
kept_is base false decimals n kept m B s = needed_is base decimals n kept m B s

-- ---- powers of ten

scaled_zero : (s : Bool) (m : ℕ) (e : _) (i j : ℕ) → m ≡ 0 → scaled (fin s m e) i j ≡ 0
scaled_zero s m e i j z =
    let u = down e * 10 ^ j in
    let U : 0 < u = mul-pos (down_pos e) (power_pos 10 j (lit< tt)) in
    let n : m * up e * 10 ^ i ≡ 0 = ap (λ t. t * up e * 10 ^ i) z ∙ omega arith in
    ap (λ t. closest t u) n ∙ closest_below 0 u 0 (omega arith) (omega arith) (omega arith)

significant_sized : (x : Float) (digits n power : ℕ) → IsSignificant x digits n power → is_zero_size x ≡ false
significant_sized nan digits n power s = refl
significant_sized (inf t) digits n power s = refl
significant_sized (fin t m e) digits n power s = by (nat_eq m 0) refl
  where
    by : (b : Bool) → nat_eq m 0 ≡ b → nat_eq m 0 ≡ false
    by false h = h
    by true h =
        let none : n ≡ 0 = s.is ∙ scaled_zero t m e (digits + 399 - power) (power - (digits + 399)) (eqb-true m 0 h) in
        absurd (omega (arith, none, s.full, power_pos 10 (digits - 1) (lit< tt)))

zero_sized : (x : Float) → is_zero x → is_zero_size x ≡ true
zero_sized nan z = absurd z
zero_sized (inf s) z = absurd z
zero_sized (fin s m e) z = eq-eqb m 0 z

pub power_is : (x : Float) (decimals n power : ℕ) → IsScientific x decimals n power → power ≡ power_of x (decimals + 1)
unfolding power_of
power_is x decimals n power (inl (nil, none, is)) = is ∙ sym (rw (zero_sized x nil) refl)
power_is x decimals n power (inr (s, few)) =
    rw (significant_sized x (decimals + 1) n power s)
    (sym (least_is (λ p. nat_lt (scaled_at x (decimals + 1) p) (10 ^ (decimals + 1))) 1000 0 power (omega arith) (omega arith)
    (lt-ltb _ _ (subst (λ t. t < 10 ^ (decimals + 1)) s.is s.fits))
    (λ q from l. le-ltb _ _ (s.least q l))))

pub number_is : (x : Float) (decimals n power : ℕ) → IsScientific x decimals n power → n ≡ number_of x (decimals + 1)
number_is x decimals n power (inl (nil, none, is)) = none ∙ sym (rw (zero_sized x nil) refl)
number_is x decimals n power (inr (s, few)) =
    rw (significant_sized x (decimals + 1) n power s) (s.is ∙ ap (scaled_at x (decimals + 1)) (power_is x decimals n power (inr (s, few))))

-- ---- the style of g

plain_tests : (digits power : ℕ) → IsPlainPower digits power → is_plain_power digits power ≡ true
plain_tests digits power p = and_from _ _ (le-leb _ _ p.0) (lt-ltb _ _ p.1)

raised_tests : (digits power : ℕ) → (power < 396) ⊎ (400 + digits ≤ power) → is_plain_power digits power ≡ false
raised_tests digits power (inl l) = rw (lt-leb 396 power l) refl
raised_tests digits power (inr l) = rw (le-ltb _ _ l) (and_right (nat_le 396 power) false refl)

pub general_is : (alt : Bool) (digits n power : ℕ) (t : List ℕ) → IsGeneralOf alt digits n power t → t ≡ general_of alt digits n power
general_is alt digits n power t (inl (plain, (kept, m, count, s, c, is))) =
    let d = digits + 399 - power in
    let k = kept_is 10 alt d n kept m (lit< tt) s in
    let told : t ≡ fixed_of alt kept m = is ∙ ap (fixed_text alt kept m) (count_is kept m count c) in
    rw (plain_tests digits power plain)
    (told ∙ ap (fixed_of alt kept) (cut_is 10 alt d n kept m (lit< tt) s) ∙ ap (λ j. fixed_of alt j (cut_to 10 d n j)) k)
general_is alt digits n power t (inr (beyond, (kept, m, s, is))) =
    let k = kept_is 10 alt (digits - 1) n kept m (lit< tt) s in
    rw (raised_tests digits power beyond)
    (is ∙ ap (λ j. text_with true (scientific alt kept j power)) (cut_is 10 alt (digits - 1) n kept m (lit< tt) s)
    ∙ ap (λ j. text_with true (scientific alt j (cut_to 10 (digits - 1) n j) power)) k)

-- ---- the style of a

units_are : (x : Float) (negative : Bool) (a : ℕ) → HasValue x negative a (2 ^ 1074) → units_of x ≡ a
units_are nan negative a v = absurd v
units_are (inf s) negative a v = absurd v
units_are (fin s m e) negative a v = ap (λ t. t / down e) v.1 ∙ mul-div_cancel a (down_pos e)

module _ (x : Float) (m power : ℕ) (b : IsBinary x m power) where
  units_is : units_of x ≡ m * 2 ^ power
  units_is = units_are x b.negative (m * 2 ^ power) b.value

  here : units_of x / 2 ^ power ≡ m
  here = ap (λ t. t / 2 ^ power) units_is ∙ mul-div_cancel m (pow_pos power)

  -- with a lower power more binary digits are left
  lower : (q : ℕ) → 0 ≤ q → q < power → nat_lt (units_of x / 2 ^ q) (2 ^ 53) ≡ false
  lower q from l = rw quotient (le-ltb _ _ (omega (arith, b.normal (omega arith), twice)))
    where
      regroup : (y z v : ℕ) → y * (z * v) ≡ y * z * v
      regroup y z v = omega arith

      k : ℕ
      k = power - q - 1

      twice : m * 2 ≤ m * (2 ^ k * 2)
      twice = mul-le-mul_left m (omega (arith, pow_pos k))

      quotient : units_of x / 2 ^ q ≡ m * (2 ^ k * 2)
      quotient =
          let a : power ≡ suc k + q = omega arith in
          let p : 2 ^ power ≡ 2 ^ k * 2 * 2 ^ q = ap (λ t. 2 ^ t) a ∙ pow-add 2 (suc k) q ∙ ap (λ t. t * 2 ^ q) (pow-suc 2 k) in
          ap (λ t. t / 2 ^ q) (units_is ∙ ap (λ t. m * t) p ∙ regroup m (2 ^ k * 2) (2 ^ q)) ∙ mul-div_cancel (m * (2 ^ k * 2)) (pow_pos q)

  two_power_is : power ≡ two_power_of x
  unfolding two_power_of
  two_power_is = sym (least_is (λ p. nat_lt (units_of x / 2 ^ p) (2 ^ 53)) 2046 0 power (omega arith) (omega (arith, b.few))
      (lt-ltb _ _ (subst (λ t. t < 2 ^ 53) (sym here) b.most)) lower)

  binary_is : m ≡ binary_number_of x
  binary_is = sym here ∙ ap (λ p. units_of x / 2 ^ p) two_power_is

hex_numeral_is : (alt : Bool) (precision : Option ℕ) (m : ℕ) (t : List ℕ) → IsHexNumeral alt precision m t
    → t ≡ hex_numeral_of alt precision m
hex_numeral_is alt None m t (kept, n, s, is) =
    is ∙ ap (hex_text alt kept) (cut_is 16 false 13 m kept n (lit< tt) s)
    ∙ ap (λ j. hex_text alt j (cut_to 16 13 m j)) (kept_is 16 false 13 m kept n (lit< tt) s)
hex_numeral_is alt (Some decimals) m t is = is

binary_exponent_is : (power : ℕ) (t : List ℕ) → IsBinaryExponent power t → t ≡ binary_exponent_of power
binary_exponent_is power t (count, c, is) =
    let size = (power - 1022) + (1022 - power) in
    is ∙ ap (λ k. 112 ∷ (cond (nat_lt power 1022) 45 43) ∷ fixed_digits k size) (count_is 0 size count c)

-- ---- the text

digits_is : (style : Style) (alt : Bool) (precision : Option ℕ) (x : Float) (t : List ℕ) → IsDigitsText style alt precision x t
    → t ≡ digits_text style alt precision x
digits_is Fixed alt precision x t (count, c, is) =
    let decimals = unwrap_or precision 6 in
    is ∙ ap (fixed_text alt decimals (scaled x decimals 0)) (count_is decimals (scaled x decimals 0) count c)
digits_is Exponent alt precision x t (n, power, s, is) =
    let d = unwrap_or precision 6 in
    is ∙ ap (λ k. text_with true (scientific alt d k power)) (number_is x d n power s)
    ∙ ap (λ k. text_with true (scientific alt d (number_of x (d + 1)) k)) (power_is x d n power s)
digits_is General alt precision x t (n, power, s, is) =
    let digits = max (unwrap_or precision 6) 1 in
    general_is alt digits n power t is
    ∙ ap (λ k. general_of alt digits k power) (number_is x (digits - 1) n power s)
    ∙ ap (general_of alt digits (number_of x (digits - 1 + 1))) (power_is x (digits - 1) n power s)
digits_is Hexadecimal alt precision x t (m, power, b, (numeral, exponent, h, e, is)) =
    let k = binary_is x m power b in
    let p = two_power_is x m power b in
    is ∙ (λ i. hex_numeral_is alt precision m numeral h i ++ binary_exponent_is (binary_power m power) exponent e i)
    ∙ ap (λ j. hex_numeral_of alt precision j ++ binary_exponent_of (binary_power j power)) k
    ∙ ap (λ j. hex_numeral_of alt precision (binary_number_of x) ++ binary_exponent_of (binary_power (binary_number_of x) j)) p

size_is : (style : Style) (alt : Bool) (precision : Option ℕ) (x : Float) (t : List ℕ) → IsSizeText style alt precision x t
    → t ≡ size_text style alt precision x
size_is style alt precision nan t is = is
size_is style alt precision (inf s) t is = is
size_is style alt precision (fin s m e) t is = digits_is style alt precision (fin s m e) t is

pub one_text : HasOneText
unfolding float_text
one_text c x t (size, (bare, is, cased), told) =
    told ∙ ap (field_text c x) (cased ∙ ap (in_case c.upper) (size_is c.style c.alt c.precision x bare is))
