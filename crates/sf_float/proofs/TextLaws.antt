-- What the digits of a text stand for, and what it is read as.
use Rattle.std.proofs.Common.{◌≡◌, ℕ, zero, suc, ◌+◌, ◌-◌, ◌*◌, ◌/◌, ◌%◌, ◌^◌, ◌<◌, ◌≤◌, Bool, true, false, ◌||◌, List, [], ◌∷◌, ◌++◌}
use Rattle.std.proofs.Common.{length, T, not, refl, sym, ap, ◌∙◌, subst, inl, inr, arith, eq-zero-or-pos, mod-lt, div-add-mod'}
use Rattle.std.proofs.Common.{length-append, pow-suc, append_assoc, append-nil, add-zero, true≢false, Some, lt_of_lt_of_le, nat_lt}
use Rattle.std.proofs.Common.{if◌then◌else◌, lt-ltb, le-ltb, leb}
use Rattle.std.proofs.lemmas.Int.Digits.{digits_value_push}
use Rattle.std.proofs.lemmas.Nat.{pow-add}
use Rattle.std.proofs.Math.Nat.{div-div-eq-div-mul, pow-le-pow_right, add-suc, div-one, mul_comm, le_trans}
use Rattle.std.specs.Str.Parse.{digits_value, AllDigits}
use Rattle.std.specs.Char.{digit_value}
use Rattle.std.specs.Float.Numeral.{numeral_digits, tens_up, tens_down, IsWellFormed, nearest_float}
use lib.Dec.{lit<}
use Rattle.std.specs.Float.{is_sign_negative, float_is_finite}
use Rattle.std.specs.Float.Ieee.{Float, nan, inf, fin, binary64, neg, round, of_bits, to_bits, fits, top}
use Rattle.std.specs.Float.Ieee.Exact.{HasValue}
use lib.Ieee.Bits.{of_bits-to_bits, to_bits-lt}
use lib.Ieee.Scale.{round_same}
use Rattle.std.specs.Fmt.{sign_text}
use Rattle.std.specs.Float.Parse.{parse_float}
use Rattle.ryu.specs.Plain.{text_with}
use Rattle.ryu.proofs.Plus.{parse_float-text_with}
use Rattle.ryu.proofs.Signs.{parts, finite_number}
use Rattle.sf_float.specs.Scaled.{scaled, is_nonzero, IsSignificant}
use Rattle.sf_float.proofs.Limbs.{power_pos}
use Rattle.fast_float.proofs.Extremes.{nearest_of_zero}
use Rattle.fast_float.proofs.Patterns.{neg-round}
use Rattle.std.proofs.Common.{pos}
use Rattle.std.proofs.Math.Nat.{zero-mul}
use Rattle.sf_float.proofs.ReadBack.{reads_back}
use Rattle.sf_float.proofs.Values.{at_pattern}
use Rattle.sf_float.specs.Texts.{fixed_digits, exponent_digits, exponent_size, scientific}

-- ---- digits

digit_is : (k : ℕ) → k < 10 → digit_value (48 + k) ≡ k
digit_is k h =
    let a : 48 ≤ 48 + k = omega arith in
    let b : 48 + k < 58 = omega arith in
    rw (le-ltb (48 + k) 48 a, lt-ltb (48 + k) 58 b) (omega arith)

AllDigits-push : (ds : List ℕ) (d : ℕ) → AllDigits 10 ds → digit_value d < 10 → AllDigits 10 (ds ++ d ∷ [])
AllDigits-push [] d h l = (l, tt)
AllDigits-push (c ∷ cs) d h l = (h.0, AllDigits-push cs d h.1 l)

pub fixed_all : (k n : ℕ) → AllDigits 10 (fixed_digits k n)
fixed_all zero n = tt
fixed_all (suc k) n = AllDigits-push (fixed_digits k (n / 10)) (48 + n % 10) (fixed_all k (n / 10))
    (rw (digit_is (n % 10) (mod-lt n (lit< tt))) (mod-lt n (lit< tt)))

pub fixed_length : (k n : ℕ) → length (fixed_digits k n) ≡ k
fixed_length zero n = refl
fixed_length (suc k) n = omega (arith, length-append (fixed_digits k (n / 10)) ((48 + n % 10) ∷ []), fixed_length k (n / 10))

tenth_fits : (k n : ℕ) → n < 10 ^ suc k → n / 10 < 10 ^ k
tenth_fits k n h = let e : 10 ^ suc k ≡ 10 ^ k * 10 = pow-suc 10 k in omega (arith, e)

pub fixed_value : (k n : ℕ) → n < 10 ^ k → digits_value 10 (fixed_digits k n) ≡ n
fixed_value zero n h = omega arith
fixed_value (suc k) n h =
    digits_value_push 10 (fixed_digits k (n / 10)) (48 + n % 10)
    ∙ (λ i. fixed_value k (n / 10) (tenth_fits k n h) i * 10 + digit_is (n % 10) (mod-lt n (lit< tt)) i)
    ∙ div-add-mod' n 10

-- digits cut in two are the digits
pub fixed_split : (k b n : ℕ) → fixed_digits k (n / 10 ^ b) ++ fixed_digits b n ≡ fixed_digits (k + b) n
fixed_split k zero n = append-nil (fixed_digits k (n / 1)) ∙ (λ i. fixed_digits (sym (add-zero k) i) (div-one n i))
fixed_split k (suc b) n =
    let d = (48 + n % 10) ∷ [] in
    let e : n / 10 ^ suc b ≡ n / 10 / 10 ^ b = ap (λ t. n / t) (pow-suc 10 b ∙ mul_comm (10 ^ b) 10)
    ∙ sym (div-div-eq-div-mul n 10 (10 ^ b)) in
    ap (λ t. fixed_digits k t ++ (fixed_digits b (n / 10) ++ d)) e
    ∙ sym (append_assoc (fixed_digits k (n / 10 / 10 ^ b)) (fixed_digits b (n / 10)) d)
    ∙ ap (λ t. t ++ d) (fixed_split k b (n / 10))
    ∙ ap (λ t. fixed_digits t n) (sym (add-suc k b))

-- ---- the parts of a text

pub exponent_all : (e : ℕ) → AllDigits 10 (exponent_digits e)
exponent_all e = go (nat_lt e 100)
  where
    go : (b : Bool) → AllDigits 10 (if b then fixed_digits 2 e else fixed_digits 3 e)
    go true = fixed_all 2 e
    go false = fixed_all 3 e

pub exponent_value : (e : ℕ) → e < 1000 → digits_value 10 (exponent_digits e) ≡ e
exponent_value e h =
    elim (eq-zero-or-pos (100 - e)) [
      | inl z ↦ let l : 100 ≤ e = omega arith in rw (le-ltb e 100 l) (fixed_value 3 e h)
      | inr p ↦ let l : e < 100 = omega arith in rw (lt-ltb e 100 l) (fixed_value 2 e l)
    ]

some_exponent : (b : Bool) (e : ℕ) → (if b then fixed_digits 2 e else fixed_digits 3 e) ≡ [] → ⊥
some_exponent true e h = absurd (omega (arith, ap length h))
some_exponent false e h = absurd (omega (arith, ap length h))

pub pointless : (alt : Bool) (decimals n : ℕ) → (nat_lt 0 decimals || alt) ≡ false → fixed_digits decimals n ≡ []
pointless alt zero n h = refl
pointless alt (suc b) n h = absurd (true≢false (sym (ap (λ t. t || alt) (lt-ltb 0 (suc b) (omega arith))) ∙ h))

pub well_formed : (alt : Bool) (decimals n power : ℕ) → IsWellFormed (scientific alt decimals n power)
well_formed alt decimals n power =
    record {
      whole_digits = fixed_all 1 (n / 10 ^ decimals);
      fraction_digits = fixed_all decimals n;
      exponent_digits = exponent_all (exponent_size power);
      no_point = pointless alt decimals n;
      no_exponent = λ h. absurd (some_exponent (nat_lt (exponent_size power) 100) (exponent_size power) h);
      len_is = refl;
    }

pub digits_are : (alt : Bool) (decimals n power : ℕ) → n < 10 ^ (decimals + 1) → numeral_digits (scientific alt decimals n power) ≡ n
digits_are alt decimals n power h =
    let e : 1 + decimals ≡ decimals + 1 = omega arith in
    ap (digits_value 10) (fixed_split 1 decimals n) ∙ fixed_value (1 + decimals) n (rw e h)

-- ---- its value

raised : (n a i j d : ℕ) → a + i ≡ j + d → n * 10 ^ a * 10 ^ i ≡ n * 10 ^ j * 10 ^ d
raised n a i j d e =
    let t : 10 ^ a * 10 ^ i ≡ 10 ^ j * 10 ^ d = sym (pow-add 10 a i) ∙ ap (λ k. 10 ^ k) e ∙ pow-add 10 j d in
    omega (arith, ap (λ k. n * k) t)

up_is : (alt : Bool) (decimals n power : ℕ) → power < 1000 → 400 ≤ power → tens_up (scientific alt decimals n power) ≡ power - 400
up_is alt decimals n power few l = rw (le-ltb power 400 l) (exponent_value (exponent_size power) (omega arith) ∙ omega arith)

no_up : (alt : Bool) (decimals n power : ℕ) → power < 400 → tens_up (scientific alt decimals n power) ≡ 0
no_up alt decimals n power l = rw (lt-ltb power 400 l) refl

down_is : (alt : Bool) (decimals n power : ℕ) → power < 400 → tens_down (scientific alt decimals n power) ≡ decimals + (400 - power)
down_is alt decimals n power l =
    let s : exponent_size power ≡ 400 - power = omega arith in
    rw (lt-ltb power 400 l) (λ i. fixed_length decimals n i + (exponent_value (exponent_size power) (omega arith) ∙ s) i)

no_down : (alt : Bool) (decimals n power : ℕ) → 400 ≤ power → tens_down (scientific alt decimals n power) ≡ decimals
no_down alt decimals n power l = rw (le-ltb power 400 l) (omega (arith, fixed_length decimals n))

-- the parts stand for n * 10 ^ j / 10 ^ i
pub worth : (alt : Bool) (decimals n power i j : ℕ) → n < 10 ^ (decimals + 1) → power < 1000 → i ≡ decimals + 1 + 399 - power
    → j ≡ power - (decimals + 1 + 399)
    → let p = scientific alt decimals n power in numeral_digits p * 10 ^ tens_up p * 10 ^ i ≡ n * 10 ^ j * 10 ^ tens_down p
worth alt decimals n power i j h few I J =
    let p = scientific alt decimals n power in
    let d = digits_are alt decimals n power h in
    elim (eq-zero-or-pos (400 - power)) [
      | inl z ↦
          let l : 400 ≤ power = omega arith in
          let u = up_is alt decimals n power few l in
          let w = no_down alt decimals n power l in
          (λ k. d k * 10 ^ u k * 10 ^ i) ∙ raised n (power - 400) i j decimals (omega arith) ∙ ap (λ k. n * 10 ^ j * 10 ^ k) (sym w)
      | inr q ↦
          let l : power < 400 = omega arith in
          let u = no_up alt decimals n power l in
          let w = down_is alt decimals n power l in
          (λ k. d k * 10 ^ u k * 10 ^ i) ∙ raised n 0 i j (decimals + (400 - power)) (omega arith) ∙ ap (λ k. n * 10 ^ j * 10 ^ k) (sym w)
    ]

-- ---- what it is read as

pub finite_of : (x : Float) → is_nonzero x → float_is_finite x ≡ true
unfolding float_is_finite
finite_of nan h = absurd h
finite_of (inf s) h = absurd h
finite_of (fin s m e) h = refl

sign_of_value : (y : Float) (a c : ℕ) → HasValue y false a c → (is_sign_negative y ≡ false) × (is_sign_negative (neg y) ≡ true)
unfolding is_sign_negative neg
sign_of_value nan a c h = absurd h
sign_of_value (inf s) a c h = absurd h
sign_of_value (fin s m e) a c h = (h.0, ap not h.0)

pub sign_is : (x y : Float) (negative : Bool) (a c : ℕ) → (if negative then neg y else y) ≡ x → HasValue y false a c
    → negative ≡ is_sign_negative x
sign_is x y true a c e v = sym (sym (ap is_sign_negative e) ∙ (sign_of_value y a c v).1)
sign_is x y false a c e v = sym (sym (ap is_sign_negative e) ∙ (sign_of_value y a c v).0)

pub enough : 2 ^ 53 < 10 ^ 16
enough = lit< tt

pub scientific_back : (x : Float) (alt : Bool) (decimals n power : ℕ) → T (fits binary64 x) → is_nonzero x → 16 ≤ decimals → power < 1000
    → IsSignificant x (decimals + 1) n power
    → parse_float binary64 (sign_text (is_sign_negative x) ++ text_with true (scientific alt decimals n power)) ≡ Some x
scientific_back x alt decimals n power f some many few s =
    let raw = to_bits binary64 x in
    let finite = finite_of x some in
    let split = parts binary64 x raw (of_bits-to_bits binary64 x f) (to_bits-lt binary64 x f) (finite_number x finite) in
    let negative = leb (top binary64) raw in
    let bits = raw % top binary64 in
    let bound = split.finite.0 finite in
    let p = scientific alt decimals n power in
    let i = decimals + 1 + 399 - power in
    let j = power - (decimals + 1 + 399) in
    let long : 10 ^ decimals ≤ n = subst (λ k. 10 ^ k ≤ n) (less_one decimals) s.full in
    let digits : 2 ^ 53 < scaled x i j = subst (λ k. 2 ^ 53 < k) s.is
    (lt_of_lt_of_le enough (le_trans (pow-le-pow_right (lit< tt) many) long)) in
    let read = parse_float-text_with binary64 negative p (well_formed alt decimals n power) (lit< tt) in
    let same : nearest_float binary64 negative p ≡ x =
    round_same binary64 negative _ _ (n * 10 ^ j) (10 ^ i) (power_pos 10 (tens_down p) (lit< tt)) (power_pos 10 i (lit< tt))
    (worth alt decimals n power i j s.fits few refl refl)
    ∙ ap (λ k. round binary64 negative (k * 10 ^ j) (10 ^ i)) s.is
    ∙ reads_back binary64 x negative bits i j split bound digits in
    let sign : negative ≡ is_sign_negative x = sign_is x (of_bits binary64 bits) negative _ _ split.same (at_pattern bits bound) in
    ap (λ b. parse_float binary64 (sign_text b ++ text_with true p)) (sym sign) ∙ read ∙ ap Some same
  where
    less_one : (b : ℕ) → b + 1 - 1 ≡ b
    less_one b = omega arith

-- one digit more
pub grown : (v f k : ℕ) → 0 < k → k ≤ f → fixed_digits (f - k) (v / 10 ^ k) ++ (48 + v / 10 ^ (k - 1) % 10) ∷ []
    ≡ fixed_digits (f - (k - 1)) (v / 10 ^ (k - 1))
grown v f k p l =
    let e : f - (k - 1) ≡ suc (f - k) = omega arith in
    let s : k ≡ suc (k - 1) = omega arith in
    let d : v / 10 ^ k ≡ v / 10 ^ (k - 1) / 10 = ap (λ t. v / t) (ap (λ t. 10 ^ t) s ∙ pow-suc 10 (k - 1))
    ∙ sym (div-div-eq-div-mul v (10 ^ (k - 1)) 10) in
    ap (λ t. fixed_digits (f - k) t ++ (48 + v / 10 ^ (k - 1) % 10) ∷ []) d ∙ ap (λ t. fixed_digits t (v / 10 ^ (k - 1))) (sym e)

-- ---- zero

of_no_bits : of_bits binary64 0 ≡ fin false 0 (pos 0)
unfolding of_bits
of_no_bits = refl

pub zero_round : (s : Bool) (den : ℕ) → 0 < den → round binary64 s 0 den ≡ fin s 0 (pos 0)
unfolding neg
zero_round false den D = sym (nearest_of_zero binary64 0 den D refl).0 ∙ of_no_bits
zero_round true den D = sym (neg-round binary64 0 den) ∙ ap neg (sym (nearest_of_zero binary64 0 den D refl).0 ∙ of_no_bits)

pub zero_back : (negative alt : Bool) (decimals : ℕ) → parse_float binary64
    (sign_text negative ++ text_with true (scientific alt decimals 0 400)) ≡ Some (fin negative 0 (pos 0))
zero_back negative alt decimals =
    let p = scientific alt decimals 0 400 in
    let none : numeral_digits p * 10 ^ tens_up p ≡ 0 = ap (λ t. t * 10 ^ tens_up p)
    (digits_are alt decimals 0 400 (power_pos 10 (decimals + 1) (lit< tt))) ∙ zero-mul (10 ^ tens_up p) in
    parse_float-text_with binary64 negative p (well_formed alt decimals 0 400) (lit< tt)
    ∙ ap Some (ap (λ t. round binary64 negative t (10 ^ tens_down p)) none
    ∙ zero_round negative (10 ^ tens_down p) (power_pos 10 (tens_down p) (lit< tt)))
