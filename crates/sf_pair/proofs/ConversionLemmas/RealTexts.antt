-- What a scan sees of a float's text: a sign, the mark of `a`, zeros and digits; and how far that is read.
use Rattle.std.proofs.Common.{◌≡◌, ℕ, zero, suc, ◌+◌, ◌-◌, ◌/◌, ◌%◌, ◌^◌, ◌<◌, ◌≤◌, ◌⊎◌, inl, inr, Bool, true, false, cond, eqb, ◌&&◌, ◌||◌}
use Rattle.std.proofs.Common.{nat_lt, List, [], ◌∷◌, ◌++◌, length, map, max, Option, Some, unwrap_or, refl, sym, ap, subst, ◌∙◌, arith}
use Rattle.std.proofs.Common.{append_assoc, append-nil, length-append}
use Rattle.std.proofs.Math.Nat.{mod-lt}
use Rattle.std.proofs.lemmas.List.{map-append, length-map, replicate-append-replicate}
use Rattle.std.proofs.lemmas.Bool.{eqb-true}
use Rattle.std.specs.List.{list_all}
use Rattle.std.specs.Prelude.{not}
use Rattle.std.specs.Char.{to_ascii_uppercase}
use Rattle.std.specs.Float.{is_sign_negative, float_is_finite}
use Rattle.std.specs.Float.Ieee.{Float, nan, inf, fin}
use Rattle.ryu.specs.Plain.{exponent_with}
use Rattle.sf_float.specs.declared.text.Style.{Style}
use Rattle.sf_float.specs.declared.text.Style.TheVariants.{Fixed, Exponent, General, Hexadecimal}
use Rattle.sf_float.specs.declared.text.FloatConv.{FloatConv}
use Rattle.sf_float.specs.Scaled.{scaled}
use Rattle.sf_float.specs.Texts.{fixed_digits, exponent_digits, exponent_size, point_text}
use Rattle.sf_float.specs.Printed.{in_case, sign, mark, is_hexadecimal, bare_len, left_blanks, inner_zeros, right_blanks, field_text}
use Rattle.sf_float.specs.Hexadecimal.{binary_power}
use Rattle.sf_float.specs.Computed.{first_passing, count_of, kept_of, cut_to, power_of, number_of, is_plain_power, fixed_of, exponent_of}
use Rattle.sf_float.specs.Computed.{general_of, two_power_of, binary_number_of, hex_numeral_of, digits_text, size_text, float_text}
use Rattle.sf_float_read.specs.declared.item.reached.Reached.TheVariants as at
use Rattle.sf_float_read.specs.item.Tests.{read}
use Rattle.sf_base.specs.Bytes.{is_white}
use Rattle.sf_print.specs.texts.Text.{blanks, zeros}
use Rattle.sf_print.specs.texts.Visible.{without_blanks}
use Rattle.sf_pair.proofs.ConversionLemmas.Bodies.{StartsInk, without_some}
use Rattle.sf_pair.proofs.ConversionLemmas.Places.{is_one_of, one_of, digits, signs, decimals as decimal_bytes, All, digit_one}
use Rattle.sf_pair.proofs.ConversionLemmas.Places.{digits_decimal, passes}
use Rattle.sf_pair.proofs.ConversionLemmas.Places.{decimal_place, decimal_read, pointed_place, pointed_read, exponent_place, signed_read}

-- ---- bytes of a list

pub all_append : (ks xs ys : List ℕ) → All ks xs → All ks ys → All ks (xs ++ ys)
all_append ks [] ys h k = k
all_append ks (x ∷ xs) ys h k = (h.0, all_append ks xs ys h.1 k)

pub zeros_all : (n : ℕ) → All digits (zeros n)
zeros_all zero = tt
zeros_all (suc n) = (refl, zeros_all n)

abbrev pub StartsDigit : List ℕ → Type 0
StartsDigit [] = ⊥
StartsDigit (b ∷ bs) = is_one_of digits b ≡ true

pub starts_all : (xs : List ℕ) → 0 < length xs → All digits xs → StartsDigit xs
starts_all [] some all = absurd (omega arith)
starts_all (b ∷ bs) some all = all.0

pub starts_more : (xs ys : List ℕ) → StartsDigit xs → StartsDigit (xs ++ ys)
starts_more [] ys h = absurd h
starts_more (b ∷ bs) ys h = h

-- ---- capital letters

pub case_append : (upper : Bool) (xs ys : List ℕ) → in_case upper (xs ++ ys) ≡ in_case upper xs ++ in_case upper ys
case_append true xs ys = map-append to_ascii_uppercase xs ys
case_append false xs ys = refl

pub case_length : (upper : Bool) (xs : List ℕ) → length (in_case upper xs) ≡ length xs
case_length true xs = length-map xs to_ascii_uppercase
case_length false xs = refl

pub case_all : (upper : Bool) (ks xs : List ℕ) → list_all (λ b. is_one_of ks (to_ascii_uppercase b)) ks ≡ true → All ks xs
    → All ks (in_case upper xs)
case_all false ks xs kept all = all
case_all true ks [] kept all = tt
case_all true ks (b ∷ bs) kept all =
    (one_of (λ b. is_one_of ks (to_ascii_uppercase b)) ks b kept all.0, case_all true ks bs kept all.1)

case_starts : (upper : Bool) (xs : List ℕ) → StartsDigit xs → StartsDigit (in_case upper xs)
case_starts upper [] h = absurd h
case_starts false (b ∷ bs) h = h
case_starts true (b ∷ bs) h = one_of (λ b. is_one_of digits (to_ascii_uppercase b)) digits b refl h

-- a sign keeps its case
case_sign : (upper : Bool) (s : ℕ) (xs : List ℕ) → is_one_of signs s ≡ true → in_case upper (s ∷ xs) ≡ s ∷ in_case upper xs
case_sign false s xs is = refl
case_sign true s xs is = ap (λ (b : ℕ). b ∷ map to_ascii_uppercase xs)
    (eqb-true (to_ascii_uppercase s) s (one_of (λ b. eqb (to_ascii_uppercase b) b) signs s refl is))

-- ---- digits

pub fixed_all : (k n : ℕ) → All digits (fixed_digits k n)
fixed_all zero n = tt
fixed_all (suc k) n = all_append digits (fixed_digits k (n / 10)) ((48 + n % 10) ∷ []) (fixed_all k (n / 10))
    (digit_one (n % 10) (mod-lt n (omega arith)), tt)

pub fixed_length : (k n : ℕ) → length (fixed_digits k n) ≡ k
fixed_length zero n = refl
fixed_length (suc k) n = omega (arith, length-append (fixed_digits k (n / 10)) ((48 + n % 10) ∷ []), fixed_length k (n / 10))

pub first_low : (test : ℕ → Bool) (k i : ℕ) (b : Bool) → i ≤ first_passing test k b i
first_low test zero i b = omega arith
first_low test (suc k) i true = omega arith
first_low test (suc k) i false = omega (arith, first_low test k (suc i) (test (suc i)))

pub count_some : (decimals n : ℕ) → 0 < count_of decimals n
unfolding count_of
count_some decimals n = first_low (λ c. nat_lt n (10 ^ (c + decimals))) n 1 (nat_lt n (10 ^ (1 + decimals)))

pub exponent_long : (e : ℕ) → 2 ≤ length (exponent_digits e)
exponent_long e = by (nat_lt e 100)
  where
    by : (t : Bool) → 2 ≤ length (cond t (fixed_digits 2 e) (fixed_digits 3 e))
    by true = omega (arith, fixed_length 2 e)
    by false = omega (arith, fixed_length 3 e)

pub exponent_all : (e : ℕ) → All digits (exponent_digits e)
exponent_all e = by (nat_lt e 100)
  where
    by : (t : Bool) → All digits (cond t (fixed_digits 2 e) (fixed_digits 3 e))
    by true = fixed_all 2 e
    by false = fixed_all 3 e

-- the parts of a text that ends with a sign and digits
pub record Signed (t : List ℕ) : Type 0 where
  pub before : List ℕ
  pub sign : ℕ
  pub after : List ℕ
  pub is : t ≡ before ++ sign ∷ after
  pub signed : is_one_of signs sign ≡ true
  pub some : 0 < length after
  pub all : All digits after
  pub begun : 0 < length before

pub exponent_is : (negative : Bool) (e : List ℕ) → 0 < length e → exponent_with true negative e ≡ 101 ∷ cond negative 45 43 ∷ e
exponent_is negative [] some = absurd (omega arith)
exponent_is true (d ∷ ds) some = refl
exponent_is false (d ∷ ds) some = refl

sign_one : (t : Bool) → is_one_of signs (cond t 45 43) ≡ true
sign_one true = refl
sign_one false = refl

-- ---- the style of f

pub pointed : (alt : Bool) (decimals n : ℕ) → (nat_lt 0 decimals || alt) ≡ true → point_text alt decimals n ≡ 46 ∷ fixed_digits decimals n
pointed alt decimals n e = ap (λ (t : Bool). cond t (46 ∷ fixed_digits decimals n) []) e

point_all : (alt : Bool) (decimals n : ℕ) → All decimal_bytes (point_text alt decimals n)
point_all alt decimals n = by (nat_lt 0 decimals || alt)
  where
    by : (t : Bool) → All decimal_bytes (cond t (46 ∷ fixed_digits decimals n) [])
    by true = (refl, digits_decimal (fixed_digits decimals n) (fixed_all decimals n))
    by false = tt

pub fixed_decimal : (alt : Bool) (d n : ℕ) → All decimal_bytes (fixed_of alt d n)
fixed_decimal alt d n = all_append decimal_bytes (fixed_digits (count_of d n) (n / 10 ^ d)) (point_text alt d n)
    (digits_decimal _ (fixed_all (count_of d n) (n / 10 ^ d))) (point_all alt d n)

fixed_starts : (alt : Bool) (d n : ℕ) → StartsDigit (fixed_of alt d n)
fixed_starts alt d n = starts_more (fixed_digits (count_of d n) (n / 10 ^ d)) (point_text alt d n)
    (starts_all _ (omega (arith, count_some d n, fixed_length (count_of d n) (n / 10 ^ d))) (fixed_all (count_of d n) (n / 10 ^ d)))

-- ---- the style of e

abbrev pub raised_text : Bool → ℕ → ℕ → ℕ → List ℕ
raised_text alt d n power = fixed_digits 1 (n / 10 ^ d) ++ (cond (nat_lt 0 d || alt) (46 ∷ fixed_digits d n) [] ++ 101 ∷ [])

pub exponent_text_is : (alt : Bool) (d n power : ℕ) → exponent_of alt d n power
    ≡ raised_text alt d n power ++ cond (nat_lt power 400) 45 43 ∷ exponent_digits (exponent_size power)
exponent_text_is alt d n power =
    let e = exponent_digits (exponent_size power) in
    let point : List ℕ = cond (nat_lt 0 d || alt) (46 ∷ fixed_digits d n) [] in
    let first : List ℕ = fixed_digits 1 (n / 10 ^ d) in
    let s : ℕ = cond (nat_lt power 400) 45 43 in
    ap (λ (t : List ℕ). first ++ (point ++ t)) (exponent_is (nat_lt power 400) e (omega (arith, exponent_long (exponent_size power))))
    ∙ ap (λ (t : List ℕ). first ++ t) (sym (append_assoc point (101 ∷ []) (s ∷ e)))
    ∙ sym (append_assoc first (point ++ 101 ∷ []) (s ∷ e))

raised_decimal : (alt : Bool) (d n power : ℕ) → All decimal_bytes (raised_text alt d n power)
raised_decimal alt d n power = all_append decimal_bytes (fixed_digits 1 (n / 10 ^ d)) (point_text alt d n ++ 101 ∷ [])
    (digits_decimal (fixed_digits 1 (n / 10 ^ d)) (fixed_all 1 (n / 10 ^ d)))
    (all_append decimal_bytes (point_text alt d n) (101 ∷ []) (point_all alt d n) (refl, tt))

pub exponent_signed : (alt : Bool) (d n power : ℕ) → Signed (exponent_of alt d n power)
exponent_signed alt d n power = record {
  before = raised_text alt d n power;
  sign = cond (nat_lt power 400) 45 43;
  after = exponent_digits (exponent_size power);
  is = exponent_text_is alt d n power;
  signed = sign_one (nat_lt power 400);
  some = omega (arith, exponent_long (exponent_size power));
  all = exponent_all (exponent_size power);
  begun = omega (
    arith,
    length-append (fixed_digits 1 (n / 10 ^ d)) (cond (nat_lt 0 d || alt) (46 ∷ fixed_digits d n) [] ++ 101 ∷ []),
    fixed_length 1 (n / 10 ^ d),
  );
}

exponent_decimal : (alt : Bool) (d n power : ℕ) → All decimal_bytes (exponent_of alt d n power)
exponent_decimal alt d n power =
    subst (All decimal_bytes) (sym (exponent_text_is alt d n power))
    (all_append decimal_bytes (raised_text alt d n power) _ (raised_decimal alt d n power)
    (sign_decimal (nat_lt power 400), digits_decimal _ (exponent_all (exponent_size power))))
  where
    sign_decimal : (t : Bool) → is_one_of decimal_bytes (cond t 45 43) ≡ true
    sign_decimal true = refl
    sign_decimal false = refl

exponent_starts : (alt : Bool) (d n power : ℕ) → StartsDigit (exponent_of alt d n power)
exponent_starts alt d n power = digit_one (n / 10 ^ d % 10) (mod-lt (n / 10 ^ d) (omega arith))

-- ---- the style of g

general_decimal : (alt : Bool) (k n power : ℕ) → All decimal_bytes (general_of alt k n power)
general_decimal alt k n power = by (is_plain_power k power)
  where
    plain : ℕ
    plain = kept_of 10 alt (k + 399 - power) n

    raised : ℕ
    raised = kept_of 10 alt (k - 1) n

    by : (t : Bool) → All decimal_bytes (cond t (fixed_of alt plain (cut_to 10 (k + 399 - power) n plain))
        (exponent_of alt raised (cut_to 10 (k - 1) n raised) power))
    by true = fixed_decimal alt plain (cut_to 10 (k + 399 - power) n plain)
    by false = exponent_decimal alt raised (cut_to 10 (k - 1) n raised) power

general_starts : (alt : Bool) (k n power : ℕ) → StartsDigit (general_of alt k n power)
general_starts alt k n power = by (is_plain_power k power)
  where
    plain : ℕ
    plain = kept_of 10 alt (k + 399 - power) n

    raised : ℕ
    raised = kept_of 10 alt (k - 1) n

    by : (t : Bool) → StartsDigit (cond t (fixed_of alt plain (cut_to 10 (k + 399 - power) n plain))
        (exponent_of alt raised (cut_to 10 (k - 1) n raised) power))
    by true = fixed_starts alt plain (cut_to 10 (k + 399 - power) n plain)
    by false = exponent_starts alt raised (cut_to 10 (k - 1) n raised) power

-- ---- the style of a

pub hexadecimal_signed : (alt : Bool) (precision : Option ℕ) (x : Float) → Signed (digits_text Hexadecimal alt precision x)
hexadecimal_signed alt precision x =
    let m = binary_number_of x in
    let power = binary_power m (two_power_of x) in
    let size = (power - 1022) + (1022 - power) in
    let numeral = hex_numeral_of alt precision m in
    let after = fixed_digits (count_of 0 size) size in
    record {
      before = numeral ++ 112 ∷ [];
      sign = cond (nat_lt power 1022) 45 43;
      after = after;
      is = sym (append_assoc numeral (112 ∷ []) (cond (nat_lt power 1022) 45 43 ∷ after));
      signed = sign_one (nat_lt power 1022);
      some = omega (arith, count_some 0 size, fixed_length (count_of 0 size) size);
      all = fixed_all (count_of 0 size) size;
      begun = omega (arith, length-append numeral (112 ∷ []));
    }

-- ---- the size of a finite float

finite_size : (c : FloatConv) (x : Float) → float_is_finite x ≡ true
    → size_text c.style c.alt c.precision x ≡ digits_text c.style c.alt c.precision x
unfolding float_is_finite
finite_size c nan e = absurd cc
finite_size c (inf s) e = absurd cc
finite_size c (fin s m n) e = refl

abbrev pub size_of : FloatConv → Float → List ℕ
size_of c x = in_case c.upper (digits_text c.style c.alt c.precision x)

-- the sign that is seen, and a blank in its place
abbrev pub bare_sign : FloatConv → Float → List ℕ
bare_sign c x = cond (is_sign_negative x) (45 ∷ []) (cond c.plus (43 ∷ []) [])

abbrev pub hidden : FloatConv → Float → ℕ
hidden c x = cond (is_sign_negative x) 0 (cond c.plus 0 (cond c.blank 1 0))

pub sign_is : (c : FloatConv) (x : Float) → sign c x ≡ blanks (hidden c x) ++ bare_sign c x
sign_is c x = by (is_sign_negative x) c.plus c.blank
  where
    none : List ℕ
    none = []

    by : (n p b : Bool) → cond n (45 ∷ []) (cond p (43 ∷ []) (cond b (32 ∷ []) none))
        ≡ blanks (cond n 0 (cond p 0 (cond b 1 0))) ++ cond n (45 ∷ []) (cond p (43 ∷ []) none)
    by true p b = refl
    by false true b = refl
    by false false true = refl
    by false false false = refl

abbrev pub mark_bytes : FloatConv → List ℕ
mark_bytes c = 48 ∷ cond c.upper 88 120 ∷ []

-- the mark, the zeros and the size
abbrev pub after_sign : FloatConv → Float → List ℕ
after_sign c x = mark c x ++ (zeros (inner_zeros c x (size_of c x)) ++ size_of c x)

abbrev pub body : FloatConv → Float → List ℕ
body c x = bare_sign c x ++ after_sign c x

abbrev pub before : FloatConv → Float → ℕ
before c x = left_blanks c x (size_of c x) + hidden c x

module _ (c : FloatConv) (x : Float) (finite : float_is_finite x ≡ true) where
  -- the blanks that a minus puts after the size
  abbrev pub after : List ℕ
  after = blanks (right_blanks c x (size_of c x))

  pub text_is_all : float_text c x ≡ blanks (before c x) ++ (body c x ++ after)
  unfolding float_text
  text_is_all =
      let size : List ℕ = size_of c x in
      let left : ℕ = left_blanks c x size in
      let inner : List ℕ = zeros (inner_zeros c x size) in
      ap (λ (t : List ℕ). field_text c x (in_case c.upper t)) (finite_size c x finite)
      ∙ regroup (blanks left) (sign c x) (mark c x) inner size after
      ∙ ap (λ (t : List ℕ). blanks left ++ (t ++ (after_sign c x ++ after))) (sign_is c x)
      ∙ ap (λ (t : List ℕ). blanks left ++ t) (append_assoc (blanks (hidden c x)) (bare_sign c x) (after_sign c x ++ after)
      ∙ ap (λ (t : List ℕ). blanks (hidden c x) ++ t) (sym (append_assoc (bare_sign c x) (after_sign c x) after)))
      ∙ sym (append_assoc (blanks left) (blanks (hidden c x)) (body c x ++ after))
      ∙ ap (λ (t : List ℕ). t ++ (body c x ++ after)) (replicate-append-replicate left (hidden c x) 32)
    where
      regroup : (a b m z s r : List ℕ) → a ++ b ++ m ++ z ++ s ++ r ≡ a ++ (b ++ ((m ++ (z ++ s)) ++ r))
      regroup a b m z s r =
          append_assoc (a ++ b ++ m ++ z) s r ∙ append_assoc (a ++ b ++ m) z (s ++ r) ∙ append_assoc (a ++ b) m (z ++ (s ++ r))
          ∙ append_assoc a b (m ++ (z ++ (s ++ r)))
          ∙ ap (λ (t : List ℕ). a ++ (b ++ (m ++ t))) (sym (append_assoc z s r))
          ∙ ap (λ (t : List ℕ). a ++ (b ++ t)) (sym (append_assoc m (z ++ s) r))

  pub text_is : c.minus ≡ false → float_text c x ≡ blanks (before c x) ++ body c x
  text_is right =
      text_is_all
      ∙ ap (λ (t : Bool). blanks (before c x) ++ (body c x ++ blanks (cond t (c.width - bare_len c x (size_of c x)) 0))) right
      ∙ ap (λ (t : List ℕ). blanks (before c x) ++ t) (append-nil (body c x))

  size_starts : is_hexadecimal c.style ≡ false → StartsDigit (size_of c x)
  size_starts other = case_starts c.upper (digits_text c.style c.alt c.precision x) (by c.style other)
    where
      by : (s : Style) → is_hexadecimal s ≡ false → StartsDigit (digits_text s c.alt c.precision x)
      by Fixed h = let d = unwrap_or c.precision 6 in fixed_starts c.alt d (scaled x d 0)
      by Exponent h = let d = unwrap_or c.precision 6 in exponent_starts c.alt d (number_of x (d + 1)) (power_of x (d + 1))
      by General h = let k = max (unwrap_or c.precision 6) 1 in
          general_starts c.alt k (number_of x (k - 1 + 1)) (power_of x (k - 1 + 1))
      by Hexadecimal h = absurd cc

  zeros_start : (n : ℕ) (xs : List ℕ) → StartsDigit xs → StartsDigit (zeros n ++ xs)
  zeros_start zero xs h = h
  zeros_start (suc n) xs h = refl

  pub mark_is : mark c x ≡ cond (is_hexadecimal c.style) (mark_bytes c) []
  mark_is = by (is_hexadecimal c.style)
    where
      by : (t : Bool) → cond (t && float_is_finite x) (mark_bytes c) [] ≡ cond t (mark_bytes c) []
      by true = ap (λ (t : Bool). cond t (mark_bytes c) []) finite
      by false = refl

  -- a digit follows the sign
  pub digit_follows : StartsDigit (after_sign c x)
  digit_follows =
      let rest : List ℕ = zeros (inner_zeros c x (size_of c x)) ++ size_of c x in
      subst (λ (m : List ℕ). StartsDigit (m ++ rest)) (sym mark_is) (by rest (is_hexadecimal c.style) (λ other.
      zeros_start (inner_zeros c x (size_of c x)) (size_of c x) (size_starts other)) refl)
    where
      by : (rest : List ℕ) (t : Bool) → (is_hexadecimal c.style ≡ false → StartsDigit rest) → is_hexadecimal c.style ≡ t
          → StartsDigit (cond t (mark_bytes c) [] ++ rest)
      by rest true h e = refl
      by rest false h e = h e

  pub body_ink : StartsInk (body c x)
  body_ink = sign_ink (is_sign_negative x) c.plus (digit_ink (after_sign c x) digit_follows)
    where
      digit_ink : (xs : List ℕ) → StartsDigit xs → StartsInk xs
      digit_ink [] h = absurd h
      digit_ink (b ∷ bs) h = not_so (is_white b) (one_of (λ b. not (is_white b)) digits b refl h)
        where
          not_so : (t : Bool) → not t ≡ true → t ≡ false
          not_so true e = absurd cc
          not_so false e = refl

      sign_ink : (n p : Bool) → StartsInk (after_sign c x) → StartsInk (cond n (45 ∷ []) (cond p (43 ∷ []) []) ++ after_sign c x)
      sign_ink true p h = refl
      sign_ink false true h = refl
      sign_ink false false h = h

  pub seen_is : c.minus ≡ false → without_blanks (float_text c x) ≡ body c x
  seen_is right = ap without_blanks (text_is right) ∙ without_some (before c x) (body c x) body_ink

  pub seen_is_all : without_blanks (float_text c x) ≡ body c x ++ after
  seen_is_all = ap without_blanks text_is_all ∙ without_some (before c x) (body c x ++ after) (ink_more (body c x) after body_ink)
    where
      ink_more : (xs ys : List ℕ) → StartsInk xs → StartsInk (xs ++ ys)
      ink_more [] ys h = absurd h
      ink_more (b ∷ bs) ys h = h

  -- ---- how far it is read

  -- what stands before the size
  head : List ℕ
  head = bare_sign c x ++ (mark c x ++ zeros (inner_zeros c x (size_of c x)))

  body_is : body c x ≡ head ++ size_of c x
  unfolding head
  body_is = sym (append_assoc (bare_sign c x) (mark c x ++ zeros (inner_zeros c x (size_of c x))) (size_of c x)
      ∙ ap (λ (t : List ℕ). bare_sign c x ++ t) (append_assoc (mark c x) (zeros (inner_zeros c x (size_of c x))) (size_of c x)))

  head_decimal : is_hexadecimal c.style ≡ false → All decimal_bytes head
  unfolding head
  head_decimal other = all_append decimal_bytes (bare_sign c x) (mark c x ++ zeros (inner_zeros c x (size_of c x)))
      (sign_decimal (is_sign_negative x) c.plus) (subst (λ (m : List ℕ). All decimal_bytes (m ++ zeros (inner_zeros c x (size_of c x))))
      (sym (mark_is ∙ ap (λ (t : Bool). cond t (mark_bytes c) []) other))
      (digits_decimal (zeros (inner_zeros c x (size_of c x))) (zeros_all (inner_zeros c x (size_of c x)))))
    where
      sign_decimal : (n p : Bool) → All decimal_bytes (cond n (45 ∷ []) (cond p (43 ∷ []) []))
      sign_decimal true p = (refl, tt)
      sign_decimal false true = (refl, tt)
      sign_decimal false false = tt

  signed_end : Signed (digits_text c.style c.alt c.precision x) → passes exponent_place (read (Some at.Start) (body c x)) ≡ true
  signed_end s =
      let early : List ℕ = head ++ in_case c.upper s.before in
      let late : List ℕ = in_case c.upper s.after in
      let whole : body c x ≡ early ++ s.sign ∷ late =
      body_is ∙ ap (λ (t : List ℕ). head ++ t) (ap (in_case c.upper) s.is ∙ case_append c.upper s.before (s.sign ∷ s.after)
      ∙ ap (λ (t : List ℕ). in_case c.upper s.before ++ t) (case_sign c.upper s.sign s.after s.signed))
      ∙ sym (append_assoc head (in_case c.upper s.before) (s.sign ∷ late)) in
      ap (λ (t : List ℕ). passes exponent_place (read (Some at.Start) t)) whole
      ∙ signed_read early s.sign late (omega (arith, length-append head (in_case c.upper s.before), case_length c.upper s.before, s.begun))
      s.signed (omega (arith, case_length c.upper s.after, s.some)) (case_all c.upper digits s.after refl s.all)

  digits_decimal_in : (s : Style) → is_hexadecimal s ≡ false → All decimal_bytes (digits_text s c.alt c.precision x)
  digits_decimal_in Fixed other = let d = unwrap_or c.precision 6 in fixed_decimal c.alt d (scaled x d 0)
  digits_decimal_in Exponent other =
      let d = unwrap_or c.precision 6 in exponent_decimal c.alt d (number_of x (d + 1)) (power_of x (d + 1))
  digits_decimal_in General other =
      let k = max (unwrap_or c.precision 6) 1 in general_decimal c.alt k (number_of x (k - 1 + 1)) (power_of x (k - 1 + 1))
  digits_decimal_in Hexadecimal other = absurd cc

  -- but for `a` no byte of it is of another number
  pub body_decimal : is_hexadecimal c.style ≡ false → All decimal_bytes (body c x)
  body_decimal other = subst (All decimal_bytes) (sym body_is) (all_append decimal_bytes head (size_of c x) (head_decimal other)
      (case_all c.upper decimal_bytes (digits_text c.style c.alt c.precision x) refl (digits_decimal_in c.style other)))

  pub decimal_ends : is_hexadecimal c.style ≡ false → passes decimal_place (read (Some at.Start) (body c x)) ≡ true
  decimal_ends other = decimal_read (body c x) (body_decimal other)

  pub exponent_ends : (c.style ≡ Exponent) ⊎ (c.style ≡ Hexadecimal) → passes exponent_place (read (Some at.Start) (body c x)) ≡ true
  exponent_ends (inl e) = let d = unwrap_or c.precision 6 in
      signed_end (subst (λ (s : Style). Signed (digits_text s c.alt c.precision x)) (sym e)
      (exponent_signed c.alt d (number_of x (d + 1)) (power_of x (d + 1))))
  exponent_ends (inr e) = signed_end (subst (λ (s : Style). Signed (digits_text s c.alt c.precision x)) (sym e)
      (hexadecimal_signed c.alt c.precision x))

  pub pointed_ends : c.style ≡ Fixed → (nat_lt 0 (unwrap_or c.precision 6) || c.alt) ≡ true
      → passes pointed_place (read (Some at.Start) (body c x)) ≡ true
  pointed_ends e point =
      let d = unwrap_or c.precision 6 in
      let n = scaled x d 0 in
      let whole : List ℕ = fixed_digits (count_of d n) (n / 10 ^ d) in
      let late : List ℕ = fixed_digits d n in
      let raw : digits_text c.style c.alt c.precision x ≡ whole ++ 46 ∷ late =
      ap (λ (s : Style). digits_text s c.alt c.precision x) e ∙ ap (λ (t : List ℕ). whole ++ t) (pointed c.alt d n point) in
      let early : List ℕ = head ++ in_case c.upper whole in
      let is : body c x ≡ early ++ 46 ∷ in_case c.upper late =
      body_is ∙ ap (λ (t : List ℕ). head ++ t) (ap (in_case c.upper) raw ∙ case_append c.upper whole (46 ∷ late)
      ∙ ap (λ (t : List ℕ). in_case c.upper whole ++ t) (dot_kept c.upper late))
      ∙ sym (append_assoc head (in_case c.upper whole) (46 ∷ in_case c.upper late)) in
      ap (λ (t : List ℕ). passes pointed_place (read (Some at.Start) t)) is
      ∙ pointed_read early (in_case c.upper late)
      (all_append decimal_bytes head (in_case c.upper whole) (head_decimal (ap is_hexadecimal e))
      (case_all c.upper decimal_bytes whole refl (digits_decimal whole (fixed_all (count_of d n) (n / 10 ^ d)))))
      (case_all c.upper digits late refl (fixed_all d n))
    where
      dot_kept : (u : Bool) (xs : List ℕ) → in_case u (46 ∷ xs) ≡ 46 ∷ in_case u xs
      dot_kept true xs = refl
      dot_kept false xs = refl
