-- Decimal numerals: their digits, and how far a float is read with them.
use Rattle.std.proofs.Common.{◌≡◌, ◌≢◌, ℕ, suc, ◌+◌, ◌-◌, ◌*◌, ◌^◌, ◌<◌, ◌≤◌, Bool, true, false, cond, List, [], ◌∷◌, ◌++◌, append_assoc}
use Rattle.std.proofs.Common.{get_or, length, take, drop, Some, None, is_some, refl, sym, ap, subst, ◌∙◌, ◌⊎◌, ◌==◌, inl, inr, arith}
use Rattle.std.proofs.Common.{pow-suc}
use Rattle.std.proofs.lemmas.Bool.Decides.{nat_tests}
use Rattle.std.proofs.lemmas.List.{take_more, drop_more, length-take-le, length-drop, length-append, take-append-drop}
use Rattle.std.proofs.Math.Nat.{pow-le-pow_right}
use lib.Dec.{lit<}
use Rattle.std.proofs.Math.Seq.{take-append_seam, take-append-add}
use Rattle.std.specs.Char.{digit_value, is_ascii_digit}
use Rattle.std.specs.Fmt.{sign_text}
use Rattle.std.specs.Str.Parse.{AllDigits, digits_value_after}
use Rattle.sf_float_read.specs.item.Decimals.{IsDecimal}
use Rattle.sf_float_read.specs.declared.item.reached.Forms.TheVariants.{All}
use Rattle.sf_float_read.specs.declared.item.reached.Radix.TheVariants.{Ten}
use Rattle.sf_float_read.specs.declared.item.reached.Reached.TheVariants as at
use Rattle.sf_float_read.specs.item.Sequences.{IsFloat}
use Rattle.sf_float_read.specs.item.Tests.{next, read, is_whole_at, letter_of_exponent, begins_float}
use Rattle.sf_float_read.proofs.ItemLemmas.Deciding.{float_decided, read_more}

-- ---- digits, one more

pub decimal_value : (b : ℕ) → 48 ≤ b → b ≤ 57 → digit_value b ≡ b - 48
decimal_value b low high = grind (arith, nat_tests, low, high)

all_push : (ds : List ℕ) (c : ℕ) → AllDigits 10 ds → digit_value c < 10 → AllDigits 10 (ds ++ c ∷ [])
all_push [] c all low = (low, tt)
all_push (d ∷ ds) c all low = (all.0, all_push ds c all.1 low)

value_push : (n : ℕ) (ds : List ℕ) (c : ℕ) → digits_value_after 10 n (ds ++ c ∷ []) ≡ digits_value_after 10 n ds * 10 + digit_value c
value_push n [] c = refl
value_push n (d ∷ ds) c = value_push (n * 10 + digit_value d) ds c

pub all_more : (bs : List ℕ) (i : ℕ) → i < length bs → digit_value (get_or bs i 0) < 10 → AllDigits 10 (take i bs)
    → AllDigits 10 (take (i + 1) bs)
all_more bs i below low all = subst (AllDigits 10) (sym (take_more bs i 0 below)) (all_push (take i bs) (get_or bs i 0) all low)

pub value_more : (n : ℕ) (bs : List ℕ) (i : ℕ) → i < length bs
    → digits_value_after 10 n (take (i + 1) bs) ≡ digits_value_after 10 n (take i bs) * 10 + digit_value (get_or bs i 0)
value_more n bs i below = ap (digits_value_after 10 n) (take_more bs i 0 below) ∙ value_push n (take i bs) (get_or bs i 0)

-- the digits of both
pub value_both : (n : ℕ) (ds es : List ℕ) → digits_value_after 10 n (ds ++ es) ≡ digits_value_after 10 (digits_value_after 10 n ds) es
value_both n [] es = refl
value_both n (d ∷ ds) es = value_both (n * 10 + digit_value d) ds es

-- ---- their size

pub eighteen : (n k : ℕ) → n < 10 ^ k → k ≤ 18 → n < 1000000000000000000
eighteen n k l m = let p : 10 ^ k ≤ 10 ^ 18 = pow-le-pow_right (lit< tt) {j = 18} m in omega (arith, l, p)

pub ten_more : (n k d : ℕ) → n < 10 ^ k → d < 10 → n * 10 + d < 10 ^ (k + 1)
ten_more n k d l m = let e : k + 1 ≡ suc k = omega arith in rw e (omega (arith, l, m, pow-suc 10 k))

-- ---- how far a float is read

pub is_digit : (b : ℕ) → digit_value b < 10 → is_ascii_digit b ≡ true
is_digit b low = grind (arith, nat_tests, low)

first_digit : (b : ℕ) → digit_value b < 10 → (next at.Signed b ≡ Some at.Zero) ⊎ (next at.Signed b ≡ Some (at.Whole Ten))
first_digit b low = grind (arith, nat_tests, low)

-- a first digit is no sign
start_digit : (b : ℕ) → digit_value b < 10 → next at.Start b ≡ next at.Signed b
start_digit b low = grind (arith, nat_tests, low)

zero_digit : (b : ℕ) → digit_value b < 10 → next at.Zero b ≡ Some (at.Whole Ten)
zero_digit b low = grind (arith, nat_tests, low)

whole_digit : (b : ℕ) → digit_value b < 10 → next (at.Whole Ten) b ≡ Some (at.Whole Ten)
whole_digit b low = ap (λ v. cond v (Some (at.Whole Ten)) (cond (b == 46) (Some (at.Fraction Ten)) (letter_of_exponent Ten b)))
    (is_digit b low)

fraction_digit : (b : ℕ) → digit_value b < 10 → next (at.Fraction Ten) b ≡ Some (at.Fraction Ten)
fraction_digit b low = ap (λ v. cond v (Some (at.Fraction Ten)) (letter_of_exponent Ten b)) (is_digit b low)

fraction_read : (ds : List ℕ) → AllDigits 10 ds → read (Some (at.Fraction Ten)) ds ≡ Some (at.Fraction Ten)
fraction_read [] all = refl
fraction_read (d ∷ ds) all = ap (λ o. read o ds) (fraction_digit d all.0) ∙ fraction_read ds all.1

-- digits and the point, after a digit
whole_read : (ds t : List ℕ) → AllDigits 10 ds → read (Some (at.Whole Ten)) (ds ++ 46 ∷ t) ≡ read (Some (at.Fraction Ten)) t
whole_read [] t all = refl
whole_read (d ∷ ds) t all = ap (λ o. read o (ds ++ 46 ∷ t)) (whole_digit d all.0) ∙ whole_read ds t all.1

zero_read : (ds t : List ℕ) → AllDigits 10 ds → read (Some at.Zero) (ds ++ 46 ∷ t) ≡ read (Some (at.Fraction Ten)) t
zero_read [] t all = refl
zero_read (d ∷ ds) t all = ap (λ o. read o (ds ++ 46 ∷ t)) (zero_digit d all.0) ∙ whole_read ds t all.1

signed_read : (ds t : List ℕ) → 0 < length ds → AllDigits 10 ds → read (Some at.Signed) (ds ++ 46 ∷ t) ≡ read (Some (at.Fraction Ten)) t
signed_read [] t some all = absurd (omega (arith, some))
signed_read (d ∷ ds) t some all =
    elim (first_digit d all.0) [
      | inl e ↦ ap (λ o. read o (ds ++ 46 ∷ t)) e ∙ zero_read ds t all.1
      | inr e ↦ ap (λ o. read o (ds ++ 46 ∷ t)) e ∙ whole_read ds t all.1
    ]

start_read : (ds t : List ℕ) → 0 < length ds → AllDigits 10 ds → read (Some at.Start) (ds ++ 46 ∷ t) ≡ read (Some (at.Fraction Ten)) t
start_read [] t some all = absurd (omega (arith, some))
start_read (d ∷ ds) t some all = ap (λ o. read o (ds ++ 46 ∷ t)) (start_digit d all.0) ∙ signed_read (d ∷ ds) t some all

pub numeral_read : (negative : Bool) (ds es : List ℕ) → 0 < length ds → AllDigits 10 ds → AllDigits 10 es
    → read (Some at.Start) (sign_text negative ++ (ds ++ 46 ∷ es)) ≡ Some (at.Fraction Ten)
numeral_read true ds es some all more = signed_read ds es some all ∙ fraction_read es more
numeral_read false ds es some all more = start_read ds es some all ∙ fraction_read es more

decimal_read : (text : List ℕ) (negative : Bool) (digits places : ℕ) → IsDecimal text negative digits places
    → read (Some at.Start) text ≡ Some (at.Fraction Ten)
decimal_read text negative digits places d =
    ap (read (Some at.Start)) d.joined ∙ numeral_read negative d.whole d.fraction d.some d.whole_digits d.fraction_digits

pub decimal_float : (text : List ℕ) (negative : Bool) (digits places : ℕ) → IsDecimal text negative digits places → IsFloat text
decimal_float text negative digits places d = (float_decided All text).0 (ap is_whole_at (decimal_read text negative digits places d))

-- what follows no number
fraction_ends : (b : ℕ) → is_ascii_digit b ≡ false → b ≢ 101 → b ≢ 69 → next (at.Fraction Ten) b ≡ None
fraction_ends b none lower upper = grind (arith, nat_tests, none)

-- ---- the numeral at the front of a piece

module _ (negative : Bool) (piece body after : List ℕ) (point places : ℕ) (is : piece ≡ sign_text negative ++ body)
    (inside : point < length body) (dot : get_or body point 0 ≡ 46) (then : after ≡ drop (point + 1) body)
    (behind : places < length after) where
  abbrev whole : List ℕ
  whole = take point body

  abbrev fraction : List ℕ
  fraction = take places after

  abbrev text : List ℕ
  text = sign_text negative ++ (whole ++ 46 ∷ fraction)

  abbrev rest : List ℕ
  rest = drop places after

  body_is : body ≡ whole ++ 46 ∷ (fraction ++ rest)
  body_is =
      sym (take-append-drop point body)
      ∙ ap (λ (t : List ℕ). whole ++ t) (drop_more body point 0 inside ∙ (λ i. dot i ∷ sym then i)
      ∙ ap (λ (t : List ℕ). 46 ∷ t) (sym (take-append-drop places after)))

  joined : piece ≡ text ++ rest
  joined =
      is ∙ ap (λ (t : List ℕ). sign_text negative ++ t) (body_is ∙ sym (append_assoc whole (46 ∷ fraction) rest))
      ∙ sym (append_assoc (sign_text negative) (whole ++ 46 ∷ fraction) rest)

  module _ (bytes : ℕ) (long : bytes ≡ length (sign_text negative) + point + 1 + places) where
    bytes_are : bytes ≡ length text
    bytes_are =
        let a = length-append (sign_text negative) (whole ++ 46 ∷ fraction) in
        let b = length-append whole (46 ∷ fraction) in
        let c = length-take-le point body (omega (arith, inside)) in
        let d = length-take-le places after (omega (arith, behind)) in
        omega (arith, long, a, b, c, d)

    front_is : take bytes piece ≡ text
    front_is = (λ i. take (bytes_are i) (joined i)) ∙ take-append_seam text rest

    next_is : take (bytes + 1) piece ≡ text ++ get_or after places 0 ∷ []
    next_is = (λ i. take (bytes_are i + 1) (joined i)) ∙ take-append-add text rest 1
        ∙ ap (λ (t : List ℕ). text ++ take 1 t) (drop_more after places 0 behind)

    some_behind : bytes < length piece
    some_behind =
        let a = ap length joined ∙ length-append text rest in
        let b = length-drop places after in
        omega (arith, a, b, behind, bytes_are)

    module _ (some : 0 < point) (all : AllDigits 10 whole) (more : AllDigits 10 fraction) where
      whole_some : 0 < length whole
      whole_some = let c = length-take-le point body (omega (arith, inside)) in omega (arith, c, some)

      pub numeral_is : (number digits : ℕ) → number ≡ digits_value_after 10 0 whole → digits ≡ digits_value_after 10 number fraction
          → IsDecimal (take bytes piece) negative digits places
      numeral_is number digits p q = record {
        whole = whole;
        fraction = fraction;
        whole_digits = all;
        fraction_digits = more;
        some = whole_some;
        joined = front_is;
        number = q ∙ ap (λ (n : ℕ). digits_value_after 10 n fraction) p ∙ sym (value_both 0 whole fraction);
        after = sym (length-take-le places after (omega (arith, behind)));
      }

      pub ends_there : is_ascii_digit (get_or after places 0) ≡ false → get_or after places 0 ≢ 101 → get_or after places 0 ≢ 69
          → begins_float (take (bytes + 1) piece) ≡ false
      ends_there none lower upper =
          ap begins_float next_is
          ∙ ap is_some (read_more (Some at.Start) text (get_or after places 0 ∷ [])
          ∙ ap (λ o. read o (get_or after places 0 ∷ [])) (numeral_read negative whole fraction whole_some all more)
          ∙ ap (λ o. read o []) (fraction_ends (get_or after places 0) none lower upper))

  pub within_so : (bytes : ℕ) → bytes ≡ length (sign_text negative) + point + 1 + places → bytes < length piece
  within_so = some_behind
