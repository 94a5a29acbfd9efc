-- The bytes of a text: digits, `-`, `.` and small letters.
use Rattle.std.proofs.Common.{ℕ, zero, suc, ◌+◌, ◌-◌, ◌*◌, ◌/◌, ◌%◌, ◌^◌, ◌<◌, ◌≤◌, Bool, true, false, ◌||◌, [], ◌∷◌, ◌++◌, nat_lt, nat_eq}
use Rattle.std.proofs.Common.{max, codes, refl, inl, inr, arith, mod-lt, if◌then◌else◌}
use Rattle.std.proofs.lemmas.List.Elements.{All-append, All-cons, All-nil}
use lib.Dec.{lit<}
use Rattle.std.specs.List.{All}
use Rattle.std.specs.Float.{is_sign_negative}
use Rattle.std.specs.Float.Ieee.{Float, nan, inf, fin}
use Rattle.std.specs.Fmt.{sign_text}
use Rattle.sf_base.specs.declared.real.Real as real
use Rattle.sf_float.specs.Texts.{fixed_digits, point_text, exponent_size}
use Rattle.sf_float.specs.Computed.{count_of}
use Rattle.sf_float.specs.fewest.Digits.{number_of, shortest}
use Rattle.sf_float.specs.fewest.Laid.{plain_text, raised_text, is_plain, laid_out, size_text, shortest_text}
use Rattle.sf_float.specs.fewest.Laws.{IsShort, HasShortBytes}

letter : (b : ℕ) → 97 ≤ b → b ≤ 122 → IsShort b
letter b l m = inr (inr (inr (l, m)))

one : (b : ℕ) → IsShort b → All IsShort (b ∷ [])
one b h = All-cons IsShort b [] h (All-nil IsShort)

digit : (n : ℕ) → IsShort (48 + n % 10)
digit n = let l : n % 10 < 10 = mod-lt n (lit< tt) in inl (omega arith, omega (arith, l))

digits : (k n : ℕ) → All IsShort (fixed_digits k n)
digits zero n = All-nil IsShort
digits (suc k) n = All-append IsShort (fixed_digits k (n / 10)) ((48 + n % 10) ∷ []) (digits k (n / 10)) (one (48 + n % 10) (digit n))

signs : (s : Bool) → All IsShort (sign_text s)
signs true = one 45 (inr (inl refl))
signs false = All-nil IsShort

points : (decimals n : ℕ) → All IsShort (point_text false decimals n)
points decimals n = by (nat_lt 0 decimals || false)
  where
    by : (b : Bool) → All IsShort (if b then 46 ∷ fixed_digits decimals n else [])
    by true = All-cons IsShort 46 (fixed_digits decimals n) (inr (inr (inl refl))) (digits decimals n)
    by false = All-nil IsShort

plains : (n last point : ℕ) → All IsShort (plain_text n last point)
plains n last point =
    let decimals = max (400 - last) 1 in
    let m = n * 10 ^ (last + decimals - 400) in
    All-append IsShort (fixed_digits (max (point - 400) 1) (m / 10 ^ decimals)) (point_text false decimals m)
    (digits (max (point - 400) 1) (m / 10 ^ decimals)) (points decimals m)

raised : (n count point : ℕ) → All IsShort (raised_text n count point)
raised n count point =
    let size = exponent_size (point - 1) in
    let s = sign_text (nat_lt (point - 1) 400) in
    let e = fixed_digits (count_of 0 size) size in
    All-append IsShort (fixed_digits 1 (n / 10 ^ (count - 1))) (point_text false (count - 1) n ++ 101 ∷ (s ++ e))
    (digits 1 (n / 10 ^ (count - 1)))
    (All-append IsShort (point_text false (count - 1) n) (101 ∷ (s ++ e)) (points (count - 1) n)
    (All-cons IsShort 101 (s ++ e) (letter 101 (omega arith) (omega arith))
    (All-append IsShort s e (signs (nat_lt (point - 1) 400)) (digits (count_of 0 size) size))))

either : (r : real.Real) (n last : ℕ) → All IsShort (laid_out r n last)
either r n last = by (is_plain r (count_of 0 n + last))
  where
    by : (b : Bool) → All IsShort
        (if b then plain_text n last (count_of 0 n + last) else raised_text n (count_of 0 n) (count_of 0 n + last))
    by true = plains n last (count_of 0 n + last)
    by false = raised n (count_of 0 n) (count_of 0 n + last)

three : (a b c : ℕ) → IsShort a → IsShort b → IsShort c → All IsShort (a ∷ b ∷ c ∷ [])
three a b c p q s = All-cons IsShort a (b ∷ c ∷ []) p (All-cons IsShort b (c ∷ []) q (one c s))

sizes : (r : real.Real) (x : Float) → All IsShort (size_text r x)
sizes r nan = three 110 97 110 (letter 110 (omega arith) (omega arith)) (letter 97 (omega arith) (omega arith))
    (letter 110 (omega arith) (omega arith))
sizes r (inf s) = three 105 110 102 (letter 105 (omega arith) (omega arith)) (letter 110 (omega arith) (omega arith))
    (letter 102 (omega arith) (omega arith))
sizes r (fin s m e) = by (nat_eq m 0)
  where
    by : (b : Bool) → All IsShort (if b then codes "0.0" else laid_out r (shortest r).0 (shortest r).1)
    by true = three 48 46 48 (digit 0) (inr (inr (inl refl))) (digit 0)
    by false = either r (shortest r).0 (shortest r).1

pub bytes : HasShortBytes
unfolding shortest_text
bytes r = All-append IsShort (sign_text (is_sign_negative (number_of r))) (size_text r (number_of r))
    (signs (is_sign_negative (number_of r))) (sizes r (number_of r))
