-- The decimal digits of a number, two and four at a time.
use Rattle.std.proofs.Common.{◌≡◌, ℕ, ◌+◌, ◌/◌, ◌%◌, ◌^◌, ◌<◌, ◌≤◌, List, ◌++◌, length}
use Rattle.std.proofs.Common.{ap, ◌∙◌, arith, append_assoc, length-append}
use Rattle.std.proofs.lemmas.Fmt.{decimal_digit, decimal_step, length-decimal-le}
use Rattle.std.specs.Fmt.{decimal}
use Rattle.sf_print.specs.digits.Decimals.{two_digits, three_digits, four_digits, eight_digits}

pub length_one : (n : ℕ) → n < 10 → length (decimal n) ≡ 1
length_one n h = ap length (decimal_digit n h)

pub decimal_two : (n : ℕ) → 10 ≤ n → n < 100 → decimal n ≡ two_digits n
decimal_two n lo hi = rw (decimal_step n lo (omega arith), decimal_digit (n / 10) (omega arith))

pub length_two : (n : ℕ) → 10 ≤ n → n < 100 → length (decimal n) ≡ 2
length_two n lo hi = ap length (decimal_two n lo hi)

pub decimal_pair : (n : ℕ) → 100 ≤ n → n < 2 ^ 64 → decimal n ≡ decimal (n / 100) ++ two_digits (n % 100)
decimal_pair n lo hi =
    let a : n / 10 / 10 ≡ n / 100 = omega arith in
    let b : n / 10 % 10 ≡ n % 100 / 10 = omega arith in
    let c : n % 10 ≡ n % 100 % 10 = omega arith in
    rw (decimal_step n (omega arith) hi, decimal_step (n / 10) (omega arith) (omega arith), append_assoc, a, b, ← c)

pub length_pair : (n : ℕ) → 100 ≤ n → n < 2 ^ 64 → length (decimal n) ≡ length (decimal (n / 100)) + 2
length_pair n lo hi = ap length (decimal_pair n lo hi) ∙ length-append _ _

pub decimal_three : (n : ℕ) → 1000 ≤ n → n < 2 ^ 64 → decimal n ≡ decimal (n / 1000) ++ three_digits (n % 1000)
decimal_three n lo hi =
    let a : n / 10 / 100 ≡ n / 1000 = omega arith in
    let b : n / 10 % 100 ≡ n % 1000 / 10 = omega arith in
    let c : n % 10 ≡ n % 1000 % 10 = omega arith in
    rw (decimal_step n (omega arith) hi, decimal_pair (n / 10) (omega arith) (omega arith), append_assoc, a, b, ← c)

pub length_by_three : (n : ℕ) → 1000 ≤ n → n < 2 ^ 64 → length (decimal n) ≡ length (decimal (n / 1000)) + 3
length_by_three n lo hi = ap length (decimal_three n lo hi) ∙ length-append _ _

pub decimal_of_three : (n : ℕ) → 100 ≤ n → n < 1000 → decimal n ≡ three_digits n
decimal_of_three n lo hi = rw (decimal_step n (omega arith) (omega arith), decimal_two (n / 10) (omega arith) (omega arith))

pub decimal_four : (n : ℕ) → 10000 ≤ n → n < 2 ^ 64 → decimal n ≡ decimal (n / 10000) ++ four_digits (n % 10000)
decimal_four n lo hi =
    let a : n / 100 / 100 ≡ n / 10000 = omega arith in
    let b : n / 100 % 100 ≡ n % 10000 / 100 = omega arith in
    let c : n % 10000 % 100 ≡ n % 100 = omega arith in
    rw (decimal_pair n (omega arith) hi, decimal_pair (n / 100) (omega arith) (omega arith), append_assoc, a, b, c)

pub length_four : (n : ℕ) → 10000 ≤ n → n < 2 ^ 64 → length (decimal n) ≡ length (decimal (n / 10000)) + 4
length_four n lo hi = ap length (decimal_four n lo hi) ∙ length-append _ _

pub decimal_eight : (n : ℕ) → 100000000 ≤ n → n < 2 ^ 64 → decimal n ≡ decimal (n / 100000000) ++ eight_digits (n % 100000000)
decimal_eight n lo hi =
    let a : n / 10000 / 10000 ≡ n / 100000000 = omega arith in
    let b : n / 10000 % 10000 ≡ n % 100000000 / 10000 = omega arith in
    let c : n % 100000000 % 10000 ≡ n % 10000 = omega arith in
    rw (decimal_four n (omega arith) hi, decimal_four (n / 10000) (omega arith) (omega arith), append_assoc, a, b, c)

pub length_eight : (n : ℕ) → 100000000 ≤ n → n < 2 ^ 64 → length (decimal n) ≡ length (decimal (n / 100000000)) + 8
length_eight n lo hi = ap length (decimal_eight n lo hi) ∙ length-append _ _

pub decimal_ten : (n : ℕ) → 1000000000 ≤ n → n < 10000000000 → decimal n ≡ two_digits (n / 100000000) ++ eight_digits (n % 100000000)
decimal_ten n lo hi = rw (decimal_eight n (omega arith) (omega arith), decimal_two (n / 100000000) (omega arith) (omega arith))

pub length_ten : (n : ℕ) → 1000000000 ≤ n → n < 10000000000 → length (decimal n) ≡ 10
length_ten n lo hi = ap length (decimal_ten n lo hi)

pub length_three : (n : ℕ) → 100 ≤ n → n < 1000 → length (decimal n) ≡ 3
length_three n lo hi = omega (arith, length_pair n lo (omega arith), length_one (n / 100) (omega arith))

pub length_four_only : (n : ℕ) → 1000 ≤ n → n < 10000 → length (decimal n) ≡ 4
length_four_only n lo hi = omega (arith, length_pair n (omega arith) (omega arith), length_two (n / 100) (omega arith) (omega arith))

pub length_at_most : (n : ℕ) → n < 2 ^ 64 → length (decimal n) ≤ 20
length_at_most n h = length-decimal-le 20 n (omega arith) (omega arith) (omega arith)

pub length_below : (n : ℕ) → n < 1000000000 → length (decimal n) ≤ 9
length_below n h = length-decimal-le 9 n (omega arith) (omega arith) (omega arith)

-- a text after another
pub behind : (all front before x y text : List ℕ) → all ≡ front ++ y → front ≡ before ++ x → text ≡ x ++ y → all ≡ before ++ text
behind all front before x y text e f g = rw (e, f, g) (append_assoc before x y)
