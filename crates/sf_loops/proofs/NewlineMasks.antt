-- Newlines, sixteen bytes at once.
use Rattle.std.proofs.Common.{◌≡◌, ℕ, zero, suc, ◌+◌, ◌-◌, ◌*◌, ◌/◌, ◌%◌, ◌^◌, ◌<◌, ◌≤◌, min, Bool, true, false, cond, eqb, List, [], ◌∷◌}
use Rattle.std.proofs.Common.{◌++◌, map, take, drop, sym, ap, ap₂, ◌∙◌, arith}
use Rattle.std.proofs.lemmas.List.{drop-take, take-append-drop, take-map, take-take}
use Rattle.std.proofs.lemmas.Grind.{common_steps}
use Rattle.std.proofs.lemmas.Nat.{mod-mul-add}
use Rattle.std.proofs.lemmas.Simd.{ones-mask_l}
use Rattle.std.proofs.Math.Nat.{mod-add-div', mod-eq_of_lt, mod-lt, mod-one, mul_left_comm, one-le-pow, pow-le-pow_right, pow-succ'}
use Rattle.std.proofs.Math.Nat.{zero-mod}
use Rattle.std.specs.Int.RustNames.{count_ones}
use lib.Lanes.{chunk, mask_l}
use Rattle.sf_read.specs.source.Counts.{lines_after, newlines}

-- ---- the mask of a front

bit : (b : Bool) → cond b 1 0 ≤ 1
bit true = omega arith
bit false = omega arith

mask_front : (ms : List Bool) (k : ℕ) → mask_l ms % 2 ^ k ≡ mask_l (take k ms)
mask_front [] zero = zero-mod 1
mask_front [] (suc k) = zero-mod (2 ^ suc k)
mask_front (m ∷ ms) zero = mod-one (mask_l (m ∷ ms))
mask_front (m ∷ ms) (suc k) =
    let p : ℕ = 2 ^ k in
    let q : ℕ = mask_l ms / p in
    let r : ℕ = mask_l ms % p in
    let b : ℕ = cond m 1 0 in
    let split : r + q * p ≡ mask_l ms = mod-add-div' (mask_l ms) p in
    let low : r < p = mod-lt (mask_l ms) (one-le-pow k 2 (omega arith)) in
    let two : 2 ^ suc k ≡ 2 * p = pow-succ' 2 k in
    let far : q * (2 * p) ≡ 2 * (q * p) = mul_left_comm q 2 p in
    let whole : b + 2 * mask_l ms ≡ q * (2 * p) + (b + 2 * r) = omega (arith, split, far) in
    ap (λ n. (b + 2 * mask_l ms) % n) two ∙ ap (λ n. n % (2 * p)) whole ∙ mod-mul-add q (2 * p) (b + 2 * r) (omega (arith, low, bit m))
    ∙ ap (λ n. b + 2 * n) (mask_front ms k)

-- a one that is moved up by so many places
pub one_moved : (count : ℕ) → count ≤ 16 → 1 * 2 ^ count % 2 ^ 64 ≡ 2 ^ count
one_moved count few =
    let small : 2 ^ count ≤ 2 ^ 16 = pow-le-pow_right {n = 2} (omega arith) {i = count} {j = 16} few in
    let one : 1 * 2 ^ count ≡ 2 ^ count = omega arith in
    ap (λ n. n % 2 ^ 64) one ∙ mod-eq_of_lt (omega (arith, small))

pub newlines_in_front : (bytes : List ℕ) (count : ℕ) → count ≤ 16 → (m n : ℕ) → m ≡ mask_l (map (λ b. eqb b 10) (chunk 0 16 bytes))
    → n ≡ 2 ^ count → count_ones (m % n) ≡ newlines (take count bytes)
newlines_in_front bytes count few m n is power =
    let p : ℕ → Bool = λ b. eqb b 10 in
    ap₂ (λ a b. count_ones (a % b)) is power
    ∙ ap count_ones (mask_front (map p (take 16 bytes)) count
    ∙ ap mask_l (take-map p count (take 16 bytes) ∙ ap (map p) (take-take count 16 bytes few)))
    ∙ ones-mask_l p (take count bytes)

-- ---- more of them

newlines_more : (x y : List ℕ) → newlines (x ++ y) ≡ newlines x + newlines y
newlines_more x y = grind (arith, common_steps)

-- those of two parts are counted one after the other
lines_more : (n : ℕ) (x y : List ℕ) → lines_after (lines_after n x) y ≡ lines_after n (x ++ y)
lines_more n x y = grind (arith, newlines_more)

take_two : (xs : List ℕ) (n k : ℕ) → take n xs ++ take k (drop n xs) ≡ take (n + k) xs
take_two xs n k =
    ap₂ (λ x y. x ++ y) (sym (take-take n (n + k) xs (omega arith))) (sym (drop-take n k xs)) ∙ take-append-drop n (take (n + k) xs)

-- so many were counted, and the others follow
pub counted_front : (before lines more left now : ℕ) (bytes rest after : List ℕ) → now ≤ left
    → lines_after lines (take left rest) ≡ lines_after before bytes → more ≡ min (lines + newlines (take now rest)) (2 ^ 64 - 1)
    → after ≡ drop now rest → lines_after more (take (left - now) after) ≡ lines_after before bytes
counted_front before lines more left now bytes rest after le were is follows =
    let all : now + (left - now) ≡ left = omega (arith, le) in
    ap₂ (λ n y. lines_after n (take (left - now) y)) is follows ∙ lines_more lines (take now rest) (take (left - now) (drop now rest))
    ∙ ap (lines_after lines) (take_two rest now (left - now) ∙ ap (λ n. take n rest) all) ∙ were
