-- A text that is moved to the front of a block by its ends.
use Rattle.std.proofs.Common.{◌≡◌, ℕ, ◌+◌, ◌-◌, ◌≤◌, List, ◌++◌, length, take, drop, ap, ◌∙◌, arith}
use Rattle.std.proofs.lemmas.List.{take_all, take-take, take-append-drop, take-append-le, length-take-le, length-drop, length-append}
use Rattle.std.proofs.lemmas.Slice.{take-put_mid}
use borrow.Rule.Slice.PartMut.{put_mid}

pub ends_moved : (block xs p q : List ℕ) (w k : ℕ) → w ≤ length xs → length xs ≤ w + w → p ≡ take w xs
    → q ≡ take k (drop (length xs - w) xs) → k ≡ length xs - (length xs - w)
    → take (length xs) (put_mid (length xs - w) k (p ++ drop w block) q) ≡ xs
ends_moved block xs p q w k low high p_is q_is k_is =
    let n : ℕ = length xs in
    let long_p : length p ≡ w = ap length p_is ∙ length-take-le w xs low in
    let back : q ≡ drop (n - w) xs = q_is ∙ take_all k (drop (n - w) xs) (omega (arith, k_is, length-drop (n - w) xs)) in
    let long_q : length q ≡ w = omega (arith, low, ap length back, length-drop (n - w) xs) in
    let within : n - w ≤ length (p ++ drop w block) = omega (arith, high, long_p, length-append p (drop w block)) in
    let front : take (n - w) (p ++ drop w block) ≡ take (n - w) xs =
    take-append-le (n - w) p (drop w block) (omega (arith, high, long_p)) ∙ ap (take (n - w)) p_is
    ∙ take-take (n - w) w xs (omega (arith, high)) in
    take-put_mid (n - w) k (p ++ drop w block) q n (omega (arith, low, long_q)) within ∙ (λ i. front i ++ back i)
    ∙ take-append-drop (n - w) xs
