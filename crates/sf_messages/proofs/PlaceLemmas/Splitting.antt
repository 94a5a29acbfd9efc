-- Texts split at the same length from their ends.
use Rattle.std.proofs.Common.{◌≡◌, ℕ, List, [], ◌∷◌, ◌++◌, length, length-append, refl, ap, arith}

-- fronts before ends of one length
pub same_front : (a b x y : List ℕ) → a ++ x ≡ b ++ y → length x ≡ length y → a ≡ b
same_front [] [] x y e same = refl
same_front [] (c ∷ b) x y e same = absurd (let long = ap length e in omega (arith, long, same, length-append b y))
same_front (c ∷ a) [] x y e same = absurd (let long = ap length e in omega (arith, long, same, length-append a x))
same_front (c ∷ a) (d ∷ b) x y e same =
    let heads : c ≡ d = cc in
    let tails : a ++ x ≡ b ++ y = cc in
    let rest = same_front a b x y tails same in
    cc
