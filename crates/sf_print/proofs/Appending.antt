-- Pieces that a sink took one after the other.
use Rattle.std.proofs.Common.{◌≡◌, ℕ, zero, suc, ◌+◌, ◌-◌, ◌≤◌, List, [], ◌∷◌, ◌++◌, length, take, drop, subst, sym, ap, ◌∙◌, arith}
use Rattle.std.proofs.Common.{append_assoc, append-nil, Option, Some, None}
use Rattle.std.proofs.lemmas.List.{take_rest, length-drop}
use Rattle.std.proofs.Math.Seq.{take-append_seam}
use Rattle.std.specs.Io.KnownBytes.{Appends, Keeps}

pub Appends-none : (a : Option (List ℕ)) → Appends a a []
Appends-none None = tt
Appends-none (Some xs) = sym (append-nil xs)

pub Appends-then : (a b c : Option (List ℕ)) (p q : List ℕ) → Appends a b p → Appends b c q → Appends a c (p ++ q)
Appends-then None b c p q h k = tt
Appends-then (Some xs) None c p q h k = absurd h
Appends-then (Some xs) (Some ys) None p q h k = absurd k
Appends-then (Some xs) (Some ys) (Some zs) p q h k = k ∙ ap (λ (t : List ℕ). t ++ q) h ∙ append_assoc xs p q

pub Appends-keeps : (a b c : Option (List ℕ)) (p : List ℕ) → Appends a b p → Keeps b c → Appends a c p
Appends-keeps None b c p h k = tt
Appends-keeps (Some xs) None c p h k = absurd h
Appends-keeps (Some xs) (Some ys) None p h k = absurd k
Appends-keeps (Some xs) (Some ys) (Some zs) p h k = k ∙ h

pub Appends-same : (a b : Option (List ℕ)) (p q : List ℕ) → p ≡ q → Appends a b p → Appends a b q
Appends-same a b p q e h = let F : List ℕ → Type 0 = λ t. Appends a b t in subst F e h

pub take_on : (a n : ℕ) (xs : List ℕ) → a ≤ length xs → take (a + n) xs ≡ take a xs ++ take n (drop a xs)
take_on zero n xs h = ap (λ (k : ℕ). take k xs) {x = zero + n} {y = n} (omega arith)
take_on (suc a) n [] h = absurd (omega arith)
take_on (suc a) n (x ∷ xs) h = ap (λ (k : ℕ). take k (x ∷ xs)) {x = suc a + n} {y = suc (a + n)} (omega arith)
    ∙ ap (λ (t : List ℕ). x ∷ t) (take_on a n xs (omega arith))

-- a front of the rest of a slice
pub took_more : (xs : List ℕ) (done n : ℕ) → done ≤ length xs → n ≤ length (take (length xs - done) (drop done xs))
    → (done + n ≤ length xs) × (take (done + n) xs ≡ take done xs ++ take n (take (length xs - done) (drop done xs)))
took_more xs done n h most =
    let rest = take_rest xs done in
    let len : length (take (length xs - done) (drop done xs)) ≡ length xs - done = ap length rest ∙ length-drop done xs in
    (omega arith, take_on done n xs h ∙ ap (λ (t : List ℕ). take done xs ++ take n t) (sym rest))

-- a piece written over a buffer from a place on
pub put_at : (at start end : ℕ) (piece old new : List ℕ) → start ≡ at → end ≡ at + length piece → at ≤ length new
    → drop start new ≡ piece ++ drop end old → take start new ≡ take start old → take end new ≡ take at old ++ piece
put_at at start end piece old new s e within written before =
    ap (λ (n : ℕ). take n new) e ∙ take_on at (length piece) new within
    ∙ (λ i. (ap (λ (n : ℕ). take n new) (sym s) ∙ before ∙ ap (λ (n : ℕ). take n old) s) i ++ take (length piece)
    ((ap (λ (n : ℕ). drop n new) (sym s) ∙ written) i))
    ∙ ap (λ (t : List ℕ). take at old ++ t) (take-append_seam piece (drop end old))
