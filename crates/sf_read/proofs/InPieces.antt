-- A scanner that is handed pieces.
use Rattle.std.proofs.Common.{◌≡◌, ◌⊎◌, inl, inr, ℕ, ◌+◌, ◌<◌, zero, suc, false, List, [], ◌∷◌, ◌++◌, length, take, get_or, refl, sym, ap}
use Rattle.std.proofs.Common.{subst, ◌∙◌, arith, append-nil, append_assoc}
use Rattle.std.specs.Borrow.{Bor}
use Rattle.sf_format.specs.declared.directive.Directive.{Directive}
use Rattle.sf_run.specs.outcome.Ending.{Ending}
use Rattle.sf_run.specs.outcome.Ending.TheVariants.{End}
use Rattle.sf_run.specs.declared.feeding.FeedState.{FeedState}
use Rattle.sf_run.specs.declared.feeding.FeedState.TheVariants as feed
use Rattle.sf_run.specs.Standing.{Standing, After, Gives, ran_out}
use Rattle.sf_read.specs.Pieces.{pieces_joined}

-- it was handed the bytes x: it stands after them, or it has ended within them
abbrev pub Fed : List Directive → ℕ → Standing → List ℕ → Type 0
Fed ds m s x = After ds m s x ⊎ ((z : List ℕ) (ending : Ending) → Gives ds m s (x ++ z) ending)

-- and then those of a piece
pub fed_on : (ds : List Directive) (m : ℕ) (old new : Standing) (x y : List ℕ) (state : FeedState)
    → (ran_out new ≡ false → After ds m old x → After ds m new (x ++ y)) → (state ≡ feed.Wait → ran_out new ≡ false)
    → (After ds m old x → state ≡ feed.Ended → (z : List ℕ) (ending : Ending) → Gives ds m new ((x ++ y) ++ z) ending)
    → ((z : List ℕ) → Gives ds m old z End → new ≡ old) → Fed ds m old x → Fed ds m new (x ++ y)
fed_on ds m old new x y feed.Wait goes waits gives stays (inl after) = inl (goes (waits refl) after)
fed_on ds m old new x y feed.Ended goes waits gives stays (inl after) = inr (gives after refl)
fed_on ds m old new x y state goes waits gives stays (inr given) = inr (λ z ending.
    subst (λ s. Gives ds m s ((x ++ y) ++ z) ending) (sym (stays (x ++ []) (given [] End)))
    (subst (λ b. Gives ds m old b ending) (sym (append_assoc x y z)) (given (y ++ z) ending)))

-- no storing was refused, where none may be
pub fed_fine : (ds : List Directive) (m : ℕ) (old new : Standing) (x : List ℕ) → (After ds m old x → ran_out new ≡ false)
    → ((z : List ℕ) → Gives ds m old z End → new ≡ old) → Fed ds m old x → ran_out old ≡ false → ran_out new ≡ false
fed_fine ds m old new x fine stays (inl after) before = fine after
fed_fine ds m old new x fine stays (inr given) before = ap ran_out (stays (x ++ []) (given [] End)) ∙ before

-- and then the input ends
pub ended_on : (ds : List Directive) (m : ℕ) (old new : Standing) (x : List ℕ) → (After ds m old x → Gives ds m new x End)
    → ((z : List ℕ) → Gives ds m old z End → new ≡ old) → Fed ds m old x → Gives ds m new x End
ended_on ds m old new x gives stays (inl after) = gives after
ended_on ds m old new x gives stays (inr given) =
    let own : Gives ds m old x End = subst (λ y. Gives ds m old y End) (append-nil x) (given [] End) in
    subst (λ s. Gives ds m s x End) (sym (stays x own)) own

joined_suc : (pieces : List (Bor (List ℕ))) (i : ℕ) (other : Bor (List ℕ)) → i < length pieces
    → pieces_joined (take (suc i) pieces) ≡ pieces_joined (take i pieces) ++ (get_or pieces i other).now
joined_suc [] i other below = absurd (omega arith)
joined_suc (p ∷ pieces) zero other below = append-nil p.now
joined_suc (p ∷ pieces) (suc i) other below =
    ap (λ (rest : List ℕ). p.now ++ rest) (joined_suc pieces i other (omega arith))
    ∙ sym (append_assoc p.now (pieces_joined (take i pieces)) (get_or pieces i other).now)

-- one piece more
pub joined_more : (pieces : List (Bor (List ℕ))) (i : ℕ) (other : Bor (List ℕ)) → i < length pieces
    → pieces_joined (take (i + 1) pieces) ≡ pieces_joined (take i pieces) ++ (get_or pieces i other).now
joined_more pieces i other below =
    let on : i + 1 ≡ suc i = omega arith in ap (λ n. pieces_joined (take n pieces)) on ∙ joined_suc pieces i other below
