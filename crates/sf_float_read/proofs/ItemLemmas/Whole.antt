-- A text that is read byte by byte.
use Rattle.std.proofs.Common.{◌≡◌, ℕ, zero, suc, ◌+◌, ◌<◌, List, [], ◌∷◌, ◌++◌, length, take, drop, get_or, sym, ap, ◌∙◌, subst, add-one}
use Rattle.std.proofs.Math.Seq.{take-suc}
use Rattle.std.proofs.lemmas.List.{take-append-drop}
use Rattle.sf_float_read.specs.declared.item.reached.Forms.{Forms}
use Rattle.sf_float_read.specs.item.Sequences.{IsFloatOf}
use Rattle.sf_float_read.specs.item.Steps.{AllBytes, BeginsFloat}

all_bytes : (t : List ℕ) → ((i : ℕ) → get_or t i 0 < 256) → AllBytes t
all_bytes [] h = tt
all_bytes (b ∷ t) h = (h 0, all_bytes t (λ i. h (suc i)))

drop_bytes : (t : List ℕ) (n : ℕ) → ((i : ℕ) → get_or t i 0 < 256) → AllBytes (drop n t)
drop_bytes t zero h = all_bytes t h
drop_bytes [] (suc n) h = tt
drop_bytes (b ∷ t) (suc n) h = drop_bytes t n (λ i. h (suc i))

pub one_more : (t : List ℕ) (i : ℕ) → i < length t → take (i + 1) t ≡ take i t ++ get_or t i 0 ∷ []
one_more t i h = ap (λ k. take k t) (add-one i) ∙ take-suc t i 0 h

-- each front of a matching sequence begins one
pub begins_at : (forms : Forms) (t : List ℕ) (i : ℕ) → i < length t → ((k : ℕ) → get_or t k 0 < 256) → IsFloatOf forms t
    → BeginsFloat forms (take i t ++ get_or t i 0 ∷ [])
begins_at forms t i h bytes f =
    let e = ap (λ s. s ++ drop (i + 1) t) (sym (one_more t i h)) ∙ take-append-drop (i + 1) t in
    (drop (i + 1) t, drop_bytes t (i + 1) bytes, subst (IsFloatOf forms) (sym e) f)
