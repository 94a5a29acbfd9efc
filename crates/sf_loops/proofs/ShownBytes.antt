-- Bytes that are shown, one after the other.
use Rattle.std.proofs.Common.{ℕ, suc, ◌+◌, ◌<◌, ◌≤◌, List, [], ◌∷◌, ◌++◌, length, take, get_or, sym, ap, ◌∙◌, arith, append-nil}
use Rattle.std.specs.List.{flat_map}
use Rattle.std.specs.Fmt.{HasWritten}
use Rattle.std.specs.declared.fmt.Formatter.{Formatter}
use Rattle.std.proofs.Math.Seq.{take-suc}
use Rattle.std.proofs.lemmas.Grind.{flat_map-append, put_two}
use Rattle.std.proofs.lemmas.List.{take_all}
use Rattle.sf_loops.specs.LineTexts.{shown_byte}

-- one more byte
pub shown_more : {W : Type 0} (took : W → List ℕ → W → Type 0) (f g h : Formatter W) (xs : List ℕ) (i : ℕ)
    → HasWritten took f (34 ∷ flat_map shown_byte (take i xs)) g → i < length xs → HasWritten took g (shown_byte (get_or xs i 0)) h
    → HasWritten took f (34 ∷ flat_map shown_byte (take (i + 1) xs)) h
shown_more took f g h xs i before inside wrote =
    put_two took f g h (34 ∷ flat_map shown_byte (take i xs)) (shown_byte (get_or xs i 0)) (34 ∷ flat_map shown_byte (take (i + 1) xs))
    before wrote (ap (λ (t : List ℕ). 34 ∷ t) (sym (ap (λ (k : ℕ). flat_map shown_byte (take k xs)) {x = i + 1} {y = suc i} (omega arith)
    ∙ ap (flat_map shown_byte) (take-suc xs i 0 inside)
    ∙ flat_map-append shown_byte (take i xs) (get_or xs i 0 ∷ [])
    ∙ ap (λ (t : List ℕ). flat_map shown_byte (take i xs) ++ t) (append-nil (shown_byte (get_or xs i 0))))))

-- the quote after them
pub shown_all : {W : Type 0} (took : W → List ℕ → W → Type 0) (f g h : Formatter W) (xs : List ℕ) (i : ℕ)
    → HasWritten took f (34 ∷ flat_map shown_byte (take i xs)) g → length xs ≤ i → HasWritten took g (34 ∷ []) h
    → HasWritten took f (34 ∷ flat_map shown_byte xs ++ 34 ∷ []) h
shown_all took f g h xs i before all wrote =
    put_two took f g h (34 ∷ flat_map shown_byte (take i xs)) (34 ∷ []) (34 ∷ flat_map shown_byte xs ++ 34 ∷ []) before wrote
    (ap (λ (t : List ℕ). 34 ∷ flat_map shown_byte t ++ 34 ∷ []) (take_all i xs all))
