-- A text made part by part.
use Rattle.std.proofs.Common.{◌≡◌, ℕ, Bool, List, [], ◌∷◌, ◌++◌, Option, refl, sym, ap, subst, ◌∙◌, append_assoc, append-nil}
use Rattle.sf_format.specs.declared.unit.Unit.{Unit as PrintUnit}
use Rattle.sf_arguments.specs.answer.Parts.{IsPart, AreParts}

-- what is made of the first units goes on to be what is made of all
abbrev pub GoesOn : Bool → Option ℕ → List PrintUnit → List PrintUnit → List ℕ → Type 0
GoesOn numbered width us left text = (rest : List ℕ) → AreParts numbered width left rest → AreParts numbered width us (text ++ rest)

pub one_more : (numbered : Bool) (width : Option ℕ) (us left us' : List PrintUnit) (u : PrintUnit) (text part text' : List ℕ)
    → GoesOn numbered width us left text → left ≡ u ∷ us' → IsPart numbered width u us' part → text' ≡ text ++ part
    → GoesOn numbered width us us' text'
one_more numbered width us left us' u text part text' goes first is e = λ rest more.
    subst (AreParts numbered width us) (sym (append_assoc text part rest) ∙ ap (λ (t : List ℕ). t ++ rest) (sym e))
    (goes (part ++ rest) (subst (λ (l : List PrintUnit). AreParts numbered width l (part ++ rest)) (sym first)
    (part, rest, refl, is, more)))

pub at_end : (numbered : Bool) (width : Option ℕ) (us left : List PrintUnit) (text : List ℕ) → GoesOn numbered width us left text
    → left ≡ [] → (due : Bool) → numbered ≡ due → AreParts due width us text
at_end numbered width us left text goes none due same =
    subst (λ (b : Bool). AreParts b width us text) same (subst (AreParts numbered width us) (append-nil text)
    (goes [] (subst (λ (l : List PrintUnit). AreParts numbered width l []) (sym none) refl)))
