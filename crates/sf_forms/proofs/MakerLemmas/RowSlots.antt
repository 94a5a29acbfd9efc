-- The values of slots, one slot after the other.
use Rattle.std.proofs.Common.{◌≡◌, ℕ, zero, suc, ◌+◌, List, [], ◌∷◌, ◌++◌, map, Option, Some, None, refl, sym, ap, ◌∙◌, arith}
use Rattle.std.specs.List.{filter_map}
use Rattle.std.proofs.lemmas.List.{append-nil, map-append}
use Rattle.std.proofs.lemmas.List.Elements.{filter_map-append}
use Rattle.sf_base.specs.Data.{Datum}
use Rattle.sf_format.specs.Slots.{slots_from}

slots_more : (place n : ℕ) → slots_from place (suc n) ≡ slots_from place n ++ (place + n) ∷ []
slots_more place zero = ap (λ (k : ℕ). k ∷ []) {x = place} {y = place + 0} (omega arith)
slots_more place (suc n) =
    ap (λ (t : List ℕ). place ∷ t) (slots_more (place + 1) n ∙ ap (λ (k : ℕ). slots_from (place + 1) n ++ k ∷ []) {x = place + 1 + n}
    {y = place + suc n} (omega arith))

-- the values of the slots from 1 to n, by what each slot has
abbrev pub row_by : (ℕ → Option Datum) → ℕ → List Datum
row_by at n = filter_map at (slots_from 1 n)

row_more : (at : ℕ → Option Datum) (n : ℕ) → row_by at (n + 1) ≡ row_by at n ++ filter_map at ((1 + n) ∷ [])
row_more at n = ap (row_by at) {x = n + 1} {y = suc n} (omega arith)
    ∙ ap (filter_map at) (slots_more 1 n) ∙ filter_map-append at (slots_from 1 n) ((1 + n) ∷ [])

-- the slot has a value
pub with_value : {V : Type 0} (datum : V → Datum) (at : ℕ → Option Datum) (n : ℕ) (items new : List V) (value : V)
    → map datum items ≡ row_by at n → Some (datum value) ≡ at (n + 1) → new ≡ items ++ value ∷ [] → map datum new ≡ row_by at (n + 1)
with_value datum at n items new value so_far given more =
    let this : filter_map at ((1 + n) ∷ []) ≡ datum value ∷ [] =
    rw (← (given ∙ ap at {x = n + 1} {y = 1 + n} (omega arith))) refl in
    ap (map datum) more ∙ map-append datum items (value ∷ []) ∙ ap (λ (t : List Datum). t ++ datum value ∷ []) so_far
    ∙ ap (λ (t : List Datum). row_by at n ++ t) (sym this) ∙ sym (row_more at n)

-- it has none
pub with_none : {V : Type 0} (datum : V → Datum) (at : ℕ → Option Datum) (n : ℕ) (items : List V) → map datum items ≡ row_by at n
    → None ≡ at (n + 1) → map datum items ≡ row_by at (n + 1)
with_none datum at n items so_far given =
    let this : filter_map at ((1 + n) ∷ []) ≡ [] = rw (← (given ∙ ap at {x = n + 1} {y = 1 + n} (omega arith))) refl in
    so_far ∙ sym (append-nil (row_by at n)) ∙ ap (λ (t : List Datum). row_by at n ++ t) (sym this) ∙ sym (row_more at n)

-- ---- what each slot has

abbrev givens : (ℕ → Option Datum) → ℕ → List (Option Datum)
givens at n = map at (slots_from 1 n)

givens_more : (at : ℕ → Option Datum) (n : ℕ) → givens at (n + 1) ≡ givens at n ++ at (n + 1) ∷ []
givens_more at n =
    ap (givens at) {x = n + 1} {y = suc n} (omega arith) ∙ ap (map at) (slots_more 1 n) ∙ map-append at (slots_from 1 n) ((1 + n) ∷ [])
    ∙ ap (λ (k : ℕ). givens at n ++ at k ∷ []) {x = 1 + n} {y = n + 1} (omega arith)

-- one more value
pub with_some : {V : Type 0} (datum : V → Datum) (at : ℕ → Option Datum) (n : ℕ) (items new : List V) (value : V)
    → map Some (map datum items) ≡ map at (slots_from 1 n) → Some (datum value) ≡ at (n + 1) → new ≡ items ++ value ∷ []
    → map Some (map datum new) ≡ map at (slots_from 1 (n + 1))
with_some datum at n items new value so_far given more =
    ap (λ t. map Some (map datum t)) more ∙ ap (map Some) (map-append datum items (value ∷ []))
    ∙ map-append Some (map datum items) (datum value ∷ [])
    ∙ ap (λ (t : List (Option Datum)). t ++ Some (datum value) ∷ []) so_far
    ∙ ap (λ (d : Option Datum). givens at n ++ d ∷ []) given ∙ sym (givens_more at n)

-- one more, which may be missing
pub with_next : {V : Type 0} (found : V → Option Datum) (at : ℕ → Option Datum) (n : ℕ) (items new : List V) (value : V)
    → map found items ≡ map at (slots_from 1 n) → found value ≡ at (n + 1) → new ≡ items ++ value ∷ []
    → map found new ≡ map at (slots_from 1 (n + 1))
with_next found at n items new value so_far given more =
    ap (map found) more ∙ map-append found items (value ∷ []) ∙ ap (λ (t : List (Option Datum)). t ++ found value ∷ []) so_far
    ∙ ap (λ (d : Option Datum). givens at n ++ d ∷ []) given ∙ sym (givens_more at n)
