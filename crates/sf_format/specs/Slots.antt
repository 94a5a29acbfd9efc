-- Slots with their kinds: the destinations of a scan format, the values of a print format.
use Rattle.std.specs.Prelude.{◌≢◌, ℕ, zero, suc, ◌+◌, ◌≤◌, nat_eq, List, [], ◌∷◌, length, map, find, Option, Some, None, if◌then◌else◌}
use Rattle.std.specs.List.{AllByRecursion}
use Rattle.std.specs.Option.{option_map}
use Rattle.sf_base.specs.declared.values.Kind.{Kind}
use Rattle.sf_format.specs.Digits.{optional_number}
use Rattle.sf_format.specs.Pieces.{Opening}

-- a slot, and what kind it has
abbrev pub Slotted : Type 0
Slotted = ℕ × Kind

-- the kind of the slot
abbrev pub kind_with : ℕ → List Slotted → Option Kind
kind_with slot entries = option_map (λ e. e.1) (find (λ e. nat_eq e.0 slot) entries)

-- so many slots, one after the other from the place on
abbrev pub slots_from : ℕ → ℕ → List ℕ
slots_from place zero = []
slots_from place (suc n) = place ∷ slots_from (place + 1) n

-- no two of the numbers are the same
abbrev pub AreDistinct : List ℕ → Type 0
AreDistinct [] = Unit {0}
AreDistinct (n ∷ ns) = AllByRecursion (λ m. m ≢ n) ns × AreDistinct ns

-- the slots are the numbers from 1 to their count, each once
pub record AreSlots (entries : List Slotted) : Type 0 where
  pub each : AllByRecursion (λ n. (1 ≤ n) × (n ≤ length entries)) (map (λ e. e.0) entries)
  pub distinct : AreDistinct (map (λ e. e.0) entries)

-- the slot of a conversion, where place is that of the next one without a number
abbrev pub slot_of : ℕ → Opening → Option ℕ
slot_of place o =
    if o.star then None else (elim (optional_number o.number) [ None ↦ Some place | Some n ↦ Some n ])
