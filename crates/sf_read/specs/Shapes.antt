-- How the slots of a row differ from the destinations of a format.
use Rattle.std.specs.Prelude.{◌≡◌, ◌≢◌, ◌≤◌, ◌<◌, ℕ, Bool, true, false, List, length, Some}
use Rattle.sf_base.specs.declared.values.Kind.{Kind}
use Rattle.sf_format.specs.declared.directive.Directive.{Directive}
use Rattle.sf_format.specs.Proper.{destinations_of, kind_at, may_miss}
use Rattle.sf_run.specs.Rows.{at_slot}
use Rattle.sf_read.specs.declared.shape.ShapeFault.{ShapeFault}
use Rattle.sf_read.specs.declared.shape.ShapeFault.TheVariants.{Count, Kinds, Missing}

-- the fault names this slot, and its kind in the format and in the row
abbrev pub IsKindsAt : List Kind → List Directive → ℕ → ShapeFault → Type 0
IsKindsAt kinds ds slot (Kinds at format row) = (at ≡ slot) × (kind_at slot ds ≡ Some format) × (at_slot slot kinds ≡ Some row)
IsKindsAt kinds ds slot _ = ⊥

-- the fault names the first slot that the format may leave without a value, and the row not
abbrev pub IsMissing : (ℕ → Bool) → List Directive → ShapeFault → Type 0
IsMissing optional ds (Missing slot) = (may_miss slot ds ≡ true) × (optional slot ≡ false)
    × ((before : ℕ) → 1 ≤ before → before < slot → may_miss before ds ≡ true → optional before ≡ true)
IsMissing optional ds _ = ⊥

-- How the row first differs: in how many slots there are; else in the kind of a slot; else by a slot without a value.
abbrev pub IsDifference : List Kind → (ℕ → Bool) → List Directive → ShapeFault → Type 0
IsDifference kinds optional ds (Count format row) =
    (format ≡ length (destinations_of ds)) × (row ≡ length kinds) × (row ≢ format)
IsDifference kinds optional ds (Kinds slot format row) =
    (length kinds ≡ length (destinations_of ds)) × IsKindsAt kinds ds slot (Kinds slot format row) × (row ≢ format)
    × ((before : ℕ) → 1 ≤ before → before < slot → at_slot before kinds ≡ kind_at before ds)
IsDifference kinds optional ds (Missing slot) =
    (length kinds ≡ length (destinations_of ds)) × ((at : ℕ) → at_slot at kinds ≡ kind_at at ds)
    × IsMissing optional ds (Missing slot)
