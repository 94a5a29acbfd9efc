-- What rows are made of, where values may be missing.
use Rattle.std.specs.Prelude.{◌≡◌, ℕ, Bool, true, false, List, Option, Some, None, IfSome}
use Rattle.std.specs.List.{filter_map}
use Rattle.std.specs.Option.{option_map}
use Rattle.sf_base.specs.declared.values.Kind.{Kind}
use Rattle.sf_base.specs.Data.{Datum, Assigned, datum_at, kind_of}
use Rattle.sf_report.specs.Rows.{IsReadable, at_slot, given_to}

-- a slot of this kind was given something of its kind; or nothing, where it may be missing
abbrev pub IsGivenAs : Bool → Option Kind → Option Datum → Type 0
IsGivenAs false kind given = option_map kind_of given ≡ kind
IsGivenAs true kind given = IfSome given (λ v. Some (kind_of v) ≡ kind)

-- each slot of these kinds was given something of its kind, or nothing where it may be missing; no other slot was given anything; floats
-- are patterns
abbrev pub AreGivenAs : List Kind → (ℕ → Bool) → List Assigned → Type 0
AreGivenAs kinds optional values =
    (slot : ℕ) → IsGivenAs (optional slot) (at_slot slot kinds) (datum_at slot values) × IfSome (datum_at slot values) IsReadable

-- the slot's answer, of a list whose first place is slot 1
abbrev pub is_at : List Bool → ℕ → Bool
is_at answers slot = elim (at_slot slot answers) [ None ↦ false | Some answer ↦ answer ]

-- the values that are there
abbrev pub present : List (Option Datum) → List Datum
present given = filter_map (λ o. o) given

-- a row with these in its slots is that of the values: a value where the slot was given one, and none where it was given nothing
abbrev pub AreSlotsOf : ℕ → List (Option Datum) → List Assigned → Type 0
AreSlotsOf n row values = row ≡ given_to n values

-- what each slot of a row holds, by the values that the row lists
abbrev pub slots_by : {T : Type 0} → (T → List Datum → List (Option Datum)) → (T → List Datum) → T → List (Option Datum)
slots_by given listed row = given row (listed row)
