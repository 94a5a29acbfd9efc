-- What the fault of the lowest slot is, by what it is and not by how it is found.
use Rattle.std.specs.Prelude.{◌≡◌, ◌≤◌, ◌⊎◌, List, [], ◌∷◌, Some, None, IfSome}
use Rattle.std.specs.List.{AllByRecursion}
use Rattle.sf_base.specs.Data.{Datum}
use Rattle.sf_format.specs.declared.unit.Unit.{Unit as PrintUnit}
use Rattle.sf_print.specs.declared.fault.PrintFault.{PrintFault}
use Rattle.sf_print.specs.Printed.{unit_fault, slot_of, lowest_fault}

-- one of the units has the fault
abbrev pub HasFault : List Datum → PrintFault → List PrintUnit → Type 0
HasFault values f [] = ⊥
HasFault values f (u ∷ us) = (unit_fault values u ≡ Some f) ⊎ HasFault values f us

-- no unit has a fault of a lower slot
abbrev pub NoneIsLower : List Datum → PrintFault → List PrintUnit → Type 0
NoneIsLower values f us = AllByRecursion (λ u. IfSome (unit_fault values u) (λ g. slot_of f ≤ slot_of g)) us

-- where there is a fault, that of the lowest slot is reported, and none only where there is none
abbrev pub LowestIsTold : Type 0
LowestIsTold = (units : List PrintUnit) (values : List Datum) →
    ((f : PrintFault) → lowest_fault units values ≡ Some f → HasFault values f units × NoneIsLower values f units)
    × (lowest_fault units values ≡ None → AllByRecursion (λ u. unit_fault values u ≡ None) units)
