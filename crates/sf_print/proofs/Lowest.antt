-- The fault of the lowest slot.
use Rattle.std.proofs.Common.{◌≡◌, ℕ, ◌≤◌, ◌⊎◌, inl, inr, ap, Bool, true, false, cond, nat_le, List, [], ◌∷◌, fold, refl, arith, Option}
use Rattle.std.proofs.Common.{Some, None, IfSome}
use Rattle.std.proofs.lemmas.Bool.{leb-true, leb-false}
use Rattle.std.specs.List.{AllByRecursion}
use Rattle.sf_base.specs.Data.{Datum}
use Rattle.sf_format.specs.declared.unit.Unit.{Unit as PrintUnit}
use Rattle.sf_print.specs.declared.fault.PrintFault.{PrintFault}
use Rattle.sf_print.specs.Printed.{unit_fault, slot_of, lower}
use Rattle.sf_print.specs.Laws.{HasFault, NoneIsLower, LowestIsTold}

abbrev AtLeast : PrintFault → Option PrintFault → Type 0
AtLeast f o = IfSome o (λ g. slot_of f ≤ slot_of g)

-- below the lower one of two is below both
both : (f : PrintFault) (a b : Option PrintFault) → AtLeast f (lower a b) → AtLeast f a × AtLeast f b
both f None None h = (tt, tt)
both f None (Some g) h = (tt, h)
both f (Some g) None h = (h, tt)
both f (Some g) (Some k) h = by (nat_le (slot_of g) (slot_of k)) refl h
  where
    by : (t : Bool) → nat_le (slot_of g) (slot_of k) ≡ t → AtLeast f (cond t (Some g) (Some k)) → AtLeast f (Some g) × AtLeast f (Some k)
    by true e l = (l, omega (arith, leb-true _ _ e))
    by false e l = (omega (arith, leb-false _ _ e), l)

either_of : (f : PrintFault) (a b : Option PrintFault) → lower a b ≡ Some f → (a ≡ Some f) ⊎ (b ≡ Some f)
either_of f None b e = inr e
either_of f (Some g) None e = inl e
either_of f (Some g) (Some k) e = by (nat_le (slot_of g) (slot_of k)) e
  where
    by : (t : Bool) → cond t (Some g) (Some k) ≡ Some f → (Some g ≡ Some f) ⊎ (Some k ≡ Some f)
    by true h = inl h
    by false h = inr h

neither : (a b : Option PrintFault) → lower a b ≡ None → (a ≡ None) × (b ≡ None)
neither None b e = (refl, e)
neither (Some g) None e = absurd cc
neither (Some g) (Some k) e = by (nat_le (slot_of g) (slot_of k)) e
  where
    by : (t : Bool) → cond t (Some g) (Some k) ≡ None → (Some g ≡ None) × (Some k ≡ None)
    by true h = absurd cc
    by false h = absurd cc

abbrev slot_or : Option PrintFault → ℕ
slot_or None = 0
slot_or (Some g) = slot_of g

least_of : (values : List Datum) (us : List PrintUnit) (a : Option PrintFault) (f : PrintFault)
    → fold (λ g u. lower g (unit_fault values u)) a us ≡ Some f → AtLeast f a × NoneIsLower values f us
least_of values [] None f e = absurd cc
least_of values [] (Some g) f e = let s : slot_of g ≡ slot_of f = ap (λ o. slot_or o) e in (omega arith, tt)
least_of values (u ∷ us) a f e =
    let rest = least_of values us (lower a (unit_fault values u)) f e in
    let two = both f a (unit_fault values u) rest.0 in
    (two.0, (two.1, rest.1))

found_in : (values : List Datum) (us : List PrintUnit) (a : Option PrintFault) (f : PrintFault)
    → fold (λ g u. lower g (unit_fault values u)) a us ≡ Some f → (a ≡ Some f) ⊎ HasFault values f us
found_in values [] a f e = inl e
found_in values (u ∷ us) a f e =
    elim (found_in values us (lower a (unit_fault values u)) f e) [
      | inl h ↦ elim (either_of f a (unit_fault values u) h) [ inl k ↦ inl k | inr k ↦ inr (inl k) ]
      | inr h ↦ inr (inr h)
    ]

none_in : (values : List Datum) (us : List PrintUnit) (a : Option PrintFault) → fold (λ g u. lower g (unit_fault values u)) a us ≡ None
    → (a ≡ None) × AllByRecursion (λ u. unit_fault values u ≡ None) us
none_in values [] a e = (e, tt)
none_in values (u ∷ us) a e =
    let rest = none_in values us (lower a (unit_fault values u)) e in
    let two = neither a (unit_fault values u) rest.0 in
    (two.0, (two.1, rest.1))

pub lowest_is_told : LowestIsTold
lowest_is_told units values = (
  λ f e. (elim (found_in values units None f e) [ inl h ↦ absurd cc | inr h ↦ h ], (least_of values units None f e).1),
  λ e. (none_in values units None e).1,
)
