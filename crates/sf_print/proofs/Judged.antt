-- What is refused before anything is written is no fault of the sink; values of slots.
use Rattle.std.proofs.Common.{◌≡◌, ℕ, Bool, true, false, cond, not, ◌==◌, nat_le, List, [], ◌∷◌, length, fold, refl, Option, Some, None, Ok}
use Rattle.std.proofs.Common.{Err}
use Rattle.sf_base.specs.Data.{Datum}
use Rattle.sf_base.specs.declared.values.Kind.{Kind}
use Rattle.sf_base.specs.declared.values.Kind.TheVariants as kind
use Rattle.sf_format.specs.declared.unit.PrintConv.{PrintConv}
use Rattle.sf_format.specs.declared.unit.Unit.{Unit as PrintUnit}
use Rattle.sf_format.specs.declared.unit.Unit.TheVariants as unit
use Rattle.sf_format.specs.Units.{values_of}
use Rattle.sf_print.specs.declared.fault.PrintFault.{PrintFault}
use Rattle.sf_print.specs.Given.{fault_of_given, given_at, given_fault, given_measured, given_printed, lowest_given_fault}
use Rattle.sf_print.specs.declared.fault.PrintFault.TheVariants as fault
use Rattle.sf_print.specs.Printed.{value_at, printed, value_fault, fault_or_none, unit_fault, lower, slot_of, lowest_fault, most_bytes}
use Rattle.sf_print.specs.Printed.{length_or_fault, measured, is_sink_fault, same_kind, is_printed_as, kind_of, suits}

-- a value of the kind that is due
pub same_is_printed : (k due : Kind) → same_kind k due ≡ true → is_printed_as k due ≡ true
same_is_printed kind.F32 kind.F64 e = refl
same_is_printed kind.F32 _ e = e
same_is_printed _ due e = e

is_of_sink : Option PrintFault → Bool
is_of_sink None = false
is_of_sink (Some f) = is_sink_fault (Err f)

lower_kept : (a b : Option PrintFault) → is_of_sink a ≡ false → is_of_sink b ≡ false → is_of_sink (lower a b) ≡ false
unfolding is_of_sink
lower_kept None b h k = k
lower_kept (Some f) None h k = h
lower_kept (Some f) (Some g) h k = by (nat_le (slot_of f) (slot_of g))
  where
    by : (t : Bool) → is_of_sink (cond t (Some f) (Some g)) ≡ false
    by true = h
    by false = k

value_kept : (c : PrintConv) (value : Datum) → is_of_sink (value_fault c value) ≡ false
unfolding is_of_sink
value_kept c value = by (not (is_printed_as (kind_of value) c.kind)) (not (suits c.letter value))
  where
    by : (s t : Bool) → is_of_sink (cond s (Some (fault.WrongKind c.slot)) (cond t (Some (fault.NotOneByte c.slot)) None)) ≡ false
    by true t = refl
    by false true = refl
    by false false = refl

some_kept : (c : PrintConv) (value : Option Datum) → is_of_sink (fault_or_none c value) ≡ false
unfolding is_of_sink
some_kept c None = refl
some_kept c (Some value) = value_kept c value

unit_kept : (values : List Datum) (u : PrintUnit) → is_of_sink (unit_fault values u) ≡ false
unfolding is_of_sink
unit_kept values (unit.Byte b) = refl
unit_kept values (unit.Conv c) = some_kept c (value_at values c.slot)

fold_kept : (values : List Datum) (units : List PrintUnit) (f : Option PrintFault) → is_of_sink f ≡ false
    → is_of_sink (fold (λ g u. lower g (unit_fault values u)) f units) ≡ false
fold_kept values [] f h = h
fold_kept values (u ∷ us) f h = fold_kept values us (lower f (unit_fault values u))
    (lower_kept f (unit_fault values u) h (unit_kept values u))

length_kept : (f : Option PrintFault) (len : ℕ) → is_of_sink f ≡ false → is_sink_fault (length_or_fault f len) ≡ false
unfolding is_of_sink
length_kept (Some f) len h = h
length_kept None len h = by (nat_le len most_bytes)
  where
    by : (t : Bool) → is_sink_fault (cond t (Ok len) (Err fault.TooLong)) ≡ false
    by true = refl
    by false = refl

pub measured_kept : (units : List PrintUnit) (values : List Datum) → is_sink_fault (measured units values) ≡ false
unfolding is_of_sink
measured_kept units values = by (not (length values == length (values_of units)))
  where
    by : (t : Bool) → is_sink_fault (cond t (Err fault.WrongCount)
        (length_or_fault (lowest_fault units values) (length (printed units values)))) ≡ false
    by true = refl
    by false = length_kept (lowest_fault units values) (length (printed units values)) (fold_kept values units None refl)

-- ---- values of which some may be missing

given_kept : (given : List (Option Datum)) (u : PrintUnit) → is_of_sink (given_fault given u) ≡ false
unfolding is_of_sink
given_kept given (unit.Byte b) = refl
given_kept given (unit.Conv c) = by (given_at given c.slot)
  where
    by : (found : Option (Option Datum)) → is_of_sink (fault_of_given c found) ≡ false
    by None = refl
    by (Some one) = some_kept c one

all_given_kept : (given : List (Option Datum)) (units : List PrintUnit) (f : Option PrintFault) → is_of_sink f ≡ false
    → is_of_sink (fold (λ g u. lower g (given_fault given u)) f units) ≡ false
all_given_kept given [] f h = h
all_given_kept given (u ∷ us) f h = all_given_kept given us (lower f (given_fault given u))
    (lower_kept f (given_fault given u) h (given_kept given u))

pub given_measured_kept : (units : List PrintUnit) (given : List (Option Datum)) → is_sink_fault (given_measured units given) ≡ false
unfolding is_of_sink
given_measured_kept units given = by (not (length given == length (values_of units)))
  where
    by : (t : Bool) → is_sink_fault (cond t (Err fault.WrongCount)
        (length_or_fault (lowest_given_fault units given) (length (given_printed units given)))) ≡ false
    by true = refl
    by false = length_kept (lowest_given_fault units given) (length (given_printed units given)) (all_given_kept given units None refl)
