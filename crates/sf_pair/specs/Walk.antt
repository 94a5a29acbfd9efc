-- The first fault of a pair, in a walk over both lists from the left.
use Rattle.std.specs.Prelude.{ℕ, ◌+◌, ◌≡◌, ◌↔◌, if◌then◌else◌, List, [], ◌∷◌, Option, Some, None, is_some, Result, Ok, Err}
use Rattle.std.specs.List.{list_any}
use Rattle.sf_base.specs.Bytes.{is_white}
use Rattle.sf_format.specs.declared.unit.Unit.{Unit as PrintUnit}
use Rattle.sf_format.specs.declared.unit.Unit.TheVariants as unit
use Rattle.sf_format.specs.declared.directive.Conversion.{Conversion}
use Rattle.sf_format.specs.declared.directive.Directive.{Directive}
use Rattle.sf_format.specs.declared.directive.Directive.TheVariants as directive
use Rattle.sf_pair.specs.declared.fault.PairWhy.{PairWhy}
use Rattle.sf_pair.specs.declared.fault.PairWhy.TheVariants as why
use Rattle.sf_pair.specs.declared.fault.PairFault.{PairFault}
use Rattle.sf_pair.specs.conversions.Neighbours.{Bytes, only, reads}
use Rattle.sf_pair.specs.Groups.{pairing_fault, closing_fault, starts_with_space, space_fault, suppressed_by, is_count, next_of, assigns}
use Rattle.sf_pair.specs.Groups.{IsAligned}

-- ---- one directive and the units that are left: what it leaves of them, or why it is refused

abbrev pub Left : Type 0
Left = Result (List PrintUnit) PairWhy

abbrev pub leaves : Option PairWhy → List PrintUnit → Left
leaves None rest = Ok rest
leaves (Some w) rest = Err w

-- the first fault counts
abbrev pub unless : Option PairWhy → Left → Left
unless None left = left
unless (Some w) left = Err w

abbrev pub take_literal : Bytes → List PrintUnit → Left
take_literal wanted (unit.Byte b ∷ us) = if wanted b then Ok us else Err why.NotAligned
take_literal wanted _ = Err why.NotAligned

-- the units after the white-space literals that stand first
abbrev pub after_space : List PrintUnit → List PrintUnit
after_space [] = []
after_space (unit.Byte b ∷ us) = if is_white b then after_space us else unit.Byte b ∷ us
after_space (unit.Conv c ∷ us) = unit.Conv c ∷ us

abbrev pub take_space : List PrintUnit → Option Directive → Left
take_space us next = if starts_with_space us then leaves (space_fault (after_space us) (reads next))
    (after_space us) else Err why.NotAligned

abbrev pub take_paired : Conversion → List PrintUnit → Option Directive → Left
take_paired s (unit.Conv c ∷ us) next = unless (pairing_fault c s) (leaves (closing_fault c s us (reads next)) us)
take_paired s _ next = Err why.NotAligned

abbrev pub take_conversion : Conversion → List PrintUnit → Option Directive → Left
take_conversion s us next = if is_count s.shape then Err why.NotWritten
    else (if s.optional then Err why.MayBeMissing
    else (if is_some s.slot then take_paired s us next else take_literal (suppressed_by s) us))

abbrev pub take_group : Directive → List PrintUnit → Option Directive → Left
take_group directive.Space us next = take_space us next
take_group (directive.Byte b) us next = take_literal (only b) us
take_group directive.Percent us next = take_literal (only 37) us
take_group (directive.Conv s) us next = take_conversion s us next
take_group (directive.Opens o) us next = Err why.MayBeMissing

-- ---- the first fault, at the n-th directive and those after it

abbrev pub fault : ℕ → PairWhy → PairFault
fault at w = record { at = at; why = w }

-- at the end of the directives, counted one after the last
abbrev pub ending_fault : ℕ → List PrintUnit → Option PairFault
ending_fault n [] = None
ending_fault n (u ∷ us) = Some (fault n why.NotAligned)

abbrev pub fault_after : (List PrintUnit → Option PairFault) → ℕ → Left → Option PairFault
fault_after later n (Ok rest) = later rest
fault_after later n (Err w) = Some (fault n w)

abbrev pub fault_from : ℕ → List Directive → List PrintUnit → Option PairFault
fault_from n [] us = ending_fault n us
fault_from n (d ∷ ds) us = fault_after (λ rest. fault_from (n + 1) ds rest) n (take_group d us (next_of ds))

abbrev pub values_fault : List Directive → Option PairFault
values_fault ds = if list_any assigns ds then None else Some (fault 0 why.NoValues)

abbrev pub first_fault : Option PairFault → Option PairFault → Option PairFault
first_fault None later = later
first_fault (Some f) later = Some f

abbrev pub pair_fault : List PrintUnit → List Directive → Option PairFault
pair_fault us ds = first_fault (fault_from 1 ds us) (values_fault ds)

-- no fault is found exactly where the lists are aligned
abbrev pub AlignedIsAccepted : Type 0
AlignedIsAccepted = (us : List PrintUnit) (ds : List Directive) → pair_fault us ds ≡ None ↔ IsAligned us ds
