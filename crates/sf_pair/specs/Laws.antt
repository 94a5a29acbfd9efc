-- What a checked pair promises.
use Rattle.std.specs.Prelude.{ℕ, ◌+◌, ◌≡◌, ◌<◌, ◌≤◌, false, List, [], ◌∷◌, ◌++◌, length, Option, Some, None, IsSome}
use Rattle.std.specs.List.{filter_map, count_by}
use Rattle.sf_base.specs.Data.{Datum, Assigned}
use Rattle.sf_format.specs.declared.unit.Unit.{Unit as PrintUnit}
use Rattle.sf_format.specs.declared.unit.Unit.TheVariants as unit
use Rattle.sf_format.specs.declared.directive.Conversion.{Conversion}
use Rattle.sf_format.specs.declared.directive.Directive.{Directive}
use Rattle.sf_format.specs.declared.unit.PrintConv.{PrintConv}
use Rattle.sf_format.specs.Units.{AreAccepted, values_of}
use Rattle.sf_format.specs.Proper.{IsAccepted, destinations_of, has_optional, may_miss}
use Rattle.sf_base.specs.stores.Kept.{texts_in}
use Rattle.sf_print.specs.Printed.{value_at, printed}
use Rattle.sf_report.specs.declared.outcome.Ending.{Ending}
use Rattle.sf_report.specs.declared.outcome.Ending.TheVariants.{End}
use Rattle.sf_report.specs.declared.outcome.Status.TheVariants.{Done, InputFailure}
use Rattle.sf_report.specs.Runs.{RunReport, Run, is_conversion}
use Rattle.sf_report.specs.Limits.{RunWithin, RunTold}
use Rattle.sf_report.specs.Rows.{AreRowOf}
use Rattle.sf_format.specs.Widths.{width_sum}
use Rattle.sf_format.specs.declared.directive.Directive.TheVariants as directive
use Rattle.sf_print.specs.texts.Text.{value_text}
use Rattle.sf_report.specs.Steps.{StepEnd, Step}
use Rattle.sf_pair.specs.declared.fault.PairWhy.TheVariants as why
use Rattle.sf_pair.specs.declared.fault.PairFault.{PairFault}
use Rattle.sf_pair.specs.conversions.Neighbours.{is_spare}
use Rattle.sf_pair.specs.Walk.{pair_fault}
use Rattle.sf_pair.specs.Groups.{IsGroup, IsAligned, next_of}
use Rattle.sf_pair.specs.Fits.{Fit, ValueFits}

-- the values of the print conversions, in their order
abbrev pub with_value : ℕ → Option Datum → Option Assigned
with_value slot None = None
with_value slot (Some v) = Some (record { slot = slot; datum = v })

abbrev pub printed_value : List Datum → PrintUnit → Option Assigned
printed_value values (unit.Byte b) = None
printed_value values (unit.Conv c) = with_value c.slot (value_at values c.slot)

abbrev pub printed_values : List PrintUnit → List Datum → List Assigned
printed_values us values = filter_map (printed_value values) us

-- Done at 0, with as many bytes as the text has, nothing met, every slot assigned, and the values
abbrev pub read_back : List PrintUnit → List Directive → List Datum → RunReport
read_back us ds values = record {
  status = Done;
  at = 0;
  assigned = length (values_of us);
  converted = count_by is_conversion ds;
  used = length (printed us values);
  met = None;
  values = printed_values us values;
}

-- the scan of a printed text, whatever follows it and however that ends, takes just that text and gives the values
abbrev pub RoundTrip : Type 0
RoundTrip = (us : List PrintUnit) (ds : List Directive) → AreAccepted us → IsAccepted ds → IsAligned us ds
    → (values : List Datum) → Fit us ds values → (z : List ℕ) (ending : Ending)
    → Run ds (printed us values ++ z) ending (read_back us ds values)

-- within a limit that the text keeps to, no other report is given of it, whatever follows
abbrev pub ReadWithin : Type 0
ReadWithin = (us : List PrintUnit) (ds : List Directive) → AreAccepted us → IsAccepted ds → IsAligned us ds
    → (values : List Datum) → Fit us ds values → (m : ℕ) → length (printed us values) ≤ m
    → (z : List ℕ) (ending : Ending) (report : RunReport)
    → RunWithin ds m (printed us values ++ z) ending report → report ≡ read_back us ds values

-- the texts that a scan of an aligned format stores are bounded
abbrev pub AlignedIsBounded : Type 0
AlignedIsBounded = (us : List PrintUnit) (ds : List Directive) → IsAccepted ds → IsAligned us ds → IsSome (width_sum ds)

-- no directive of an aligned scan format may be missing
abbrev pub AlignedIsWhole : Type 0
AlignedIsWhole = (us : List PrintUnit) (ds : List Directive) → IsAligned us ds → has_optional ds ≡ false

-- nor may any of its slots
abbrev pub AlignedMissesNone : Type 0
AlignedMissesNone = (us : List PrintUnit) (ds : List Directive) → IsAligned us ds → (slot : ℕ) → may_miss slot ds ≡ false

-- no text that is printed of values that fit is empty
abbrev pub PrintsSome : Type 0
PrintsSome = (us : List PrintUnit) (ds : List Directive) → AreAccepted us → IsAccepted ds → IsAligned us ds
    → (values : List Datum) → Fit us ds values → 0 < length (printed us values)

-- on the empty input a run meets the end, which is an input failure before any conversion has completed
pub record EndsOnNothing (ds : List Directive) : Type 0 where
  pub report : RunReport
  pub run : Run ds [] End report
  pub status : report.status ≡ InputFailure
  pub converted : report.converted ≡ 0
  pub used : report.used ≡ 0
  pub met : report.met ≡ Some End

abbrev pub AlignedEndsOnNothing : Type 0
AlignedEndsOnNothing = (us : List PrintUnit) (ds : List Directive) → IsAccepted ds → IsAligned us ds → EndsOnNothing ds

-- slot by slot, what is read back are the values; the formats have as many slots
pub record SlotsAgree (us : List PrintUnit) (ds : List Directive) (values : List Datum) : Type 0 where
  pub row : AreRowOf (length values) values (read_back us ds values).values
  pub count : length values ≡ length (destinations_of ds)

abbrev pub AlignedSlotsAgree : Type 0
AlignedSlotsAgree = (us : List PrintUnit) (ds : List Directive) → AreAccepted us → IsAccepted ds → IsAligned us ds
    → (values : List Datum) → Fit us ds values → SlotsAgree us ds values

-- the texts that a report holds have together at most as many bytes as the widths
abbrev pub HeldIsBounded : Type 0
HeldIsBounded = (ds : List Directive) (m : ℕ) (x : List ℕ) (ending : Ending) (report : RunReport) → RunTold ds m x ending report
    → (n : ℕ) → width_sum ds ≡ Some n → length (texts_in report.values) ≤ n

-- ---- refusals

-- the units are cut so that each of these directives has its group, and `left` is what is left where `after` come next
abbrev pub Leaves : List Directive → List Directive → List PrintUnit → List PrintUnit → Type 0
Leaves [] after us left = us ≡ left
Leaves (d ∷ ds) after us left = (group : List PrintUnit) × (rest : List PrintUnit) × (us ≡ group ++ rest)
    × IsGroup d group rest (next_of (ds ++ after)) × Leaves ds after rest left

-- the directive d has this number, from 1; those before it have their groups, and these units are left for it
pub record StopsAt (us : List PrintUnit) (ds : List Directive) (at : ℕ) (d : Directive) (left : List PrintUnit) : Type 0 where
  pub before : List Directive
  pub after : List Directive
  pub directives : ds ≡ before ++ d ∷ after
  pub taken : Leaves before (d ∷ after) us left
  pub place : at ≡ length before + 1

-- that is one directive, and one list of units
abbrev pub EachStopIsOne : Type 0
EachStopIsOne = (us : List PrintUnit) (ds : List Directive) (at : ℕ) (d e : Directive) (left other : List PrintUnit)
    → StopsAt us ds at d left → StopsAt us ds at e other → (d ≡ e) × (left ≡ other)

-- after the text u, the step of the directive takes the byte b too
abbrev pub TakesToo : Directive → List ℕ → ℕ → Type 0
TakesToo d u b = (n : ℕ) → (end : StepEnd) × Step d (u ++ b ∷ []) n (length u + 1) end

-- after the text of some value that fits, the conversion that reads it takes b too
abbrev pub TakesInto : PrintConv → Conversion → ℕ → Type 0
TakesInto c s b = (v : Datum) × ValueFits c s v × TakesToo (directive.Conv s) (value_text c v) b

-- the text that a group prints: that of a value that fits, or its white space
abbrev pub GroupText : Directive → List PrintUnit → List ℕ → Type 0
GroupText (directive.Conv s) (unit.Conv c ∷ us) u = (v : Datum) × ValueFits c s v × (u ≡ value_text c v)
GroupText directive.Space us u = u ≡ printed us []
GroupText _ us u = ⊥

-- some byte that follows some text of the group is taken too
abbrev pub RunsPast : Directive → List PrintUnit → Type 0
RunsPast d group = (u : List ℕ) × (b : ℕ) × (b < 256) × GroupText d group u × TakesToo d u b

-- some byte after some text of the units that are left is taken too
abbrev pub IsOpenAt : List PrintUnit → List Directive → ℕ → Type 0
IsOpenAt us ds at = (d : Directive) × (left : List PrintUnit) × StopsAt us ds at d left × RunsPast d left

-- where an open end is reported, what is printed there is read on into what may follow
abbrev pub OpenEndsAreOpen : Type 0
OpenEndsAreOpen = (us : List PrintUnit) (ds : List Directive) → AreAccepted us → IsAccepted ds → (f : PairFault) → pair_fault us ds ≡ Some f
    → f.why ≡ why.OpenEnd → IsOpenAt us ds f.at

-- a byte that isn't refused for safety alone: after a float with `#` the check refuses `.`, `x` and `X`, and after one with zeros in
-- front `x` and `X`, though no text of it goes on so
abbrev pub MayGoOn : PrintConv → Conversion → ℕ → Type 0
MayGoOn c s b = is_spare s.shape c b ≡ false

-- a literal that follows a conversion is taken too, after the text of some value that fits, where a text may go on with it; what
-- else follows is left out
abbrev pub RunsInto : Directive → List PrintUnit → Type 0
RunsInto (directive.Conv s) (unit.Conv c ∷ unit.Byte b ∷ us) = MayGoOn c s b → TakesInto c s b
RunsInto _ us = Unit {0}

-- where the walk stops, the literal that follows there, if one does, is taken too
abbrev pub IsRunInto : List PrintUnit → List Directive → ℕ → Type 0
IsRunInto us ds at = (d : Directive) × (left : List PrintUnit) × StopsAt us ds at d left × RunsInto d left

-- where the report is that an item runs on and a literal follows, it does run on into that literal
abbrev pub LiteralsAreRunInto : Type 0
LiteralsAreRunInto = (us : List PrintUnit) (ds : List Directive) → AreAccepted us → IsAccepted ds → (f : PairFault)
    → pair_fault us ds ≡ Some f
    → f.why ≡ why.RunsOn → IsRunInto us ds f.at
