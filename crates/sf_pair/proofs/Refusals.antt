-- What is refused for what follows a group would be read on into it.
use Rattle.std.proofs.Common.{◌≡◌, ℕ, suc, ◌+◌, Bool, true, false, cond, ◌&&◌, List, [], ◌∷◌, ◌++◌, length, Option, Some, None, Err, refl}
use Rattle.std.proofs.Common.{sym, ap, subst, ◌∙◌, arith, lit≤, append-nil}
use Rattle.sf_base.specs.Bytes.{is_white}
use Rattle.sf_format.specs.declared.directive.Conversion.{Conversion}
use Rattle.sf_format.specs.declared.directive.Directive.{Directive}
use Rattle.sf_format.specs.declared.directive.Directive.TheVariants as directive
use Rattle.sf_format.specs.declared.unit.PrintConv.{PrintConv}
use Rattle.sf_format.specs.declared.unit.Unit.{Unit as PrintUnit}
use Rattle.sf_format.specs.declared.unit.Unit.TheVariants as unit
use Rattle.sf_format.specs.Units.{IsProperConv, AreProperUnits}
use Rattle.sf_format.specs.Proper.{IsSized, IsProper}
use Rattle.sf_print.specs.Printed.{printed}
use Rattle.sf_report.specs.Steps.{Passes, Step}
use Rattle.sf_report.specs.Computed.{skip}
use Rattle.sf_pair.specs.conversions.Below.{LawsBelow}
use Rattle.sf_pair.specs.declared.fault.PairWhy.TheVariants as why
use Rattle.sf_pair.specs.conversions.Neighbours.{only, meet, first_by, reads, stop_set}
use Rattle.sf_pair.specs.Groups.{always_full, is_closed, follow_fault, closing_fault, keeps_space, AreSpace, starts_with_space}
use Rattle.sf_pair.specs.Groups.{space_fault, pairing_fault, next_of}
use Rattle.sf_pair.specs.Walk.{leaves, after_space, take_space, take_group}
use Rattle.sf_pair.specs.Laws.{RunsPast, RunsInto, OpenEndsAreOpen, LiteralsAreRunInto}
use Rattle.sf_pair.proofs.Cutting.{space_front}
use Rattle.sf_pair.proofs.ConversionLemmas.Meets.{met_by}
use Rattle.sf_pair.proofs.Paired.{or_none, pairs}
use Rattle.sf_pair.proofs.Into.{runs_into, runs_past}
use Rattle.sf_pair.proofs.Stops.{follows, literal_never, unclosed, stops_by, stops_at}

-- ---- white space

space_skipped : (us : List PrintUnit) → AreSpace us → skip (printed us [] ++ 32 ∷ []) ≡ length (printed us []) + 1
space_skipped [] h = refl
space_skipped (unit.Byte b ∷ us) h = ap (λ (t : Bool). cond t (suc (skip (printed us [] ++ 32 ∷ []))) 0) h.0
    ∙ (let e = space_skipped us h.1 in omega (arith, e))
space_skipped (unit.Conv c ∷ us) h = absurd h

space_runs_past : LawsBelow → (us : List PrintUnit) → AreSpace us → RunsPast directive.Space us
space_runs_past laws us h =
    let x : List ℕ = printed us [] ++ 32 ∷ [] in (
      printed us [],
      32,
      lit≤ tt,
      refl,
      λ n. (
        Passes,
        subst (λ (k : ℕ). Step directive.Space x n k Passes) (space_skipped us h)
            ((laws.steps directive.Space tt x n (skip x) Passes).1 refl),
      ),
    )

none_left : (us kept : List PrintUnit) (read : Conversion) → leaves (space_fault us read) kept ≡ Err why.OpenEnd → us ≡ []
none_left [] kept read e = refl
none_left (u ∷ us) kept read e = by (keeps_space read && meet (first_by u read) is_white) e
  where
    by : (t : Bool) → leaves (cond t (Some why.RunsOn) None) kept ≡ Err why.OpenEnd → u ∷ us ≡ []
    by true e = absurd cc
    by false e = absurd cc

space_open : (us : List PrintUnit) (next : Option Directive) → take_space us next ≡ Err why.OpenEnd → AreSpace us
space_open us next e = by (starts_with_space us) e
  where
    by : (t : Bool) → cond t (leaves (space_fault (after_space us) (reads next)) (after_space us)) (Err why.NotAligned) ≡ Err why.OpenEnd
        → AreSpace us
    by false e = absurd cc
    by true e =
        let f = space_front us in
        let end : after_space us ≡ [] = none_left (after_space us) (after_space us) (reads next) e in
        subst AreSpace (sym (f.1 ∙ ap (λ (t : List PrintUnit). f.0 ++ t) end ∙ append-nil f.0)) f.2

-- ---- conversions

closed_open : (c : PrintConv) (s : Conversion) (us : List PrintUnit) (read : Conversion) → closing_fault c s us read ≡ Some why.OpenEnd
    → (is_closed c s ≡ false) × (us ≡ [])
closed_open c s us read e = by (is_closed c s) us e
  where
    by : (t : Bool) (us : List PrintUnit) → cond t None (follow_fault (stop_set s.shape c) us read) ≡ Some why.OpenEnd
        → (t ≡ false) × (us ≡ [])
    by true us e = absurd cc
    by false [] e = (refl, refl)
    by false (u ∷ us) e = met (meet (first_by u read) (stop_set s.shape c)) e
      where
        met : (t : Bool) → cond t (Some why.RunsOn) None ≡ Some why.OpenEnd → (false ≡ false) × (u ∷ us ≡ [])
        met true e = absurd cc
        met false e = absurd cc

closed_on : (c : PrintConv) (s : Conversion) (b : ℕ) (us : List PrintUnit) (read : Conversion)
    → closing_fault c s (unit.Byte b ∷ us) read ≡ Some why.RunsOn → (is_closed c s ≡ false) × (meet (only b) (stop_set s.shape c) ≡ true)
closed_on c s b us read e = by (is_closed c s) (meet (only b) (stop_set s.shape c)) e
  where
    by : (t m : Bool) → cond t None (cond m (Some why.RunsOn) None) ≡ Some why.RunsOn → (t ≡ false) × (m ≡ true)
    by true m e = absurd cc
    by false true e = (refl, refl)
    by false false e = absurd cc

open_here : LawsBelow → (d : Directive) (us : List PrintUnit) (next : Option Directive) → IsProper d → IsSized d → AreProperUnits us
    → take_group d us next ≡ Err why.OpenEnd → RunsPast d us
open_here laws directive.Space us next proper sized units e = space_runs_past laws us (space_open us next e)
open_here laws (directive.Byte b) us next proper sized units e = absurd (literal_never why.OpenEnd refl (only b) us e)
open_here laws directive.Percent us next proper sized units e = absurd (literal_never why.OpenEnd refl (only 37) us e)
open_here laws (directive.Opens o) us next proper sized units e = absurd cc
open_here laws (directive.Conv s) us next proper sized units e =
    let o = unclosed why.OpenEnd refl s us next e in
    let k = closed_open o.conversion s o.rest (reads next) o.closing in
    let units_are : us ≡ unit.Conv o.conversion ∷ [] = o.units_are ∙ ap (λ (t : List PrintUnit). unit.Conv o.conversion ∷ t) k.1 in
    let here : IsProperConv o.conversion × Unit {0} = subst AreProperUnits units_are units in
    let open_so = or_none s.column (always_full o.conversion s) k.0 in
    subst (RunsPast (directive.Conv s)) (sym units_are) (runs_past laws o.conversion s here.0 proper sized
    (pairs o.conversion s open_so.0 o.pairing) o.assigned open_so.1)

-- a literal that follows is taken too
on_here : LawsBelow → (d : Directive) (us : List PrintUnit) (next : Option Directive) → IsProper d → IsSized d → AreProperUnits us
    → take_group d us next ≡ Err why.RunsOn → RunsInto d us
on_here laws directive.Space us next proper sized units e = tt
on_here laws (directive.Byte b) us next proper sized units e = tt
on_here laws directive.Percent us next proper sized units e = tt
on_here laws (directive.Opens o) us next proper sized units e = tt
on_here laws (directive.Conv s) [] next proper sized units e = tt
on_here laws (directive.Conv s) (unit.Byte b ∷ us) next proper sized units e = tt
on_here laws (directive.Conv s) (unit.Conv c ∷ []) next proper sized units e = tt
on_here laws (directive.Conv s) (unit.Conv c ∷ unit.Conv a ∷ us) next proper sized units e = tt
on_here laws (directive.Conv s) (unit.Conv c ∷ unit.Byte b ∷ us) next proper sized units e =
    let o = unclosed why.RunsOn refl s (unit.Conv c ∷ unit.Byte b ∷ us) next e in
    let same : o.conversion ≡ c = (let parts = o.units_are in cc) in
    let rest : o.rest ≡ unit.Byte b ∷ us = (let parts = o.units_are in cc) in
    let pairing = sym (ap (λ (a : PrintConv). pairing_fault a s) same) ∙ o.pairing in
    let k = closed_on c s b us (reads next) ((λ i. closing_fault (sym same i) s (sym rest i) (reads next)) ∙ o.closing) in
    let open_so = or_none s.column (always_full c s) k.0 in
    λ spare. runs_into laws c s units.0 proper sized (pairs c s open_so.0 pairing) o.assigned open_so.1 b units.1.0
    (met_by laws.tried b (stop_set s.shape c) k.1) spare

pub open_ends_are_open : LawsBelow → OpenEndsAreOpen
open_ends_are_open laws us ds accepted proper f e is =
    let m = stops_by us ds accepted proper f (ap follows is) e in (
      m.stopper,
      m.left,
      stops_at us ds f m,
      open_here laws m.stopper m.left (next_of m.after) m.proper m.sized m.units
          (m.refused ∙ ap Err is),
    )

pub literals_are_run_into : LawsBelow → LiteralsAreRunInto
literals_are_run_into laws us ds accepted proper f e is =
    let m = stops_by us ds accepted proper f (ap follows is) e in (
      m.stopper,
      m.left,
      stops_at us ds f m,
      on_here laws m.stopper m.left (next_of m.after) m.proper m.sized m.units
          (m.refused ∙ ap Err is),
    )
