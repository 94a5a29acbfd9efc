-- Printing of values that fit.
use Rattle.std.proofs.Common.{◌≡◌, ℕ, ◌≤◌, ◌<◌, inl, inr, Bool, true, false, cond, nat_eq, nat_le, List, [], ◌∷◌, ◌++◌, length, Option}
use Rattle.std.proofs.Common.{None, Ok, Err, refl, sym, ap, subst, ◌∙◌, arith}
use Rattle.std.specs.Prelude.{not, fold, Result, IfErr, OnOk}
use Rattle.std.proofs.lemmas.Bool.Decides.{nat_tests}
use Rattle.sf_base.specs.Data.{Datum}
use Rattle.sf_format.specs.declared.directive.Directive.{Directive}
use Rattle.sf_format.specs.declared.directive.Directive.TheVariants as directive
use Rattle.sf_format.specs.declared.unit.Unit.{Unit as PrintUnit}
use Rattle.sf_format.specs.declared.unit.Unit.TheVariants as unit
use Rattle.sf_format.specs.Units.{values_of}
use Rattle.sf_print.specs.declared.fault.PrintFault.{PrintFault}
use Rattle.sf_print.specs.declared.fault.PrintFault.TheVariants as fault
use Rattle.sf_print.specs.Printed.{printed, unit_fault, fault_or_none, lower, lowest_fault, length_or_fault, measured, most_bytes}
use Rattle.sf_pair.specs.conversions.Below.{LawsBelow}
use Rattle.sf_pair.specs.Groups.{AreSpace, next_of}
use Rattle.sf_pair.specs.Formats.{Formats, IsChecked}
use Rattle.sf_pair.specs.Fits.{Fit}
use Rattle.sf_pair.proofs.FitCut.{FitCut, GroupReads, fit_cut}
use Rattle.sf_pair.proofs.Cutting.{aligned_is_accepted}

abbrev lowest_from : List Datum → Option PrintFault → List PrintUnit → Option PrintFault
lowest_from values f us = fold (λ f u. lower f (unit_fault values u)) f us

same_end : (values : List Datum) (f g : Option PrintFault) (us : List PrintUnit) → f ≡ g → lowest_from values f us ≡ lowest_from values g us
same_end values f g us e = ap (λ (f : Option PrintFault). lowest_from values f us) e

space_unfaulted : (values : List Datum) (group rest : List PrintUnit) → AreSpace group
    → lowest_fault (group ++ rest) values ≡ lowest_fault rest values
space_unfaulted values [] rest h = refl
space_unfaulted values (unit.Byte b ∷ us) rest h = space_unfaulted values us rest h.1
space_unfaulted values (unit.Conv c ∷ us) rest h = absurd h

group_unfaulted : (values : List Datum) (d : Directive) (group rest : List PrintUnit) (next : Option Directive)
    → GroupReads values d group rest next → lowest_fault (group ++ rest) values ≡ lowest_fault rest values
group_unfaulted values directive.Space group rest next is = space_unfaulted values group rest is.1
group_unfaulted values (directive.Byte b) group rest next is = ap (λ (g : List PrintUnit). lowest_fault (g ++ rest) values) is.1
group_unfaulted values directive.Percent group rest next is = ap (λ (g : List PrintUnit). lowest_fault (g ++ rest) values) is.1
group_unfaulted values (directive.Conv s) group rest next (inl p) =
    ap (λ (g : List PrintUnit). lowest_fault (g ++ rest) values) p.group_is
    ∙ same_end values (lower None (fault_or_none p.conversion _)) None rest (ap (fault_or_none p.conversion) p.at ∙ p.good)
group_unfaulted values (directive.Conv s) group rest next (inr l) = ap (λ (g : List PrintUnit). lowest_fault (g ++ rest) values) l.group_is
group_unfaulted values (directive.Opens o) group rest next is = absurd is

unfaulted : (values : List Datum) (ds : List Directive) (us : List PrintUnit) → FitCut values ds us → lowest_fault us values ≡ None
unfaulted values [] us cut = ap (λ (us : List PrintUnit). lowest_fault us values) cut
unfaulted values (d ∷ ds) us (group, rest, parts, is, more) =
    ap (λ (us : List PrintUnit). lowest_fault us values) parts ∙ group_unfaulted values d group rest (next_of ds) is
    ∙ unfaulted values ds rest more

-- values that fit are measured by the length alone
pub fit_measured : LawsBelow → (us : List PrintUnit) (ds : List Directive) → IsChecked us ds → (values : List Datum) → Fit us ds values
    → measured us values ≡ length_or_fault None (length (printed us values))
fit_measured laws us ds checked values fit =
    let none = unfaulted values ds us (fit_cut laws values ds us checked.scanned.proper checked.scanned.sized checked.printed.proper
    ((aligned_is_accepted us ds).0 checked.found).cut fit.each) in
    let count : nat_eq (length values) (length (values_of us)) ≡ true = (let e = fit.count in grind (arith, nat_tests)) in
    ap (λ (t : Bool). cond (not t) (Err fault.WrongCount) (length_or_fault (lowest_fault us values) (length (printed us values)))) count
    ∙ ap (λ (f : Option PrintFault). length_or_fault f (length (printed us values))) none

pub short_measured : LawsBelow → (us : List PrintUnit) (ds : List Directive) → IsChecked us ds → (values : List Datum) → Fit us ds values
    → length (printed us values) ≤ 2147483647 → measured us values ≡ Ok (length (printed us values))
short_measured laws us ds checked values fit short =
    let within : nat_le (length (printed us values)) most_bytes ≡ true = grind (arith, nat_tests) in
    fit_measured laws us ds checked values fit ∙ ap (λ (t : Bool). cond t (Ok (length (printed us values))) (Err fault.TooLong)) within

pub long_measured : LawsBelow → (us : List PrintUnit) (ds : List Directive) → IsChecked us ds → (values : List Datum) → Fit us ds values
    → 2147483647 < length (printed us values) → measured us values ≡ Err fault.TooLong
long_measured laws us ds checked values fit long =
    let beyond : nat_le (length (printed us values)) most_bytes ≡ false = grind (arith, nat_tests) in
    fit_measured laws us ds checked values fit ∙ ap (λ (t : Bool). cond t (Ok (length (printed us values))) (Err fault.TooLong)) beyond

-- ---- as the contract of a pair sees it

module _ (laws : LawsBelow) (us : List PrintUnit) (ds : List Directive) (f : Formats) (same : record { print = us; scan = ds } ≡ f)
    (checked : IsChecked us ds) (values : List Datum) (fit : Fit f.print f.scan values) where
  fit_inside : Fit us ds values
  fit_inside = subst (λ (f : Formats). Fit f.print f.scan values) (sym same) fit

  same_length : length (printed us values) ≡ length (printed f.print values)
  same_length = ap (λ (f : Formats). length (printed f.print values)) same

  pub long_refused : 2147483647 < length (printed f.print values) → (P : PrintFault → Type 0) → IfErr (measured us values) P
      → P fault.TooLong
  long_refused long P h = subst (λ (r : Result ℕ PrintFault). IfErr r P)
      (long_measured laws us ds checked values fit_inside (omega (arith, long, same_length))) h

  pub short_written : length (printed f.print values) ≤ 2147483647 → (Q : List PrintUnit → Type 0) → OnOk (measured us values) (Q us)
      → Q f.print
  short_written short Q h =
      subst (λ (f : Formats). Q f.print) same (subst (λ (r : Result ℕ PrintFault). OnOk r (Q us))
      (short_measured laws us ds checked values fit_inside (omega (arith, short, same_length))) h)
