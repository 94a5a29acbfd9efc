use Rattle.std.proofs.Common.{Option, Some, None, ◌≡◌, ◌∙◌, ◌≤◌, refl, sym, subst, arith}
use Rattle.std.specs.Prelude.{IfSome, IsErrOf, IsSome, unwrap_or}
use Rattle.sf_base.specs.stores.Kept.{Kept}
use Rattle.sf_format.specs.Widths.{width_sum}
use Rattle.sf_run.specs.Memory.{capacity_of}
use Rattle.sf_run.specs.declared.feeding.StartFault.TheVariants.{NoMemory}
use Rattle.sf_read.specs.declared.row.ScanRowFault.TheVariants.{Start}
use Rattle.sf_read.proofs.Shapes.{enough_still, run_no_start}
use Rattle.sf_read.proofs.row.row_over.Goals.{in_default-via-in-None-1, in_default-via-in-Some+in-None-1}
use Rattle.sf_read.proofs.row.row_over.Goals as goal

pub returns-clause-enough : goal.returns-clause-enough
returns-clause-enough g c = by c.args.store.now
  where
    by : (o : Option Kept)
        → IfSome o (λ s. unwrap_or (width_sum c.args.format.now) 0 ≤ capacity_of s → IsErrOf c.in-Some-row_held.row (Start NoMemory) → ⊥)
    by None = tt
    by (Some s) = λ room e. run_no_start c.in-Some-row_held.row c.in-Some-row_held.ensures.is_run NoMemory e

pub returns-2-clause-enough : goal.returns-2-clause-enough
returns-2-clause-enough g c = by c.args.store.now refl
  where
    by : (o : Option Kept) → c.args.store.now ≡ o
        → IfSome o (λ s. unwrap_or (width_sum c.args.format.now) 0 ≤ capacity_of s → IsErrOf c.row_by_scan.result (Start NoMemory) → ⊥)
    by None is = tt
    by (Some s) is = λ room e.
        let same : c.has_store.new.store ≡ Some s = (c.has_store.ensures.same (subst IsSome (sym is) refl)).1 ∙ is in
        elim c.in_default.branch [
          | in_default-via-in-None-1 w ↦
              enough_still (IsErrOf c.row_by_scan.result (Start NoMemory)) c.in_default.store s s _ (w.store-is ∙ same)
              c.row_by_scan.ensures.enough (omega arith) room e
          | in_default-via-in-Some+in-None-1 w ↦
              let own : capacity_of s ≡ capacity_of w.in-Some.kept = (let h = sym same ∙ w.in-Some.is in cc) in
              enough_still (IsErrOf c.row_by_scan.result (Start NoMemory)) c.in_default.store s w.row_held.new.store _ w.store-is
              c.row_by_scan.ensures.enough (let more = w.row_held.ensures.room in omega (arith, own, more)) room e
        ]
