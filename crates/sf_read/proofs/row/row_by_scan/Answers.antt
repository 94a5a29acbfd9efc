use Rattle.std.proofs.Common.{Option, Some, None, ◌≤◌, arith}
use Rattle.std.specs.Prelude.{IfSome, IsErrOf, unwrap_or}
use Rattle.sf_base.specs.stores.Kept.{Kept}
use Rattle.sf_format.specs.Widths.{width_sum}
use Rattle.sf_run.specs.Memory.{capacity_of}
use Rattle.sf_run.specs.declared.feeding.StartFault.TheVariants.{NoMemory}
use Rattle.sf_read.specs.field.Rows.{slots_by}
use Rattle.sf_read.specs.declared.row.ScanRowFault.TheVariants.{Start}
use Rattle.std.proofs.lemmas.Grind.{common_steps}
use Rattle.sf_read.proofs.Shapes.{given, no_start}
use Rattle.sf_read.proofs.row.row_by_scan.Goals as goal

pub row_of-row-requires : goal.row_of-row-requires
row_of-row-requires g c =
    let told = c.in-Ok.ensures.told in
    given g.T.Row.kinds g.T.Row.optional c.args.format.now c.args.limit told.0 told.1 c.in-Ok.scanned.report c.requires.accepted.kinded
    c.requires.accepted.slots
    c.requires.shape told.2

pub returns-in-Err-clause-limit : goal.returns-in-Err-clause-limit
returns-in-Err-clause-limit g c = grind (arith, common_steps)

pub returns-in-Ok-clause-enough : goal.returns-in-Ok-clause-enough
returns-in-Ok-clause-enough g c = by c.args.store.now
  where
    by : (o : Option Kept)
        → IfSome o (λ s. unwrap_or (width_sum c.args.format.now) 0 ≤ capacity_of s → IsErrOf c.row_of-row.result (Start NoMemory) → ⊥)
    by None = tt
    by (Some s) = λ room e. no_start g.T.Row.kinds (slots_by g.T.Row.given g.T.Row.listed) c.in-Ok.scanned.report c.row_of-row.result
        c.row_of-row.ensures.report NoMemory
        e
