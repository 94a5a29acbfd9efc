use Rattle.std.proofs.Common.{ℕ, ◌++◌, List, [], subst, append-nil, Option, Some, None}
use Rattle.std.specs.Prelude.{IfSome}
use Rattle.sf_run.specs.outcome.Ending.{Ending}
use Rattle.sf_run.specs.outcome.Ending.TheVariants.{End}
use Rattle.sf_run.specs.outcome.Outcome.{Outcome}
use Rattle.sf_run.specs.Limits.{RunWithin}
use Rattle.sf_run.specs.Views.{report_by}
use Rattle.sf_read.proofs.whole.scan_in_place.Goals as goal

pub returns-clause-run : goal.returns-clause-run
returns-clause-run c = by c.quick_run_into.result c.quick_run_into.ensures.run
  where
    by : (o : Option Outcome)
        → IfSome o (λ outcome. (z : List ℕ) (ending : Ending)
        → RunWithin c.args.format.now c.args.limit (c.args.text.now ++ z) ending (report_by outcome c.quick_run_into.new.store.values))
        → IfSome o (λ outcome. RunWithin c.args.format.now c.args.limit c.args.text.now End
        (report_by outcome c.quick_run_into.new.store.values))
    by None h = tt
    by (Some outcome) h = subst (λ x. RunWithin c.args.format.now c.args.limit x End (report_by outcome c.quick_run_into.new.store.values))
        (append-nil c.args.text.now) (h [] End)
