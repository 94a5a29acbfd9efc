use Rattle.std.proofs.Common.{arith}
use Rattle.sf_format.proofs.Walks.{bytes_of}
use Rattle.sf_run.specs.outcome.Ending.TheVariants.{End}
use Rattle.sf_laws_tests.proofs.runs.has_row.Goals as goal

pub returns-clause-slots : goal.returns-clause-slots
returns-clause-slots c = λ done.
    c.done_runs_have_rows.ensures.slots c.args.format.now c.directives-directives.ensures.accepted 1000 c.args.text.now End
    c.in-Ok.scanned.report
    (bytes_of c.args.text.now (λ i. omega (arith, c.type_inv.text i))) c.in-Ok.ensures.report done

pub returns-clause-row : goal.returns-clause-row
returns-clause-row c = λ none done.
    c.done_runs_have_rows.ensures.row c.args.format.now c.directives-directives.ensures.accepted none 1000 c.args.text.now End
    c.in-Ok.scanned.report
    (bytes_of c.args.text.now (λ i. omega (arith, c.type_inv.text i))) c.in-Ok.ensures.report done
