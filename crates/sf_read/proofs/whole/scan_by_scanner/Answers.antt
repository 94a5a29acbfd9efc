use Rattle.sf_read.proofs.whole.scan_by_scanner.Goals as goal

pub returns-clause-report : goal.returns-clause-report
returns-clause-report c = c.run_over.ensures.told c.args.format.now c.args.limit c.in_ok-scanner.ensures.after

pub returns-clause-bounded : goal.returns-clause-bounded
returns-clause-bounded c sum = c.run_over.ensures.bounded c.args.format.now c.args.limit c.in_ok-scanner.ensures.after sum
