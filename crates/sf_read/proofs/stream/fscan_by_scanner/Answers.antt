use Rattle.sf_read.proofs.stream.fscan_by_scanner.Goals as goal

pub returns-clause-scan : goal.returns-clause-scan
returns-clause-scan g c t e = c.run.ensures.scan c.args.format.now c.args.limit t c.in_ok-over.ensures.after e

pub returns-clause-told : goal.returns-clause-told
returns-clause-told g c = c.run.ensures.told c.args.format.now c.args.limit c.in_ok-over.ensures.after

pub returns-clause-bounded : goal.returns-clause-bounded
returns-clause-bounded g c sum = c.run.ensures.bounded c.args.format.now c.args.limit c.in_ok-over.ensures.after sum

pub returns-clause-waited : goal.returns-clause-waited
returns-clause-waited g c = c.run.ensures.waited c.args.format.now c.args.limit c.in_ok-over.ensures.after

pub returns-clause-made : goal.returns-clause-made
returns-clause-made g c = c.run.ensures.made c.args.format.now c.args.limit c.in_ok-over.ensures.after
