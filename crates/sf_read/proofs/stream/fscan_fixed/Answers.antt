use Rattle.sf_format.specs.Widths.{width_sum}
use Rattle.sf_read.proofs.Ended.{has_sum}
use Rattle.sf_read.proofs.stream.fscan_fixed.Goals as goal

pub returns-clause-scan : goal.returns-clause-scan
returns-clause-scan g c t e = c.run.ensures.scan c.args.format.now c.args.limit t c.in_ok-scanner.ensures.after e

pub returns-clause-bounded : goal.returns-clause-bounded
returns-clause-bounded g c =
    c.run.ensures.bounded c.args.format.now c.args.limit c.in_ok-scanner.ensures.after
    (has_sum c.args.limit (width_sum c.args.format.now) (λ h. let is = c.in_ok-scanner.ensures.limit.1 h in absurd cc)
    (λ h. let is = c.in_ok-scanner.ensures.unbounded.1 h in absurd cc))

pub returns-clause-waited : goal.returns-clause-waited
returns-clause-waited g c = c.run.ensures.waited c.args.format.now c.args.limit c.in_ok-scanner.ensures.after

pub returns-clause-made : goal.returns-clause-made
returns-clause-made g c = c.run.ensures.made c.args.format.now c.args.limit c.in_ok-scanner.ensures.after
