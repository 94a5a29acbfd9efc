use Rattle.std.proofs.Common.{rules}
use Rattle.sf_report.proofs.report.Scanned.new.Goals as goal

pub returns-clause-report : goal.returns-clause-report
returns-clause-report c = search rules
