use Rattle.std.proofs.Common.{rules}
use Rattle.sf_report.proofs.report.Scanned.into_store.Goals as goal

pub returns-clause-kept : goal.returns-clause-kept
returns-clause-kept c = search rules

pub returns-clause-texts : goal.returns-clause-texts
returns-clause-texts c = search rules
