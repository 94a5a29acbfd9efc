use Rattle.std.proofs.Common.{rules}
use Rattle.sf_run.proofs.directive.finish_number.Goals as goal

pub returns-in-Some-None-clause-end : goal.returns-in-Some-None-clause-end
returns-in-Some-None-clause-end c = search rules

pub returns-in-Some-None-clause-given : goal.returns-in-Some-None-clause-given
returns-in-Some-None-clause-given c = search rules
