use Rattle.std.proofs.Common.{ap, ◌∙◌}
use Rattle.sf_format.specs.Passing.{fault_in}
use Rattle.sf_format.proofs.Rules.{table_fault}
use Rattle.sf_format.proofs.rule_table.fault_by.Goals as goal

pub returns : goal.returns
returns c = ap fault_in c.first_fault.ensures ∙ table_fault c.args.rules.now
