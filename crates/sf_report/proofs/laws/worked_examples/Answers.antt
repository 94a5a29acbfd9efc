use Rattle.sf_report.proofs.Rows.{c11_examples, posix_examples, our_examples}
use Rattle.sf_report.proofs.laws.worked_examples.Goals as goal

pub returns-clause-c11 : goal.returns-clause-c11
returns-clause-c11 c = c11_examples

pub returns-clause-posix : goal.returns-clause-posix
returns-clause-posix c = posix_examples

pub returns-clause-ours : goal.returns-clause-ours
returns-clause-ours c = our_examples
