use Rattle.sf_laws_tests.proofs.Computing.{examples_told}
use Rattle.sf_laws_tests.proofs.examples.examples_are_told.Goals as goal

pub returns : goal.returns
returns c = examples_told c.proper.ensures.scan
