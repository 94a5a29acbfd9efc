use Rattle.sf_laws_tests.proofs.Faults.{same_fault}
use Rattle.sf_laws_tests.proofs.formats.faulted_twice.Goals as goal

pub returns : goal.returns
returns c =
    same_fault c.args.profile c.args.text.now c.one_fault.ensures.scan c.in-Err.first c.in-Err-parse.second c.in-Err.ensures.refused
    c.in-Err-parse.ensures.refused
