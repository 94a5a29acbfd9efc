use Rattle.sf_format.specs.Proper.{IsAccepted}
use Rattle.sf_records.proofs.LinewiseLemmas.Choosing.{all_more, all_taken}
use Rattle.sf_records_tests.proofs.silent.see_formats.Goals as goal

pub loop-format-preserved : goal.loop-format-preserved
loop-format-preserved c =
    let l = c.loop-format in
    all_more IsAccepted c.args.formats.now l.format-index c.format-item.result c.loop-format-test.true c.format-item.is
    l.invariant c.destinations-destinations.ensures.accepted

pub returns-clause-accepted : goal.returns-clause-accepted
returns-clause-accepted c =
    all_taken IsAccepted c.args.formats.now c.loop-format.format-index c.loop-format-test.false c.loop-format.invariant
