use Rattle.std.proofs.Common.{arith, take}
use Rattle.std.proofs.lemmas.List.{length-take-le}
use Rattle.sf_records.specs.Copies.{row_in}
use Rattle.sf_records.proofs.CopyRow.{sent}
use Rattle.sf_records.proofs.copy_maker.copy_by_line.Goals as goal

pub returns-in-Some-clause-made : goal.returns-in-Some-clause-made
returns-in-Some-clause-made g c =
    let pair = c.args.pair.now in
    let end = c.in-Some.end in
    sent pair.print pair.scan (row_in pair.scan c.args.report.now) (take end c.write_copy.new.line) _ _ c.send.result
    c.in-Some.ensures.written
    (let taken = length-take-le end c.write_copy.new.line c.in-Some.ensures.within in
    let within = c.in-Some.ensures.within in
    let same = c.write_copy.auto.line in
    let long = c.fits-line in
    omega (arith, taken, within, same, long)) c.fits_is_fit.ensures
    c.in-Some.ensures.fits c.send.ensures.made
