use Rattle.sf_records.proofs.CopyRow.{sink_part}
use Rattle.sf_records.proofs.copy_maker.copy_row.Goals as goal

pub returns-in-Err-Print-Sink-clause-made : goal.returns-in-Err-Print-Sink-clause-made
returns-in-Err-Print-Sink-clause-made g c =
    let e = c.in-Err-Print-Sink.ensures in
    sink_part c.args.pair.now.print c.args.pair.now.scan _ _ _ c.in-Err-Print-Sink.field-0 c.in-Err-Print-Sink.field-0-0 _
    c.in-Err-Print-Sink.field-0-is c.in-Err-Print-Sink.field-0-0-is c.fits_is_fit.ensures e.unfit _ e.long e.written
