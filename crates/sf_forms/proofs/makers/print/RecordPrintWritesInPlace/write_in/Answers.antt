use Rattle.std.proofs.Common.{◌≡◌, ℕ, length, sym, ap, ◌∙◌, arith}
use Rattle.std.proofs.lemmas.List.{length-take-le}
use Rattle.sf_format.specs.Units.{values_of}
use Rattle.sf_forms.proofs.MakerLemmas.Recorded.{record_fits, record_text}
use Rattle.sf_forms.proofs.makers.print.RecordPrintWritesInPlace.write_in.Goals as goal

pub returns-clause-written : goal.returns-clause-written
returns-clause-written g c =
    let units = c.args.self.now.print.now in
    let n : ℕ = c.args.self.now.destinations in
    let values = c.args.self.now.report.now.values in
    let slots = c.values.ensures.accepted.slots in
    let count : n ≡ length (values_of units) = omega (arith, c.values.ensures.count, c.if-values-self.false) in
    let suited = c.in_ok-len.ensures.suited in
    let text_is = c.in_ok-len.ensures.written ∙ record_text units n values slots count suited in
    record {
      fits = record_fits units n values slots count suited (omega (
        arith,
        ap length text_is,
        length-take-le c.in_ok-len.len c.write_printed.new.buf c.in_ok-len.ensures.within,
        c.if-len-gt-MOST_BYTES.false,
      ));
      text_is = text_is;
    }
