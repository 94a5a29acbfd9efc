use Rattle.std.proofs.Common.{ap, arith, length, sym, take, true≢false}
use Rattle.std.proofs.lemmas.List.{length-take-le}
use Rattle.sf_records.specs.Copies.{row_in}
use Rattle.sf_records.proofs.CopyRow.{copied, copied_fit, copied_short}
use Rattle.sf_records.proofs.copy_maker.RecordCopyTextInPlace.write_in.Goals as goal

pub returns-clause-fits : goal.returns-clause-fits
returns-clause-fits g c =
    let copy = c.args.self.now in
    let pair = copy.pair.now in
    let len = c.in_ok-len.len in
    copied pair.print pair.scan (row_in pair.scan copy.report.now) (take len c.write_copy.new.line) c.in_ok-len.ensures.written
    (omega (arith, length-take-le len c.write_copy.new.line c.in_ok-len.ensures.within, c.if-len-gt-MOST_BYTES.false))
    c.fits_is_fit.ensures c.in_ok-len.ensures.fits

pub returns-in_err-len-clause-answers : goal.returns-in_err-len-clause-answers
returns-in_err-len-clause-answers g c is_copied room =
    let copy = c.args.self.now in
    let pair = copy.pair.now in
    absurd (true≢false (sym (c.in_err-len.ensures.answers
    (copied_fit pair.print pair.scan (row_in pair.scan copy.report.now) c.fits_is_fit.ensures is_copied) room)))

pub returns-then-len-gt-MOST_BYTES-clause-answers : goal.returns-then-len-gt-MOST_BYTES-clause-answers
returns-then-len-gt-MOST_BYTES-clause-answers g c is_copied room =
    let copy = c.args.self.now in
    let pair = copy.pair.now in
    let len = c.in_ok-len.len in
    absurd (omega (
      arith,
      copied_short pair.print pair.scan (row_in pair.scan copy.report.now) is_copied,
      length-take-le len c.write_copy.new.line c.in_ok-len.ensures.within,
      ap length c.in_ok-len.ensures.written,
      c.if-len-gt-MOST_BYTES.true,
    ))
