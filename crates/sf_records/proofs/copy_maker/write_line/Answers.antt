use Rattle.std.proofs.Common.{◌≡◌, ◌+◌, ◌≤◌, List, length, subst, take, IfSome}
use Rattle.std.specs.Prelude.{IsSome}
use Rattle.sf_base.specs.Data.{Datum}
use Rattle.sf_pair.specs.Fits.{Fit}
use Rattle.sf_print.specs.Printed.{printed}
use Rattle.sf_records.proofs.copy_maker.write_line.Goals as goal

pub returns-clause-written : goal.returns-clause-written
returns-clause-written g c =
    subst (λ (row : List Datum). IfSome c.write_in_place.result (λ end. take end c.write_in_place.new.buf
    ≡ printed c.args.pair.now.print row)) c.shown_row-count.ensures.row c.write_in_place.ensures.written

pub returns-clause-fits : goal.returns-clause-fits
returns-clause-fits g c =
    subst (λ (row : List Datum). IfSome c.write_in_place.result (λ end. Fit c.args.pair.now.print c.args.pair.now.scan row))
    c.shown_row-count.ensures.row c.write_in_place.ensures.fits

pub returns-clause-answers : goal.returns-clause-answers
returns-clause-answers g c =
    let pair = c.args.pair.now in
    subst (λ (row : List Datum). Fit pair.print pair.scan row → length (printed pair.print row) + 21 ≤ length c.args.line.now
    → IsSome c.write_in_place.result) c.shown_row-count.ensures.row c.write_in_place.ensures.answers
