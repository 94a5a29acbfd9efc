use Rattle.std.proofs.Common.{ap, map, sym, ◌∙◌}
use Rattle.std.specs.Prelude.{is_err}
use Rattle.sf_base.specs.Data.{datum_of}
use Rattle.sf_print.specs.Printed.{printed}
use Rattle.sf_laws_tests.proofs.Carrying.{no_error, short_enough, written}
use Rattle.sf_laws_tests.proofs.pairs.write_row.Goals as goal

pub returns : goal.returns
returns c = λ ok.
    let us = c.args.pair.now.print in
    let given = map datum_of c.args.values.now in
    let text = printed us given in
    let fit = (c.fits_is_fit.ensures us c.args.pair.now.scan given).0 (sym c.fits.ensures.test ∙ c.if-not-fits.false) in
    let fine = no_error c.write.result (sym c.is_ok.ensures.value ∙ ok) in
    let low = short_enough text c.write.result fine (λ long. ap is_err (c.write.ensures.long fit long).0) in
    (fit, written text c.args.to.now.bytes c.write.new.to.bytes c.write.result fine (c.write.ensures.written fit low))
