use Rattle.std.proofs.Common.{sym}
use Rattle.sf_base.specs.Data.{datum_of}
use Rattle.sf_print.proofs.TextLemmas.Plainness.{plain_value, plain_length, plain_fits}
use Rattle.sf_print.proofs.texts.plain.plain_number.Goals as goal

pub returns-in-Number-clause-text : goal.returns-in-Number-clause-text
returns-in-Number-clause-text c = plain_value c.args.conv.now _ _ (datum_of c.args.value.now)
    (sym c.if-not-is_plain_conv.ensures) c.in-Number.ensures

pub returns-in-Number-clause-short : goal.returns-in-Number-clause-short
returns-in-Number-clause-short c = plain_length _ _ (datum_of c.args.value.now) c.in-Number.ensures

pub returns-in-Number-clause-fits : goal.returns-in-Number-clause-fits
returns-in-Number-clause-fits c = plain_fits _ _ (datum_of c.args.value.now) c.in-Number.ensures
