use Rattle.sf_print.proofs.DigitLemmas.OnlyNumeral as only
use Rattle.sf_print.proofs.digits.laws.only_numeral.Goals as goal

pub returns : goal.returns
returns c = only.only_numeral
