use Rattle.sf_print.proofs.DigitLemmas.Numerals as numerals
use Rattle.sf_print.proofs.digits.laws.are_numerals.Goals as goal

pub returns : goal.returns
returns c = numerals.are_numerals
