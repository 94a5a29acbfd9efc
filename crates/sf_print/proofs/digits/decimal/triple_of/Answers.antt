use Rattle.sf_print.proofs.DigitLemmas.ThreeDigits.{TRIPLES_at}
use Rattle.sf_print.proofs.digits.decimal.triple_of.Goals as goal

pub returns : goal.returns
returns c = TRIPLES_at c.args.three c.requires
