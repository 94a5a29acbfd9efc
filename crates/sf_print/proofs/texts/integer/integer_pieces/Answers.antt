use Rattle.std.proofs.lemmas.Grind.{common_steps}
use Rattle.std.proofs.Common.{arith}
use Rattle.sf_print.proofs.texts.integer.integer_pieces.Goals as goal

pub around_digits-requires-2-clause-digits : goal.around_digits-requires-2-clause-digits
around_digits-requires-2-clause-digits c = grind (arith, common_steps)
