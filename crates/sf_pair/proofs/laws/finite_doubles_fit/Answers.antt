use Rattle.sf_pair.proofs.EachDouble.{finite_doubles_fit}
use Rattle.sf_pair.proofs.laws.finite_doubles_fit.Goals as goal

pub returns : goal.returns
returns c = finite_doubles_fit (record {
  general = c.general_reads_back.ensures;
  general_zero = c.general_zero_reads_back.ensures;
  hexadecimal = c.hexadecimal_reads_back.ensures;
})
