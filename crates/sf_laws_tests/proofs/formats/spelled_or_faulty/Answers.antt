use Rattle.std.proofs.Common.{arith}
use Rattle.sf_format.proofs.Walks.{bytes_of}
use Rattle.sf_laws_tests.proofs.formats.spelled_or_faulty.Goals as goal

pub returns : goal.returns
returns c = c.either.ensures.scan c.args.profile c.args.text.now (bytes_of c.args.text.now (λ i. omega (arith, c.type_inv.text i)))
