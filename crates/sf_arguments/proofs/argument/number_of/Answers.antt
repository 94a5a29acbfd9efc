use Rattle.std.specs.Int.{w128}
use Rattle.sf_arguments.proofs.Numbers.{read_some, read_none}
use Rattle.sf_arguments.proofs.argument.number_of.Goals as goal

pub returns-clause-some : goal.returns-clause-some
returns-clause-some c = read_some _ w128 c.args.word.now c.parse.result c.ok.result c.ok.ensures.value c.parse.ensures.value.0

pub returns-clause-none : goal.returns-clause-none
returns-clause-none c = read_none _ w128 c.args.word.now c.parse.result c.ok.result c.ok.ensures.value c.parse.ensures.value.0
