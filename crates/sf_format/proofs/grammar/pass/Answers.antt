use Rattle.std.proofs.lemmas.Result.{err_from_is_err_and}
use Rattle.sf_format.specs.Passing.{fault_of}
use Rattle.sf_format.specs.Grammar.{destinations}
use Rattle.sf_format.proofs.Steps.{own_fault, group_fault, stepped}
use Rattle.sf_format.proofs.grammar.pass.Goals as goal

pub returns-in_err-passed : goal.returns-in_err-passed
returns-in_err-passed g c =
    λ done place precedes.
    let p = err_from_is_err_and c.from_residual.result c.from_residual.ensures.1 in
    rw (p.1, p.2)
    (own_fault (g.G.Grammar.language c.args.grammar) done c.args.text.now c.args.at (fault_of c.in_err-passed.field-0.0) place
    (c.in_err-passed.ensures (destinations done) precedes.slots))

pub returns-in_err-group : goal.returns-in_err-group
returns-in_err-group g c =
    λ done place precedes.
    let p = err_from_is_err_and c.from_residual-in_err-group.result c.from_residual-in_err-group.ensures.1 in
    let passed = c.in_ok-passed.ensures (destinations done) precedes.slots in
    let joined = c.in_err-group.ensures in
    rw (p.1, p.2)
    (group_fault (g.G.Grammar.language c.args.grammar) done c.args.text.now c.args.at c.args.before c.in_ok-passed.passed.role
    c.in_err-group.field-0.0 place precedes passed.5 passed.0 joined.0 joined.1)

pub returns : goal.returns
returns g c =
    λ done place precedes.
    stepped c.args.wanted (g.G.Grammar.means c.args.grammar) (g.G.Grammar.language c.args.grammar) done c.args.text.now c.args.at
    c.args.before c.in_ok-passed.passed c.in_ok-group.group place precedes (c.in_ok-passed.ensures (destinations done) precedes.slots)
    c.in_ok-group.ensures
