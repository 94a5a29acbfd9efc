use Rattle.std.proofs.Common.{ℕ, ◌+◌, Option, true, sym, subst, arith}
use Rattle.sf_report.specs.Steps.{StepEnd}
use Rattle.sf_run.specs.Quick.{GivesTo, MayBeGiven}
use Rattle.sf_run.proofs.AtOnce.{ends_passing, passes_within, real_given}
use Rattle.sf_run.proofs.quick.pass_real.Goals as goal

pub set_real-requires-clause-at_least_one : goal.set_real-requires-clause-at_least_one
set_real-requires-clause-at_least_one g c =
    (subst (λ (o : Option ℕ). MayBeGiven g.S.Store.slots o (g.S.Store.kept c.args.store.now).values) c.in_ok-read.ensures.slot
    c.requires.free).0

pub set_real-requires-clause-in_range : goal.set_real-requires-clause-in_range
set_real-requires-clause-in_range g c =
    (subst (λ (o : Option ℕ). MayBeGiven g.S.Store.slots o (g.S.Store.kept c.args.store.now).values) c.in_ok-read.ensures.slot
    c.requires.free).1

pub set_real-requires-clause-absent : goal.set_real-requires-clause-absent
set_real-requires-clause-absent g c =
    (subst (λ (o : Option ℕ). MayBeGiven g.S.Store.slots o (g.S.Store.kept c.args.store.now).values) c.in_ok-read.ensures.slot
    c.requires.free).2

pub overflow_add-result : goal.overflow_add-result
overflow_add-result g c = let within = (c.in_ok-read.ensures.ends c.args.used).fits.within in omega (arith, within)

pub returns-clause-within : goal.returns-clause-within
returns-clause-within g c = (c.in_ok-read.ensures.ends c.args.used).fits.within

pub returns-clause-ends : goal.returns-clause-ends
returns-clause-ends g c = λ proper.
    let r = c.in_ok-read.read in
    let old = g.S.Store.kept c.args.store.now in
    let new = g.S.Store.kept c.set_real.new.self in
    ends_passing c.args.directive.now c.args.used c.args.piece.now (r.ended.before + r.ended.item) old new (
      true,
      passes_within c.args.directive.now c.args.used c.args.piece.now r.ended true old new proper (c.in_ok-read.ensures.ends c.args.used)
          (subst (λ (e : StepEnd). GivesTo e true old new) (sym c.in_ok-read.ensures.real)
          (real_given r.slot r.real old new c.requires.opened c.set_real.ensures)),
    )
