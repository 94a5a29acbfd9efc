use Rattle.std.proofs.Common.{refl, arith}
use Rattle.std.proofs.lemmas.Result.{err_from_is_err_and}
use Rattle.sf_format.proofs.Walks.{bytes_of, passes_on, nothing_passed, passing_none, passing_all, passing_fault, rest_shorter}
use Rattle.sf_format.proofs.Walks.{gathering_more, gathering_all, with_room}
use Rattle.sf_format.specs.Passing.{fault_of}
use Rattle.sf_format.specs.Grammar.{destinations}
use Rattle.sf_format.proofs.Steps.{own_fault, group_fault, stepped}
use Rattle.sf_format.proofs.grammar.walk.Goals as goal

pub loop-rest-init : goal.loop-rest-init
loop-rest-init g c =
    record {
      passing = passing_none (g.G.Grammar.language c.args.grammar) c.args.text.now _
          (bytes_of c.args.text.now (λ i. omega (arith, c.type_inv.text i))) nothing_passed;
      counts = refl;
      low = omega arith;
      meaning = grind (arith, c.map-parts.ensures.cases);
    }

pub returns-in_err-passed : goal.returns-in_err-passed
returns-in_err-passed g c =
    let h = c.loop-rest.invariant.passing in
    let p = err_from_is_err_and c.from_residual.result c.from_residual.ensures.1 in
    let fault = c.in_err-passed.field-0.0 in
    rw (p.1, p.2) (record {
      walked = tt;
      gathered = tt;
      fault = passing_fault fault h (own_fault (g.G.Grammar.language c.args.grammar) h.done c.loop-rest.rest.now c.loop-rest.at
          (fault_of fault) h.place (c.in_err-passed.ensures (destinations h.done) h.holds.slots));
    })

pub returns-in_err-group : goal.returns-in_err-group
returns-in_err-group g c =
    let h = c.loop-rest.invariant.passing in
    let p = err_from_is_err_and c.from_residual-in_err-group.result c.from_residual-in_err-group.ensures.1 in
    let passed = c.in_ok-passed.ensures (destinations h.done) h.holds.slots in
    let joined = c.in_err-group.ensures in
    let fault = c.in_err-group.field-0.0 in
    rw (p.1, p.2) (record {
      walked = tt;
      gathered = tt;
      fault = passing_fault fault h (group_fault (g.G.Grammar.language c.args.grammar) h.done c.loop-rest.rest.now c.loop-rest.at
          c.loop-rest.before c.in_ok-passed.passed.role fault h.place h.holds passed.5 passed.0 joined.0 joined.1);
    })

pub overflow_sub-at : goal.overflow_sub-at
overflow_sub-at g c =
    let h = c.loop-rest.invariant.passing in
    let step = stepped c.is_some.result (g.G.Grammar.means c.args.grammar) (g.G.Grammar.language c.args.grammar) h.done
    c.loop-rest.rest.now c.loop-rest.at c.loop-rest.before c.in_ok-passed.passed c.in_ok-group.group h.place h.holds
    (c.in_ok-passed.ensures (destinations h.done) h.holds.slots) c.in_ok-group.ensures in
    (rest_shorter (passes_on h c.is_empty.ensures c.loop-rest-test.true step.0 step.1 step.3)).1

pub loop-rest-smaller : goal.loop-rest-smaller
loop-rest-smaller g c =
    let h = c.loop-rest.invariant.passing in
    let step = stepped c.is_some.result (g.G.Grammar.means c.args.grammar) (g.G.Grammar.language c.args.grammar) h.done
    c.loop-rest.rest.now c.loop-rest.at c.loop-rest.before c.in_ok-passed.passed c.in_ok-group.group h.place h.holds
    (c.in_ok-passed.ensures (destinations h.done) h.holds.slots) c.in_ok-group.ensures in
    (rest_shorter (passes_on h c.is_empty.ensures c.loop-rest-test.true step.0 step.1 step.3)).0

pub with_passed-parts-requires : goal.with_passed-parts-requires
with_passed-parts-requires g c =
    let h = c.loop-rest.invariant in
    let step = stepped c.is_some.result (g.G.Grammar.means c.args.grammar) (g.G.Grammar.language c.args.grammar) h.passing.done
    c.loop-rest.rest.now c.loop-rest.at c.loop-rest.before c.in_ok-passed.passed c.in_ok-group.group h.passing.place h.passing.holds
    (c.in_ok-passed.ensures (destinations h.passing.done) h.passing.holds.slots) c.in_ok-group.ensures in
    with_room (g.G.Grammar.means c.args.grammar) _ _ h (passes_on h.passing c.is_empty.ensures c.loop-rest-test.true step.0 step.1 step.3)
    step.5

pub count_after-count-requires : goal.count_after-count-requires
count_after-count-requires g c = let h = c.loop-rest.invariant in omega (arith, h.low, h.passing.whole, c.requires)

pub loop-rest-preserved : goal.loop-rest-preserved
loop-rest-preserved g c =
    let h = c.loop-rest.invariant in
    let step = stepped c.is_some.result (g.G.Grammar.means c.args.grammar) (g.G.Grammar.language c.args.grammar) h.passing.done
    c.loop-rest.rest.now c.loop-rest.at c.loop-rest.before c.in_ok-passed.passed c.in_ok-group.group h.passing.place h.passing.holds
    (c.in_ok-passed.ensures (destinations h.passing.done) h.passing.holds.slots) c.in_ok-group.ensures in
    rw c.count_after-count.ensures
    (gathering_more (g.G.Grammar.means c.args.grammar) _ _ _ _ h
    (passes_on h.passing c.is_empty.ensures c.loop-rest-test.true step.0 step.1 step.3)
    step.5 step.2 c.with_passed-parts.ensures)

pub returns : goal.returns
returns g c =
    let h = c.loop-rest.invariant in
    let parts = passing_all h.passing c.is_empty.ensures c.loop-rest-test.false in
    record {
      walked = (h.passing.done, parts, h.passing.holds);
      gathered = gathering_all _ h parts;
      fault = tt;
    }
