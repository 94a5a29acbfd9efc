use Rattle.std.proofs.Common.{[], refl, sym, ◌∙◌, arith, rules}
use Rattle.sf_format.proofs.Outcomes.{not_false, not_true}
use Rattle.sf_format.proofs.Walks.{bytes_of, nothing_passed, passing_none, passes_on, passing_fault, rest_shorter}
use Rattle.sf_format.proofs.Notings.{unnumbered_none, noting_more, noting_all}
use Rattle.sf_format.proofs.noted.number_fault.Goals as goal

pub returns-then-not-all : goal.returns-then-not-all
returns-then-not-all g c = λ pieces e. unnumbered_none (g.G.Grammar.language c.args.grammar) c.args.text.now c.args.all pieces
    (not_true _ c.if-not-all.true) c.requires.walked e

pub loop-rest-init : goal.loop-rest-init
loop-rest-init g c =
    record {
      passing = passing_none (g.G.Grammar.language c.args.grammar) c.args.text.now _
          (bytes_of c.args.text.now (λ i. omega (arith, c.type_inv.text i))) nothing_passed;
      ns = [];
      notes = search rules;
      same = λ written. refl;
    }

pub unreachable-requires : goal.unreachable-requires
unreachable-requires g c =
    let h = c.loop-rest.invariant.passing in
    let e = sym c.requires.walked.1 ∙ passing_fault c.in_default.field-0 h (c.in_default.ensures h.done h.place h.holds) in
    cc

pub overflow_sub-at : goal.overflow_sub-at
overflow_sub-at g c =
    let h = c.loop-rest.invariant.passing in
    let step = c.in-Ok.ensures h.done h.place h.holds in
    (rest_shorter (passes_on h c.is_empty.ensures c.loop-rest-test.true step.0 step.1 step.3)).1

pub loop-rest-smaller : goal.loop-rest-smaller
loop-rest-smaller g c =
    let h = c.loop-rest.invariant.passing in
    let step = c.in-Ok.ensures h.done h.place h.holds in
    (rest_shorter (passes_on h c.is_empty.ensures c.loop-rest-test.true step.0 step.1 step.3)).0

pub loop-rest-smaller-in-Ok : goal.loop-rest-smaller-in-Ok
loop-rest-smaller-in-Ok g c =
    let h = c.loop-rest.invariant.passing in
    let step = c.in-Ok.ensures h.done h.place h.holds in
    (rest_shorter (passes_on h c.is_empty.ensures c.loop-rest-test.true step.0 step.1 step.3)).0

pub loop-rest-preserved : goal.loop-rest-preserved
loop-rest-preserved g c =
    let h = c.loop-rest.invariant in
    let step = c.in-Ok.ensures h.passing.done h.passing.place h.passing.holds in
    noting_more h (passes_on h.passing c.is_empty.ensures c.loop-rest-test.true step.0 step.1 step.3)
    step.4 (c.note.ensures h.ns h.notes)

pub loop-rest-preserved-in-Ok : goal.loop-rest-preserved-in-Ok
loop-rest-preserved-in-Ok g c =
    let h = c.loop-rest.invariant in
    let step = c.in-Ok.ensures h.passing.done h.passing.place h.passing.holds in
    noting_more h (passes_on h.passing c.is_empty.ensures c.loop-rest-test.true step.0 step.1 step.3)
    step.4 (c.note.ensures h.ns h.notes)

pub returns : goal.returns
returns g c =
    λ pieces e.
    let h = c.loop-rest.invariant in
    c.noted_fault.ensures c.args.all.slots.count h.ns h.notes
    ∙ noting_all c.args.all pieces h c.is_empty.ensures c.loop-rest-test.false (not_false _ c.if-not-all.false) c.requires.walked e
