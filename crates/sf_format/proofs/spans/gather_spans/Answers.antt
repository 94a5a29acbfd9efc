use Rattle.std.proofs.Common.{inl, refl, arith}
use Rattle.std.proofs.lemmas.Result.{err_from_is_err_and}
use Rattle.sf_format.proofs.Walks.{bytes_of, passes_on, nothing_passed, passing_none, passing_all, passing_fault, rest_shorter}
use Rattle.sf_format.proofs.SpanTexts.{spanning_more, spanning_over}
use Rattle.sf_format.proofs.spans.gather_spans.Goals as goal
use Rattle.sf_format.proofs.spans.gather_spans.Goals.{then-not-is_mark+in_ok-push, else-not-is_mark}

pub loop-rest-init : goal.loop-rest-init
loop-rest-init g c =
    rw c.new-spans.ensures.items
    (record {
      passing = passing_none (g.G.Grammar.language c.args.grammar) c.args.text.now _
          (bytes_of c.args.text.now (λ i. omega (arith, c.type_inv.text i))) nothing_passed;
      are = refl;
    })

pub returns-in_err-step-clause-hindered : goal.returns-in_err-step-clause-hindered
returns-in_err-step-clause-hindered g c =
    let h = c.loop-rest.invariant.passing in
    let p = err_from_is_err_and c.from_residual.result c.from_residual.ensures.1 in
    rw (p.1, p.2) (inl (passing_fault c.in_err-step.field-0.0 h (c.in_err-step.ensures h.done h.place h.holds)))

pub overflow_sub-end : goal.overflow_sub-end
overflow_sub-end g c =
    let h = c.loop-rest.invariant.passing in
    let step = c.in_ok-step.ensures h.done h.place h.holds in
    (rest_shorter (passes_on h c.is_empty.ensures c.loop-rest-test.true step.0 step.1 step.3)).1

pub returns-clause-gathered : goal.returns-clause-gathered
returns-clause-gathered g c =
    let h = c.loop-rest.invariant in
    (h.passing.done, passing_all h.passing c.is_empty.ensures c.loop-rest-test.false, h.are)

pub loop-rest-smaller : goal.loop-rest-smaller
loop-rest-smaller g c =
    let h = c.loop-rest.invariant.passing in
    let step = c.in_ok-step.ensures h.done h.place h.holds in
    (rest_shorter (passes_on h c.is_empty.ensures c.loop-rest-test.true step.0 step.1 step.3)).0

pub loop-rest-smaller-after-not-is_mark : goal.loop-rest-smaller-after-not-is_mark
loop-rest-smaller-after-not-is_mark g c =
    let h = c.loop-rest.invariant.passing in
    let step = c.in_ok-step.ensures h.done h.place h.holds in
    (rest_shorter (passes_on h c.is_empty.ensures c.loop-rest-test.true step.0 step.1 step.3)).0

pub loop-rest-preserved : goal.loop-rest-preserved
loop-rest-preserved g c =
    let h = c.loop-rest.invariant in
    let step = c.in_ok-step.ensures h.passing.done h.passing.place h.passing.holds in
    let passes = passes_on h.passing c.is_empty.ensures c.loop-rest-test.true step.0 step.1 step.3 in
    elim c.if-not-is_mark.branch [
      | then-not-is_mark+in_ok-push w ↦
          rw (w.spans-is, w.in_ok-push.ensures.items) (spanning_more h passes step.5 c.is_mark.ensures w.if-not-is_mark.true)
      | else-not-is_mark w ↦ rw w.spans-is (spanning_over h passes step.5 c.is_mark.ensures w.if-not-is_mark.false)
    ]

pub loop-rest-preserved-after-not-is_mark : goal.loop-rest-preserved-after-not-is_mark
loop-rest-preserved-after-not-is_mark g c =
    let h = c.loop-rest.invariant in
    let step = c.in_ok-step.ensures h.passing.done h.passing.place h.passing.holds in
    let passes = passes_on h.passing c.is_empty.ensures c.loop-rest-test.true step.0 step.1 step.3 in
    elim c.if-not-is_mark.branch [
      | then-not-is_mark+in_ok-push w ↦
          rw (w.spans-is, w.in_ok-push.ensures.items) (spanning_more h passes step.5 c.is_mark.ensures w.if-not-is_mark.true)
      | else-not-is_mark w ↦ rw w.spans-is (spanning_over h passes step.5 c.is_mark.ensures w.if-not-is_mark.false)
    ]
