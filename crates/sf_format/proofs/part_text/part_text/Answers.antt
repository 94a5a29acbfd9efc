use Rattle.std.proofs.Common.{sym, ◌∙◌, arith}
use Rattle.sf_format.proofs.Walks.{bytes_of, nothing_passed, passing_none, passes_on, passing_fault, rest_shorter}
use Rattle.sf_format.proofs.PartTexts.{counting_more, counting_over, text_found, text_none}
use Rattle.sf_format.proofs.part_text.part_text.Goals as goal
use Rattle.sf_format.proofs.part_text.part_text.Goals.{then-not-is_mark+else-left-eq1, else-not-is_mark}

pub loop-rest-init : goal.loop-rest-init
loop-rest-init g c =
    record {
      passing = passing_none (g.G.Grammar.language c.args.grammar) c.args.text.now _
          (bytes_of c.args.text.now (λ i. omega (arith, c.type_inv.text i))) nothing_passed;
      some = omega arith;
      count = omega arith;
    }

pub returns-in_default : goal.returns-in_default
returns-in_default g c =
    λ pieces e.
    let h = c.loop-rest.invariant.passing in
    let f = sym e ∙ passing_fault c.in_default.field-0 h (c.in_default.ensures h.done h.place h.holds) in
    absurd (cc)

pub slice_bounds-result-count : goal.slice_bounds-result-count
slice_bounds-result-count g c =
    let h = c.loop-rest.invariant.passing in
    let step = c.in-Ok.ensures h.done h.place h.holds in
    let shorter = (rest_shorter (passes_on h c.is_empty.ensures c.loop-rest-test.true step.0 step.1 step.3)).0 in
    omega arith

pub returns-then-left-eq1 : goal.returns-then-left-eq1
returns-then-left-eq1 g c =
    λ pieces e.
    let h = c.loop-rest.invariant in
    let step = c.in-Ok.ensures h.passing.done h.passing.place h.passing.holds in
    text_found pieces h (passes_on h.passing c.is_empty.ensures c.loop-rest-test.true step.0 step.1 step.3) step.5
    c.is_mark.ensures c.if-not-is_mark.true c.if-left-eq1.true e

pub overflow_sub-at : goal.overflow_sub-at
overflow_sub-at g c =
    let h = c.loop-rest.invariant.passing in
    let step = c.in-Ok.ensures h.done h.place h.holds in
    (rest_shorter (passes_on h c.is_empty.ensures c.loop-rest-test.true step.0 step.1 step.3)).1

pub returns : goal.returns
returns g c = λ pieces e. text_none pieces c.loop-rest.invariant c.is_empty.ensures c.loop-rest-test.false e

pub loop-rest-smaller : goal.loop-rest-smaller
loop-rest-smaller g c =
    let h = c.loop-rest.invariant.passing in
    let step = c.in-Ok.ensures h.done h.place h.holds in
    (rest_shorter (passes_on h c.is_empty.ensures c.loop-rest-test.true step.0 step.1 step.3)).0

pub loop-rest-smaller-after-not-is_mark : goal.loop-rest-smaller-after-not-is_mark
loop-rest-smaller-after-not-is_mark g c =
    let h = c.loop-rest.invariant.passing in
    let step = c.in-Ok.ensures h.done h.place h.holds in
    (rest_shorter (passes_on h c.is_empty.ensures c.loop-rest-test.true step.0 step.1 step.3)).0

pub loop-rest-preserved : goal.loop-rest-preserved
loop-rest-preserved g c =
    let h = c.loop-rest.invariant in
    let step = c.in-Ok.ensures h.passing.done h.passing.place h.passing.holds in
    let passes = passes_on h.passing c.is_empty.ensures c.loop-rest-test.true step.0 step.1 step.3 in
    elim c.if-not-is_mark.branch [
      | then-not-is_mark+else-left-eq1 w ↦
          rw w.left-is
          (counting_more h passes step.5 c.is_mark.ensures w.if-not-is_mark.true (omega (arith, h.some, w.if-left-eq1.false)))
      | else-not-is_mark w ↦ rw w.left-is (counting_over h passes step.5 c.is_mark.ensures w.if-not-is_mark.false)
    ]

pub loop-rest-preserved-after-not-is_mark : goal.loop-rest-preserved-after-not-is_mark
loop-rest-preserved-after-not-is_mark g c =
    let h = c.loop-rest.invariant in
    let step = c.in-Ok.ensures h.passing.done h.passing.place h.passing.holds in
    let passes = passes_on h.passing c.is_empty.ensures c.loop-rest-test.true step.0 step.1 step.3 in
    elim c.if-not-is_mark.branch [
      | then-not-is_mark+else-left-eq1 w ↦
          rw w.left-is
          (counting_more h passes step.5 c.is_mark.ensures w.if-not-is_mark.true (omega (arith, h.some, w.if-left-eq1.false)))
      | else-not-is_mark w ↦ rw w.left-is (counting_over h passes step.5 c.is_mark.ensures w.if-not-is_mark.false)
    ]
