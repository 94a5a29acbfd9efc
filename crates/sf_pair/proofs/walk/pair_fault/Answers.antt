use Rattle.std.proofs.Common.{◌≡◌, ◌+◌, ◌||◌, List, ◌∷◌, drop, Ok, sym, ap, ◌∙◌}
use Rattle.std.proofs.lemmas.List.{take_rest}
use Rattle.sf_format.specs.declared.directive.Directive.{Directive}
use Rattle.sf_pair.specs.Groups.{assigns, next_of}
use Rattle.sf_pair.specs.Walk.{take_group}
use Rattle.sf_pair.proofs.Walking.{drop_next, walk_on, assigned_on, by_true, by_false}
use Rattle.sf_pair.proofs.walk.pair_fault.Goals as goal
use Rattle.sf_pair.proofs.walk.pair_fault.Goals.{then-assigned, else-assigned}

pub loop-i-preserved : goal.loop-i-preserved
loop-i-preserved c =
    let ds = c.args.directives.now in
    let i = c.loop-i.i in
    let d = c.index-directives-i.result in
    let first : drop i ds ≡ d ∷ drop (i + 1) ds = drop_next ds i d c.loop-i-test.true
    ∙ ap (λ (e : Directive). e ∷ drop (i + 1) ds) (sym c.index-directives-i.is) in
    let taken : take_group d c.loop-i.left.now (next_of (drop (i + 1) ds)) ≡ Ok c.in-Ok.rest.now =
    ap (λ (t : List Directive). take_group d c.loop-i.left.now (next_of t)) (sym (take_rest ds (i + 1))) ∙ c.in-Ok.ensures in
    let gained : c.if-assigned.assigned ≡ (c.loop-i.assigned || assigns d) = elim c.if-assigned.branch [
      | then-assigned w ↦ w.assigned-is ∙ w.if-assigned.true ∙ by_true c.loop-i.assigned (assigns d) w.if-assigned.true
      | else-assigned w ↦ w.assigned-is ∙ w.assigns-assigned.ensures ∙ by_false c.loop-i.assigned (assigns d) w.if-assigned.false
    ] in
    record {
      walked = c.loop-i.invariant.walked ∙ walk_on ds i d c.loop-i.left.now c.in-Ok.rest.now first taken;
      found = c.loop-i.invariant.found ∙ assigned_on ds i d c.loop-i.assigned c.if-assigned.assigned first gained;
    }
