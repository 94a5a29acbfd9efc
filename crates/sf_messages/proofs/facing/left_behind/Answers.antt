use Rattle.std.proofs.Common.{◌≡◌, ◌∙◌, ◌+◌, ◌∷◌, List, ap, drop, sym}
use Rattle.sf_format.specs.declared.directive.Directive.{Directive}
use Rattle.sf_pair.proofs.Walking.{drop_next}
use Rattle.sf_messages.specs.Facing.{left_behind}
use Rattle.sf_messages.proofs.facing.left_behind.Goals as goal

pub loop-directive-preserved : goal.loop-directive-preserved
loop-directive-preserved c =
    let ds = c.args.directives.now in
    let i = c.loop-directive.directive-index in
    let d = c.directive-item.result in
    let left = c.loop-directive.left.now in
    let next : drop i ds ≡ d ∷ drop (i + 1) ds = drop_next ds i d c.loop-directive-test.true
    ∙ ap (λ x. x ∷ drop (i + 1) ds) (sym c.directive-item.is) in
    ap (left_behind (drop (i + 1) ds)) c.behind-left.ensures ∙ sym (ap (λ (xs : List Directive). left_behind xs left) next)
    ∙ c.loop-directive.invariant
