use Rattle.std.proofs.Common.{◌≡◌, ◌+◌, List, ◌∷◌, drop, sym, ap, ◌∙◌, None, Some}
use Rattle.std.proofs.lemmas.List.{take_rest}
use Rattle.sf_format.specs.declared.directive.Directive.{Directive}
use Rattle.sf_pair.specs.Fits.{assigned_conversions}
use Rattle.sf_pair.proofs.Walking.{drop_next}
use Rattle.sf_pair.proofs.FitTests.{assigned_next}
use Rattle.sf_pair.proofs.in_place.next_assigned.Goals as goal

pub returns-in-Some : goal.returns-in-Some
returns-in-Some c =
    let ds = c.args.directives.now in
    let i = c.loop-i.i in
    let d = c.index-directives-i.result in
    let first : drop i ds ≡ d ∷ drop (i + 1) ds = drop_next ds i d c.loop-i-test.true
    ∙ ap (λ (e : Directive). e ∷ drop (i + 1) ds) (sym c.index-directives-i.is) in
    c.loop-i.invariant ∙ assigned_next ds i d (Some c.in-Some.scan.now) first c.in-Some.ensures
    ∙ ap (λ (t : List Directive). c.in-Some.scan.now ∷ assigned_conversions t) (sym (take_rest ds (i + 1)))

pub loop-i-preserved : goal.loop-i-preserved
loop-i-preserved c =
    let ds = c.args.directives.now in
    let i = c.loop-i.i in
    let d = c.index-directives-i.result in
    let first : drop i ds ≡ d ∷ drop (i + 1) ds = drop_next ds i d c.loop-i-test.true
    ∙ ap (λ (e : Directive). e ∷ drop (i + 1) ds) (sym c.index-directives-i.is) in
    c.loop-i.invariant ∙ assigned_next ds i d None first c.in_default.ensures
