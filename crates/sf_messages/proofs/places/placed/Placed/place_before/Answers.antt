use Rattle.std.proofs.Common.{◌≡◌, ◌∙◌, ◌+◌, ◌++◌, ℕ, List, Some, ap, subst, length, take, arith}
use Rattle.sf_messages.specs.places.Behind.{IsBehind}
use Rattle.sf_messages.proofs.PlaceLemmas.Keeping.{behind_front}
use Rattle.sf_messages.proofs.places.placed.Placed.place_before.Goals as goal

pub returns-clause-behind : goal.returns-clause-behind
returns-clause-behind g c = λ front z is left.
    let own = c.self.inside in
    let count = c.in_ok-count.count in
    let gone = c.in_ok-count.ensures in
    let all = c.len.ensures.value in
    let long : count + length c.args.held.now ≡ length own.last.items = omega (arith, gone, all) in
    let left_own : g.S.Source.to_come own.source ≡ Some z = ap (λ a. g.S.Source.to_come a.source) c.self.view_is ∙ left in
    let moves : (before : List ℕ) → IsBehind before own.place → IsBehind (before ++ take count own.last.items) c.behind.result =
    λ before at.
    subst (λ t. IsBehind (before ++ take count t) c.behind.result) c.deref.ensures.0 (c.behind.ensures before at) in
    behind_front g.I.Input.input (g.S.Source.to_come own.source) own.last.items own.place c.behind.result count front c.args.held.now z
    c.self.invariant long is left_own moves
