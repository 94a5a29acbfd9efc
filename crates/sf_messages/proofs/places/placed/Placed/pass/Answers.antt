use Rattle.std.proofs.Common.{◌++◌, ℕ, List, subst, sym}
use Rattle.sf_messages.specs.places.Accounts.{IsKept}
use Rattle.sf_messages.specs.places.Behind.{IsBehind}
use Rattle.sf_messages.proofs.PlaceLemmas.Keeping.{passed}
use Rattle.sf_messages.proofs.places.placed.Placed.pass.Goals as goal

pub invariant_of-self : goal.invariant_of-self
invariant_of-self g c =
    let own = c.self.inside in
    let to_come = g.S.Source.to_come own.source in
    let after = c.behind-self-inside.result in
    let moves : (before : List ℕ) → IsBehind before own.place → IsBehind (before ++ own.last.items) after = λ before at.
    subst (λ t. IsBehind (before ++ t) after) c.deref.ensures.0 (c.behind-self-inside.ensures before at) in
    subst (λ last. IsKept g.I.Input.input to_come last after) (sym c.clear.ensures)
    (passed g.I.Input.input to_come own.last.items own.place after c.self.invariant moves)
