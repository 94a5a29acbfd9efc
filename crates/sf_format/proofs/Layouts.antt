-- What a run counts that is Done.
use Rattle.std.proofs.Common.{◌≤◌, ◌+◌, List, [], ◌∷◌, length, cond, arith}
use Rattle.std.proofs.lemmas.List.Sums.{sum_by-cons}
use Rattle.std.specs.List.{cons_option}
use Rattle.sf_format.specs.declared.directive.Directive.{Directive}
use Rattle.sf_format.specs.Layout.{assigns_item, items_assigned}
use Rattle.sf_format.specs.Proper.{destination_of, destinations_of}
use Rattle.sf_format.specs.Slots.{Slotted}

one_more : (d : Directive) (rest : List Slotted) → cond (assigns_item d) 1 0 + length rest ≤ length (cons_option (destination_of d) rest)
one_more d rest = grind arith

-- no more items are assigned than there are destinations
pub assigned_few : (ds : List Directive) → items_assigned ds ≤ length (destinations_of ds)
assigned_few [] = omega arith
assigned_few (d ∷ ds) =
    let sum = sum_by-cons (λ e. cond (assigns_item e) 1 0) d ds in
    let one = one_more d (destinations_of ds) in
    let rest = assigned_few ds in
    omega (arith, sum, one, rest)
