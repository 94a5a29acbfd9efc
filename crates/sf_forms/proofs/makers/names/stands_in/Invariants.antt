use Rattle.std.proofs.Common.{◌≡◌, take}
use Rattle.std.specs.List.{AllByRecursion}
use Rattle.sf_forms.proofs.makers.names.stands_in.Given as goal

-- none of those so far is the text
abbrev pub invariant-loop-name : goal.invariant-loop-name
invariant-loop-name l = AllByRecursion (λ name. name.now ≡ l.text → ⊥) (take l.name-index l.names)
