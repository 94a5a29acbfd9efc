use Rattle.std.proofs.Common.{◌≡◌, map, take}
use Rattle.sf_forms.specs.Columns.{texts}
use Rattle.sf_forms.specs.Heads.{head}
use Rattle.sf_forms.proofs.heads.heads_of.Given as goal

-- the heads of the names so far
abbrev pub invariant-loop-name : goal.invariant-loop-name
invariant-loop-name l = map (λ text. text.items) l.heads.items ≡ map head (texts (take l.name-index l.names))
