use Rattle.std.proofs.Common.{◌≡◌, true, take}
use Rattle.std.specs.List.{list_all}
use Rattle.sf_forms.specs.Csv.{is_bare}
use Rattle.sf_forms.proofs.csv.is_bare.Given as goal

-- the bytes so far stand without quotes
abbrev pub invariant-loop-b : goal.invariant-loop-b
invariant-loop-b l = list_all is_bare (take l.b-index l.bytes) ≡ true
