use Rattle.std.proofs.Common.{take}
use Rattle.std.specs.List.{AllByRecursion}
use Rattle.sf_forms.specs.Columns.{texts}
use Rattle.sf_forms.specs.makers.Names.{IsCounted}
use Rattle.sf_forms.proofs.makers.names.check_counts.Given as goal

-- the formats so far give as many values as there are names
abbrev pub invariant-loop-format : goal.invariant-loop-format
invariant-loop-format l = AllByRecursion (IsCounted (texts l.names)) (take l.format-index l.formats)
