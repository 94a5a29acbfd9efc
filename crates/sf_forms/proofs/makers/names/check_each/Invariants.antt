use Rattle.std.proofs.Common.{◌+◌}
use Rattle.sf_forms.specs.Columns.{texts}
use Rattle.sf_forms.specs.makers.Names.{AreGoodBelow}
use Rattle.sf_forms.proofs.makers.names.check_each.Given as goal

-- the names so far are good
abbrev pub invariant-loop-before : goal.invariant-loop-before
invariant-loop-before l = AreGoodBelow l.tagged (texts l.names) (l.before + 1)
