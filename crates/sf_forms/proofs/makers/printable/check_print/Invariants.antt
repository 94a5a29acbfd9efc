use Rattle.std.proofs.Common.{◌≡◌, ◌≤◌, ◌<◌, ◌+◌, ℕ, true}
use Rattle.sf_forms.specs.makers.Prints.{suits}
use Rattle.sf_forms.proofs.makers.printable.check_print.Given as goal

-- the values so far suit
abbrev pub invariant-loop-before : goal.invariant-loop-before
invariant-loop-before l = (lower : ℕ) → 1 ≤ lower → lower < l.before + 1 → suits l.print l.scan lower ≡ true
