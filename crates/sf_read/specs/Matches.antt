-- How much of a text a match has to use.
use Rattle.std.specs.Prelude.{ℕ, nat_lt, Bool, false}
use Rattle.sf_run.specs.outcome.Status.{Status}
use Rattle.sf_run.specs.outcome.Status.TheVariants.{Done}
use Rattle.sf_read.specs.declared.matching.Match.{Match}
use Rattle.sf_read.specs.declared.matching.Match.TheVariants.{Front, Whole}

-- a run with this status that used so many bytes of a text of so many is Done, and leaves some that it had to use
abbrev pub leaves : Match → Status → ℕ → ℕ → Bool
leaves Front status used len = false
leaves Whole Done used len = nat_lt used len
leaves Whole _ used len = false
