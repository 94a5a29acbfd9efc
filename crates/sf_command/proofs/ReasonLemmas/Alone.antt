-- A text after which nothing is said.
use Rattle.std.proofs.Common.{ℕ, Bool, true, false, List, Option, Some, None, inl, refl}
use Rattle.std.specs.declared.io.Error.{Error}
use Rattle.sf_command.specs.reasons.Faults.{IsWithReason}

pub alone : (explain : Bool) (why : Option Error) (text : List ℕ) → IsWithReason explain why text text
alone false why text = refl
alone true None text = refl
alone true (Some error) text = inl refl
