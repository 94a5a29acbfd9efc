-- What a command answers.
use Rattle.std.specs.Prelude.{ℕ, Result}
use Rattle.sf_messages.specs.declared.fault.CommandFault.{CommandFault}

-- the exit status, or why the command was not carried out, or not to its end
abbrev pub Answer : Type 0
Answer = Result ℕ CommandFault
