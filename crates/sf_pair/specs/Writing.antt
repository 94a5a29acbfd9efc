-- What writing values by a pair does.
use Rattle.std.specs.Prelude.{ℕ, Bool, false, List, Option, Result, Ok, Err}
use Rattle.sf_print.specs.Printed.{WritesText, is_sink_fault}
use Rattle.sf_pair.specs.declared.fault.WriteFault.{WriteFault}
use Rattle.sf_pair.specs.declared.fault.WriteFault.TheVariants as fault

-- the sink took the text whole, whose length is answered; or it failed after some first bytes of it, not all
abbrev pub WritesWhole : Option (List ℕ) → Option (List ℕ) → List ℕ → Result ℕ WriteFault → Type 0
WritesWhole old new text (Ok n) = WritesText old new text (Ok n)
WritesWhole old new text (Err (fault.Print f)) = WritesText old new text (Err f)
WritesWhole old new text (Err fault.NotFitting) = ⊥

abbrev pub is_sink_failure : Result ℕ WriteFault → Bool
is_sink_failure (Err (fault.Print f)) = is_sink_fault (Err f)
is_sink_failure _ = false
