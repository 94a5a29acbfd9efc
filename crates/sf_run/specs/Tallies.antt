-- What a tally of the code stands for.
use Rattle.std.specs.Prelude.{◌≡◌, Bool, true, List, [], ◌∷◌, ◌++◌}
use Rattle.sf_base.specs.Data.{Assigned}
use Rattle.sf_run.specs.declared.tally.Tally as code
use Rattle.sf_report.specs.Residual.{Tally}
use Rattle.sf_report.specs.Runs.{passed, has_stored}
use Rattle.sf_report.specs.Steps.{StepEnd, Stores}

-- the counts with what the destinations were given
abbrev pub tally_of : code.Tally → List Assigned → Tally
tally_of t values = record { used = t.used; assigned = t.assigned; converted = t.converted; values = values }

-- with what a directive that ends so gives
abbrev pub values_with : StepEnd → List Assigned → List Assigned
values_with (Stores slot v) values = values ++ record { slot = slot; datum = v } ∷ []
values_with _ values = values

-- a directive that ends so passes, and stores something or not
pub record PassesSo (end : StepEnd) (stores : Bool) : Type 0 where
  pub passes : passed end ≡ true
  pub stored : has_stored end ≡ stores
