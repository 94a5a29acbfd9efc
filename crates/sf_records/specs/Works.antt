-- What a loop over records makes of each.
use Rattle.std.specs.Prelude.{ℕ, if◌then◌else◌, List, []}
use Rattle.std.specs.List.{flat_map}
use Rattle.sf_format.specs.declared.directive.Directive.{Directive}
use Rattle.sf_format.specs.Proper.{has_optional}
use Rattle.sf_run.specs.Runs.{RunReport}
pub use Rattle.sf_forms.specs.makers.Works.{Work}
use Rattle.sf_records.specs.declared.turn.Turn.{Turn}
use Rattle.sf_records.specs.Turns.{turn_of, fit_turn, writes}

-- what the loop does after a run of the directives
abbrev pub turn_in : Work → List Directive → RunReport → Turn
turn_in w ds r = fit_turn (w.fits r) (turn_of (has_optional ds) r)

abbrev pub texts : Work → List RunReport → List ℕ
texts w rs = flat_map w.text rs

-- what is written for the run at which the loop stops
abbrev pub last_text : Work → List Directive → RunReport → List ℕ
last_text w ds r = if writes (turn_in w ds r) then w.text r else []
