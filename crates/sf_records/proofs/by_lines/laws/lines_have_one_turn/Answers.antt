use Rattle.sf_run.proofs.Told as told
use Rattle.sf_records.proofs.LinewiseLemmas.OneTurn.{same_turns}
use Rattle.sf_records.proofs.LinewiseLemmas.Turning.{turns_behind}
use Rattle.sf_records.proofs.by_lines.laws.lines_have_one_turn.Goals as goal

pub returns : goal.returns
returns c w scanned n lines =
    let all = turns_behind told.one_report w scanned n lines in
    record { turns = all.0; are = all.1; only = λ others are. same_turns told.one_report w scanned n lines others all.0 are all.1 }
