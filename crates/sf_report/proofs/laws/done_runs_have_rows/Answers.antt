use Rattle.sf_report.proofs.HaveRows as rows
use Rattle.sf_report.proofs.laws.done_runs_have_rows.Goals as goal

pub returns-clause-slots : goal.returns-clause-slots
returns-clause-slots c = rows.done_runs_fill_slots

pub returns-clause-row : goal.returns-clause-row
returns-clause-row c = rows.done_runs_have_rows
