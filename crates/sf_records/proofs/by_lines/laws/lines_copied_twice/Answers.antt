use Rattle.sf_records.proofs.LinewiseLemmas.Copied.{copied_twice}
use Rattle.sf_records.proofs.by_lines.laws.lines_copied_twice.Goals as goal

pub returns : goal.returns
returns c =
    copied_twice c.round_trip.ensures c.slots_agree.ensures c.fits_is_fit.ensures c.one_report.ensures c.runs_are_computed.ensures.steps
    c.aligned_is_whole.ensures.conversions c.done_runs_stay.ensures c.lines_are_joined.ensures
