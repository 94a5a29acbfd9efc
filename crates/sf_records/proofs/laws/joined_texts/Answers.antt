use Rattle.sf_records.proofs.Copying.{carries_over, gives_rows}
use Rattle.sf_records.proofs.laws.joined_texts.Goals as goal

pub returns : goal.returns
returns c units ds pair =
    gives_rows c.fits_is_fit.ensures units ds (carries_over c.round_trip.ensures c.slots_agree.ensures c.prints_some.ensures
    c.ends_on_nothing.ensures units ds pair)
