use Rattle.sf_records.proofs.Copying.{carries_over, twice}
use Rattle.sf_records.proofs.laws.copied_twice.Goals as goal

pub returns : goal.returns
returns c units ds pair =
    twice c.fits_is_fit.ensures units ds (carries_over c.round_trip.ensures c.slots_agree.ensures c.prints_some.ensures
    c.ends_on_nothing.ensures units ds pair)
