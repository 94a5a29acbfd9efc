use Rattle.sf_pair.proofs.JoinedTexts as whole
use Rattle.sf_pair.proofs.laws.joined_round_trip.Goals as goal

pub returns : goal.returns
returns c = whole.joined_round_trip c.laws_below.ensures
