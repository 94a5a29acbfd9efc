use Rattle.sf_format.specs.Passing.{opening_of}
use Rattle.sf_format.proofs.Destinations.{mixed_result}
use Rattle.sf_format.proofs.slots.mixes.Goals as goal

pub returns-then-slots-gt0 : goal.returns-then-slots-gt0
returns-then-slots-gt0 c =
    λ earlier holds. mixed_result c.args.slots (opening_of c.args.written.now) c.is_empty.result earlier
    c.if-slots-gt0.true.0 c.if-slots-gt0.true.1 c.is_empty.ensures holds
