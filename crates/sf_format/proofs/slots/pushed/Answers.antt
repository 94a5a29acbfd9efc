use Rattle.sf_format.specs.Passing.{opening_of}
use Rattle.sf_format.proofs.Destinations.{held_more}
use Rattle.sf_format.proofs.slots.pushed.Goals as goal

pub returns-then-numbered-clause-pushed : goal.returns-then-numbered-clause-pushed
returns-then-numbered-clause-pushed c =
    λ earlier holds.
    held_more c.args.slots (opening_of c.args.written.now) c.is_empty-numbered.result earlier c.args.at c.if-written.false
    c.is_empty-numbered.ensures holds
    (c.in_default.ensures.first earlier holds)

pub returns-else-numbered-clause-pushed : goal.returns-else-numbered-clause-pushed
returns-else-numbered-clause-pushed c =
    λ earlier holds.
    held_more c.args.slots (opening_of c.args.written.now) c.is_empty-numbered.result earlier c.args.at c.if-written.false
    c.is_empty-numbered.ensures holds
    (c.in_default.ensures.first earlier holds)
