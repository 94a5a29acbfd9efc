use Rattle.std.proofs.Common.{sym, ap, ◌∙◌}
use Rattle.std.proofs.lemmas.List.{take_rest}
use Rattle.sf_pair.specs.Groups.{starts_with_space}
use Rattle.sf_pair.proofs.Walking.{space_on}
use Rattle.sf_messages.proofs.facing.after_space.Goals as goal

pub loop-i-preserved : goal.loop-i-preserved
loop-i-preserved c =
    c.loop-i.invariant
    ∙ space_on c.args.units.now c.loop-i.i c.loop-i-test.true (ap starts_with_space (sym (take_rest c.args.units.now c.loop-i.i))
    ∙ sym c.is_space_first.ensures ∙ c.if-not-is_space_first.false)
