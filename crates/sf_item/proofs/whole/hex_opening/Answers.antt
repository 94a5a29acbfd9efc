use Rattle.std.proofs.Common.{refl, sym}
use Rattle.sf_item.proofs.Wholes.{opens_prefixed}
use Rattle.sf_item.proofs.whole.hex_opening.Goals as goal

pub returns-then-is_prefix_at : goal.returns-then-is_prefix_at
returns-then-is_prefix_at c =
    opens_prefixed c.args.lead c.args.bytes.now c.sign-start.result.0 c.sign-start.result.1 (sym c.if-has_prefix.ensures)
    c.sign-start.ensures (c.if-is_prefix_at.ensures.0 refl)
