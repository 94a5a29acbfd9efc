use Rattle.std.proofs.Common.{sym, true≢false}
use Rattle.sf_float_read.proofs.ItemLemmas.Places.{not_closed}
use Rattle.sf_float_read.proofs.item.reached.Reached.is_closed.Goals as goal

pub returns-in_default : goal.returns-in_default
returns-in_default c = (
  (λ h. absurd (true≢false (sym h))),
  (λ none. absurd (not_closed c.args.self c.in_default.not-Infinity c.in_default.not-Closed none)),
)
