use Rattle.sf_item.proofs.Tables.{value_at}
use Rattle.sf_item.proofs.digits.value_of.Goals as goal

pub returns : goal.returns
returns c = value_at c.args.b c.ranges.b.fits
