use Rattle.sf_float_read.proofs.ItemLemmas.EightDigits.{all_digits, some_digits}
use Rattle.sf_float_read.proofs.item.digits.first_run.Goals as goal

pub returns-then-others-eq0 : goal.returns-then-others-eq0
returns-then-others-eq0 c = all_digits c.args.piece.now c.other_mask-others.result c.requires c.other_mask-others.ensures
    c.if-others-eq0.true

pub returns-else-others-eq0 : goal.returns-else-others-eq0
returns-else-others-eq0 c = some_digits c.args.piece.now c.other_mask-others.result c.requires c.other_mask-others.ensures
    c.if-others-eq0.false
