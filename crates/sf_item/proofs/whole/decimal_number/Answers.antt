use Rattle.std.proofs.Common.{◌<◌, ◌^◌, take, subst}
use Rattle.sf_item.specs.Wholes.{ReadsIn}
use Rattle.sf_item.proofs.whole.decimal_number.Goals as goal

pub short_decimal-requires-clause-read : goal.short_decimal-requires-clause-read
short_decimal-requires-clause-read c =
    subst (λ n. ReadsIn 10 0 (take n c.args.piece.now) c.first_digits-number.result.0) c.if-first-eq-LANES.true
    c.first_digits-number.ensures.read

pub short_decimal-requires-clause-small : goal.short_decimal-requires-clause-small
short_decimal-requires-clause-small c =
    subst (λ n. c.first_digits-number.result.0 < 10 ^ n) c.if-first-eq-LANES.true c.first_digits-number.ensures.small
