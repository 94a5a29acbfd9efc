use Rattle.std.proofs.Common.{false, refl}
use Rattle.sf_format.specs.declared.directive.Base.TheVariants.{Dec}
use Rattle.sf_format.specs.declared.directive.Lead.TheVariants.{Any}
use Rattle.sf_item.specs.Wholes.{led_by}
use Rattle.sf_item.specs.Progress.{Digits}
use Rattle.sf_item.proofs.Wholes.{long_digits, short_digits}
use Rattle.sf_item.proofs.whole.long_number.Goals as goal

pub returns-then-taken : goal.returns-then-taken
returns-then-taken c =
    let e = c.digit_front-count.ensures in
    let p = Digits false c.args.radix 0 in
    long_digits c.args.digits.now c.args.radix c.digit_front-count.result c.digit_front-count.new.digits e.within
    (e.read (led_by Any Dec) p (0, refl, refl)) (λ below. e.stops below (led_by Any Dec) p (0, refl, refl)) c.if-taken.true

pub returns-else-taken : goal.returns-else-taken
returns-else-taken c =
    let e = c.digit_front-count.ensures in
    let p = Digits false c.args.radix 0 in
    short_digits c.args.digits.now c.args.radix c.digit_front-count.result c.digit_front-count.new.digits e.within
    (e.read (led_by Any Dec) p (0, refl, refl)) (λ below. e.stops below (led_by Any Dec) p (0, refl, refl)) c.if-taken.false
