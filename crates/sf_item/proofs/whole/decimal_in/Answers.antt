use Rattle.std.proofs.Common.{◌+◌, ◌<◌, ◌≤◌, length, inl, inr, ap, arith}
use Rattle.std.proofs.lemmas.List.{length-take}
use Rattle.sf_format.specs.declared.directive.Base.TheVariants.{Dec}
use Rattle.sf_item.specs.Wholes.{led_by}
use Rattle.sf_item.proofs.Readings.{length_rest}
use Rattle.sf_item.proofs.Wholes.{decimal_opened, large_integer, no_integer, whole_integer}
use Rattle.sf_item.proofs.whole.decimal_in.Goals as goal

pub returns-in_default : goal.returns-in_default
returns-in_default c width is =
    let piece = c.args.piece.now in
    let front = c.args.front.now in
    let long = ap length c.requires in
    let short : length front ≤ length piece = omega (arith, long, length-take (length front) piece) in
    let start = c.sign-start.result.0 in
    let sign = c.sign-start.result.1 in
    let opened = decimal_opened c.args.lead front start sign c.sign-start.ensures in
    elim c.in_default.ensures.digits [
      | inl more ↦
          large_integer piece front width c.requires short is.room is.whole
          (led_by c.args.lead Dec) 10 start more.count more.number sign opened
          more.digits more.large
      | inr none ↦
          no_integer piece front width c.requires short is.room is.whole
          (led_by c.args.lead Dec) 10 start 0 none.number sign opened none.digits
          (λ some behind. omega (arith, some))
    ]

pub returns-then-bytes-piece : goal.returns-then-bytes-piece
returns-then-bytes-piece c width is =
    let piece = c.args.piece.now in
    let front = c.args.front.now in
    let long = ap length c.requires in
    let short : length front ≤ length piece = omega (arith, long, length-take (length front) piece) in
    let start = c.sign-start.result.0 in
    let sign = c.sign-start.result.1 in
    let count = c.in-Some.count in
    no_integer piece front width c.requires short is.room is.whole (led_by c.args.lead Dec) 10 start
    count c.in-Some.magnitude sign
    (decimal_opened c.args.lead front start sign c.sign-start.ensures) c.in-Some.ensures.digits
    (λ some behind. let all = c.if-bytes-piece.true in omega (arith, all, behind))

pub returns : goal.returns
returns c width is =
    let piece = c.args.piece.now in
    let front = c.args.front.now in
    let long = ap length c.requires in
    let short : length front ≤ length piece = omega (arith, long, length-take (length front) piece) in
    let start = c.sign-start.result.0 in
    let sign = c.sign-start.result.1 in
    let count = c.in-Some.count in
    let opened = decimal_opened c.args.lead front start sign c.sign-start.ensures in
    let digits = c.in-Some.ensures.digits in
    let most = digits.within in
    let inside = opened.inside in
    let some : 0 < count = c.in-Some.ensures.some in
    let behind : start + count < length piece = omega (arith, most, short, length_rest front start, inside, c.if-bytes-piece.false) in
    whole_integer piece front width c.requires short is.room is.whole (led_by c.args.lead Dec) 10 start
    count c.in-Some.magnitude sign
    opened digits some behind
