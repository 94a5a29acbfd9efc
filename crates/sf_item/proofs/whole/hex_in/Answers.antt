use Rattle.std.proofs.Common.{◌+◌, ◌<◌, ◌≤◌, length, ap, arith}
use Rattle.std.proofs.lemmas.List.{length-take}
use Rattle.sf_format.specs.declared.directive.Base.TheVariants.{Hex}
use Rattle.sf_item.specs.Wholes.{led_by}
use Rattle.sf_item.proofs.Readings.{length_rest}
use Rattle.sf_item.proofs.Wholes.{hex_opened, large_integer, no_integer, whole_integer}
use Rattle.sf_item.proofs.Zeros.{rest_front}
use Rattle.sf_item.proofs.whole.hex_in.Goals.{then-count-eq0-via-then-count-eq0, then-count-eq0-via-else-count-eq0+then-end-piece}
use Rattle.sf_item.proofs.whole.hex_in.Goals as goal

pub hex_number-requires : goal.hex_number-requires
hex_number-requires c =
    let front = c.args.front.now in
    let start = c.hex_opening-start.result.0 in
    rest_front front c.args.piece.now start c.requires
    (hex_opened c.args.lead front start c.hex_opening-start.result.1 c.hex_opening-start.ensures).inside

pub returns-in_default : goal.returns-in_default
returns-in_default c width is =
    let piece = c.args.piece.now in
    let front = c.args.front.now in
    let long = ap length c.requires in
    let short : length front ≤ length piece = omega (arith, long, length-take (length front) piece) in
    let start = c.hex_opening-start.result.0 in
    let sign = c.hex_opening-start.result.1 in
    let more = c.in_default.ensures in
    large_integer piece front width c.requires short is.room is.whole (led_by c.args.lead Hex) 16 start
    more.count more.number sign
    (hex_opened c.args.lead front start sign c.hex_opening-start.ensures) more.digits more.large

pub returns-then-count-eq0 : goal.returns-then-count-eq0
returns-then-count-eq0 c width is =
    let piece = c.args.piece.now in
    let front = c.args.front.now in
    let long = ap length c.requires in
    let short : length front ≤ length piece = omega (arith, long, length-take (length front) piece) in
    let start = c.hex_opening-start.result.0 in
    let sign = c.hex_opening-start.result.1 in
    let count = c.in-Some.count in
    no_integer piece front width c.requires short is.room is.whole (led_by c.args.lead Hex) 16 start
    count c.in-Some.magnitude sign
    (hex_opened c.args.lead front start sign c.hex_opening-start.ensures) c.in-Some.ensures
    (λ some behind. elim c.then-count-eq0.branch [
      | then-count-eq0-via-then-count-eq0 w ↦ let none = w.if-count-eq0.true in omega (arith, none, some)
      | then-count-eq0-via-else-count-eq0+then-end-piece w ↦ let all = w.if-end-piece.true in omega (arith, all, behind)
    ])

pub returns : goal.returns
returns c width is =
    let piece = c.args.piece.now in
    let front = c.args.front.now in
    let long = ap length c.requires in
    let short : length front ≤ length piece = omega (arith, long, length-take (length front) piece) in
    let start = c.hex_opening-start.result.0 in
    let sign = c.hex_opening-start.result.1 in
    let count = c.in-Some.count in
    let opened = hex_opened c.args.lead front start sign c.hex_opening-start.ensures in
    let digits = c.in-Some.ensures in
    let most = digits.within in
    let inside = opened.inside in
    let some : 0 < count = omega (arith, c.if-count-eq0.false) in
    let behind : start + count < length piece = omega (arith, most, short, length_rest front start, inside, c.if-end-piece.false) in
    whole_integer piece front width c.requires short is.room is.whole (led_by c.args.lead Hex) 16 start
    count c.in-Some.magnitude sign
    opened digits some behind
