use Rattle.std.proofs.Common.{◌≡◌, ◌≤◌, length, take, arith}
use Rattle.sf_item.specs.Wholes.{is_hex_digit}
use Rattle.std.specs.List.{prefix_len}
use Rattle.sf_item.proofs.EightHex.{at_most_eight, digits_end}
use Rattle.sf_item.proofs.eight_hex.first_hex_digits.Goals as goal

pub weighed-requires : goal.weighed-requires
weighed-requires c =
    let least = c.min-count.ensures in
    let run = c.digit_run.ensures in
    record { room = omega (arith, c.if-piece-lt-LANES.false); digits = omega (arith, least, run) }

pub returns-clause-stops : goal.returns-clause-stops
returns-clause-stops c some below less =
    let least = c.min-count.ensures in
    let run = c.digit_run.ensures in
    let is : c.min-count.result ≡ prefix_len is_hex_digit (take 8 c.args.piece.now) = omega (arith, least, run, less) in
    digits_end c.args.piece.now c.min-count.result (omega (arith, c.if-piece-lt-LANES.false)) is below

pub returns-clause-few : goal.returns-clause-few
returns-clause-few c =
    let least = c.min-count.ensures in
    let run = c.digit_run.ensures in
    at_most_eight c.args.piece.now c.min-count.result (omega (arith, c.if-piece-lt-LANES.false)) (omega (arith, least, run))

pub returns-clause-within : goal.returns-clause-within
returns-clause-within c =
    let least = c.min-count.ensures in
    let run = c.digit_run.ensures in
    let room : 8 ≤ length c.args.piece.now = omega (arith, c.if-piece-lt-LANES.false) in
    let most = at_most_eight c.args.piece.now c.min-count.result room (omega (arith, least, run)) in
    omega (arith, most, room)
