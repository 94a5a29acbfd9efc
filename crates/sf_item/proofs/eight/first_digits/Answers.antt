use Rattle.std.proofs.Common.{◌≡◌, take, arith}
use Rattle.std.specs.Char.{is_ascii_digit}
use Rattle.std.specs.List.{prefix_len}
use Rattle.sf_item.proofs.EightDigits.{at_most_eight, digits_end}
use Rattle.sf_item.proofs.eight.first_digits.Goals as goal

pub weighed-requires : goal.weighed-requires
weighed-requires c =
    let least = c.min-count.ensures in
    let run = c.digit_run.ensures in
    record { room = omega (arith, c.if-piece-lt-LANES.false); digits = omega (arith, least, run) }

pub returns-clause-stops : goal.returns-clause-stops
returns-clause-stops c some below less =
    let least = c.min-count.ensures in
    let run = c.digit_run.ensures in
    let is : c.min-count.result ≡ prefix_len is_ascii_digit (take 8 c.args.piece.now) = omega (arith, least, run, less) in
    digits_end c.args.piece.now c.min-count.result (omega (arith, c.if-piece-lt-LANES.false)) is below

pub returns-clause-few : goal.returns-clause-few
returns-clause-few c =
    let least = c.min-count.ensures in
    let run = c.digit_run.ensures in
    at_most_eight c.args.piece.now c.min-count.result (omega (arith, c.if-piece-lt-LANES.false)) (omega (arith, least, run))
