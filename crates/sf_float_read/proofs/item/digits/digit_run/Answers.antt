use Rattle.std.proofs.Common.{◌≡◌, ◌+◌, ◌≤◌, length, take, drop, sym, ap, ◌∙◌, arith}
use Rattle.std.proofs.lemmas.List.{drop-drop, length-drop, length-take-le, take_rest}
use Rattle.std.proofs.lemmas.List.Sums.{prefix_len-le-length}
use Rattle.std.specs.Char.{is_ascii_digit}
use Rattle.std.specs.List.{prefix_len}
use Rattle.sf_float_read.proofs.ItemLemmas.EightDigits.{run_stops, run_goes}
use Rattle.sf_float_read.proofs.item.digits.digit_run.Goals as goal

pub returns-then-run-lt-LANES : goal.returns-then-run-lt-LANES
returns-then-run-lt-LANES c =
    let l = c.loop-at in
    let d = drop l.at c.args.piece.now in
    let room : 8 ≤ length d = rw (length-drop l.at c.args.piece.now) c.loop-at-test.true in
    let is : c.first_run-run.result ≡ prefix_len is_ascii_digit (take 8 d) =
    rw (take_rest c.args.piece.now l.at) at c.first_run-run.ensures in
    omega (arith, l.invariant.front, run_stops is_ascii_digit d room c.first_run-run.result is c.if-run-lt-LANES.true)

pub loop-at-preserved : goal.loop-at-preserved
loop-at-preserved c =
    let l = c.loop-at in
    let r = c.first_run-run.result in
    let d = drop l.at c.args.piece.now in
    let room : 8 ≤ length d = rw (length-drop l.at c.args.piece.now) c.loop-at-test.true in
    let is : r ≡ prefix_len is_ascii_digit (take 8 d) = rw (take_rest c.args.piece.now l.at) at c.first_run-run.ensures in
    let few = prefix_len-le-length is_ascii_digit (take 8 d) in
    let long = length-take-le 8 d room in
    let e : r ≡ 8 = omega (arith, is, few, long, c.if-run-lt-LANES.false) in
    let goes = run_goes is_ascii_digit d room (sym e ∙ is) in
    let after : drop 8 d ≡ drop (l.at + 8) c.args.piece.now = drop-drop 8 l.at c.args.piece.now in
    record {
      within = omega (arith, e, c.loop-at-test.true);
      front = rw e (omega (arith, l.invariant.front, goes, ap (prefix_len is_ascii_digit) after));
    }
