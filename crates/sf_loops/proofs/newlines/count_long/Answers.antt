use Rattle.std.proofs.Common.{◌+◌, ◌-◌, ◌^◌, ◌≤◌, min, take, ap, ◌∙◌, arith}
use Rattle.sf_loops.proofs.NewlineMasks.{counted_front}
use Rattle.sf_loops.proofs.newlines.count_long.Goals as goal

pub loop-left-preserved : goal.loop-left-preserved
loop-left-preserved c =
    let least = c.min-now.ensures in
    let now = c.min-now.result in
    let rest = c.loop-left.rest.now in
    let le : now ≤ c.loop-left.left = omega (arith, least) in (
      omega (arith, c.loop-left.invariant.0, c.split_at.ensures.back_len, le),
      counted_front c.args.lines.now c.loop-left.lines c.saturating_add.result c.loop-left.left now
          (take c.args.count c.args.bytes.now) rest c.split_at.result.1.now le c.loop-left.invariant.1
          (c.saturating_add.ensures ∙ ap (λ n. min (c.loop-left.lines + n) (2 ^ 64 - 1)) c.newlines_of.ensures) c.split_at.ensures.back,
    )
