use Rattle.std.proofs.Common.{◌≡◌, ◌+◌, ◌≤◌, not, length, arith}
use Rattle.std.proofs.lemmas.Grind.{common_steps}
use Rattle.std.specs.List.{prefix_len}
use Rattle.sf_base.specs.Bytes.{is_of_run}
use Rattle.sf_base.proofs.Lanes.{ends_at, goes_on, not_not}
use Rattle.sf_base.proofs.Fronts.{longest_at}
use Rattle.sf_base.proofs.runs.run.Goals as goal

stops : goal.returns-then-others-ne0-clause-count
stops c =
    let room : c.loop-at.at + 16 ≤ length c.args.piece.now = omega (arith, c.loop-at-test.true) in
    let r = ends_at (λ b. not (is_of_run c.args.white b)) (is_of_run c.args.white) (not_not (is_of_run c.args.white)) c.args.piece.now
    c.loop-at.at c.others_mask-others.result room
    c.others_mask-others.ensures c.if-others-ne0.true in
    omega (arith, c.loop-at.invariant.front, r)

pub returns-then-others-ne0-clause-count : goal.returns-then-others-ne0-clause-count
returns-then-others-ne0-clause-count c = stops c

pub returns-then-others-ne0-clause-longest : goal.returns-then-others-ne0-clause-longest
returns-then-others-ne0-clause-longest c = longest_at (is_of_run c.args.white) c.args.piece.now _ (stops c)

pub loop-at-preserved : goal.loop-at-preserved
loop-at-preserved c =
    let room : c.loop-at.at + 16 ≤ length c.args.piece.now = omega (arith, c.loop-at-test.true) in
    let r = goes_on (λ b. not (is_of_run c.args.white b)) (is_of_run c.args.white) (not_not (is_of_run c.args.white)) c.args.piece.now
    c.loop-at.at c.others_mask-others.result room
    c.others_mask-others.ensures c.if-others-ne0.false in
    record {
      within = room;
      front = omega (arith, c.loop-at.invariant.front, r);
    }

pub returns-then-not-belongs-clause-longest : goal.returns-then-not-belongs-clause-longest
returns-then-not-belongs-clause-longest c =
    let count : c.loop-at-2.at ≡ prefix_len (is_of_run c.args.white) c.args.piece.now = grind (arith, common_steps) in
    longest_at (is_of_run c.args.white) c.args.piece.now c.loop-at-2.at count

pub returns-clause-longest : goal.returns-clause-longest
returns-clause-longest c =
    let count : c.loop-at-2.at ≡ prefix_len (is_of_run c.args.white) c.args.piece.now = grind (arith, common_steps) in
    longest_at (is_of_run c.args.white) c.args.piece.now c.loop-at-2.at count
