use Rattle.std.proofs.Common.{◌+◌, ◌≤◌, length, not, arith}
use Rattle.sf_base.proofs.Fronts.{longest_at}
use Rattle.sf_base.proofs.Lanes.{ends_at, goes_on, not_not}
use Rattle.sf_forms.specs.Quotes.{is_plain}
use Rattle.sf_forms.proofs.quote.plain_run.Goals as goal

pub returns-then-odd-ne0-clause-count : goal.returns-then-odd-ne0-clause-count
returns-then-odd-ne0-clause-count c =
    let room : c.loop-at.at + 16 ≤ length c.args.bytes.now = omega (arith, c.loop-at-test.true) in
    let r = ends_at (λ b. not (is_plain b)) is_plain (not_not is_plain) c.args.bytes.now c.loop-at.at c.odd_mask-odd.result room
    c.odd_mask-odd.ensures c.if-odd-ne0.true in
    omega (arith, c.loop-at.invariant.front, r)

pub loop-at-preserved : goal.loop-at-preserved
loop-at-preserved c =
    let room : c.loop-at.at + 16 ≤ length c.args.bytes.now = omega (arith, c.loop-at-test.true) in
    let r = goes_on (λ b. not (is_plain b)) is_plain (not_not is_plain) c.args.bytes.now c.loop-at.at c.odd_mask-odd.result room
    c.odd_mask-odd.ensures c.if-odd-ne0.false in
    record {
      within = room;
      front = omega (arith, c.loop-at.invariant.front, r);
    }

pub returns-then-odd-ne0-clause-within : goal.returns-then-odd-ne0-clause-within
returns-then-odd-ne0-clause-within c = (longest_at is_plain c.args.bytes.now _ (returns-then-odd-ne0-clause-count c)).holds.0
