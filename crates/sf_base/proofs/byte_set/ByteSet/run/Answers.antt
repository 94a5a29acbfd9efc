use Rattle.std.proofs.Common.{◌≡◌, ◌∙◌, length, sym, arith}
use Rattle.std.proofs.lemmas.Grind.{common_steps}
use Rattle.std.specs.List.{prefix_len}
use Rattle.sf_base.specs.Bytes.{is_other}
use Rattle.sf_base.specs.Sets.{has_byte}
use Rattle.sf_base.proofs.Fronts.{longest_at}
use Rattle.sf_base.proofs.Sets.{lacking, same_front}
use Rattle.sf_base.proofs.byte_set.ByteSet.run.Goals as goal

pub returns-then-not-contains-clause-longest : goal.returns-then-not-contains-clause-longest
returns-then-not-contains-clause-longest c =
    let count : c.loop-i.i ≡ prefix_len (has_byte c.args.self.now) c.args.bytes.now = grind (arith, common_steps) in
    longest_at (has_byte c.args.self.now) c.args.bytes.now c.loop-i.i count

pub returns-clause-longest : goal.returns-clause-longest
returns-clause-longest c =
    let count : length c.args.bytes.now ≡ prefix_len (has_byte c.args.self.now) c.args.bytes.now = grind (arith, common_steps) in
    longest_at (has_byte c.args.self.now) c.args.bytes.now (length c.args.bytes.now) count

pub returns-in-Some-clause-count : goal.returns-in-Some-clause-count
returns-in-Some-clause-count c =
    let lacks = lacking c.self.inside.words c.args.self.now c.self.inside.lacks c.in-Some.end c.self.view_is c.in-Some.is
    c.self.invariant.1 in
    c.run_before.ensures ∙ sym (same_front (has_byte c.args.self.now) (is_other c.in-Some.end) lacks c.args.bytes.now c.type_inv.bytes)

pub returns-in-Some-clause-longest : goal.returns-in-Some-clause-longest
returns-in-Some-clause-longest c = longest_at (has_byte c.args.self.now) c.args.bytes.now _ (returns-in-Some-clause-count c)
