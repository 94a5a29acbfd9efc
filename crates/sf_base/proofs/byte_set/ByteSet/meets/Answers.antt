use Rattle.std.proofs.Common.{◌+◌, ◌*◌, ◌/◌, ◌^◌, ◌<◌, arith, rules, sym, ◌∙◌, get_or}
use Rattle.std.proofs.lemmas.Nat.{and_le_l}
use Rattle.sf_base.proofs.Bits.{common_bit, no_common_bit, word_has_at, word_has_bit}
use Rattle.sf_base.proofs.Sets.{has_byte-held}
use Rattle.sf_base.proofs.byte_set.ByteSet.meets.Goals as goal

pub returns-then-mine-others-ne0 : goal.returns-then-mine-others-ne0
returns-then-mine-others-ne0 c =
    let i = c.loop-i.i in
    let mine = c.self.inside.words in
    let others = c.other.inside.words in
    let small : get_or mine i 0 < 2 ^ 64 = search rules in
    let bit = common_bit (get_or mine i 0) (get_or others i 0) c.if-mine-others-ne0.true
    (omega (arith, small, and_le_l (get_or mine i 0) (get_or others i 0))) in
    let below : 64 * i + bit.0 < 256 = omega (arith, bit.1, c.loop-i-test.true) in (
      λ _. (
        64 * i + bit.0,
        below,
        has_byte-held mine c.args.self.now (64 * i + bit.0) c.self.view_is below ∙ word_has_at mine i bit.0 bit.1 bit.2,
        has_byte-held others c.args.other.now (64 * i + bit.0) c.other.view_is below ∙ word_has_at others i bit.0 bit.1 bit.3,
      ),
      λ _. search rules,
    )

pub returns : goal.returns
returns c =
    let mine = c.self.inside.words in
    let others = c.other.inside.words in (
      λ no. absurd cc,
      λ w.
          (let k = w.0 in
          let inside : k / 64 < c.loop-i.i = omega (arith, w.1) in
          absurd (no_common_bit (get_or mine (k / 64) 0) (get_or others (k / 64) 0) _ (c.loop-i.invariant (k / 64) inside)
          (word_has_bit mine k (sym (has_byte-held mine _ k c.self.view_is w.1) ∙ w.2))
          (word_has_bit others k (sym (has_byte-held others _ k c.other.view_is w.1) ∙ w.3)))),
    )
