use Rattle.std.proofs.Common.{◌/◌, ◌^◌, ◌<◌, arith, rules, sym, ◌∙◌, get_or}
use Rattle.sf_base.proofs.Bits.{other_bit, same_bit}
use Rattle.sf_base.proofs.Sets.{has_byte-held}
use Rattle.sf_base.proofs.byte_set.ByteSet.subset.Goals as goal

pub returns-then-mine-others-ne0 : goal.returns-then-mine-others-ne0
returns-then-mine-others-ne0 c =
    let i = c.loop-i.i in
    let mine = c.self.inside.words in
    let others = c.other.inside.words in
    let small : get_or mine i 0 < 2 ^ 64 = search rules in
    let small' : get_or others i 0 < 2 ^ 64 = search rules in (
      λ no. absurd cc,
      λ all.
          absurd (other_bit mine others i c.if-mine-others-ne0.true small small' c.loop-i-test.true
          (λ b below has. sym (has_byte-held others _ b c.other.view_is below)
          ∙ all b below (has_byte-held mine _ b c.self.view_is below ∙ has))),
    )

pub returns : goal.returns
returns c =
    let mine = c.self.inside.words in
    let others = c.other.inside.words in (
      λ _ k below has.
          (let inside : k / 64 < c.loop-i.i = omega arith in
          let both = c.loop-i.invariant (k / 64) inside in
          has_byte-held others _ k c.other.view_is below ∙ same_bit mine others k both.0 both.1
          (sym (has_byte-held mine _ k c.self.view_is below) ∙ has)),
      λ _. search rules,
    )
