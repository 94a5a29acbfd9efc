use Rattle.std.proofs.Common.{◌≡◌, ◌+◌, ◌*◌, ◌-◌, ◌<◌, ◌≤◌, ◌^◌, get_or, length, sym, subst, ◌∙◌, arith, ℕ}
use Rattle.std.specs.Char.{digit_value}
use Rattle.sf_float_read.proofs.ItemLemmas.Decimals.{decimal_value, all_more, value_more, eighteen, ten_more}
use Rattle.sf_float_read.proofs.item.decimal.digits_after.Goals as goal

module _ (c : goal.Else-b-gt57) where
  most : 19 - c.args.most + c.loop-i.i ≤ 18
  most =
      let below = c.loop-i-test.true in
      let end = c.min-end.ensures in
      omega (arith, below, end, c.requires.few)

  few : c.loop-i.number < 1000000000000000000
  few = eighteen c.loop-i.number (19 - c.args.most + c.loop-i.i) c.loop-i.invariant.small most

pub overflow_mul-number : goal.overflow_mul-number
overflow_mul-number c = let small = few c in omega (arith, small)

pub overflow_add-number : goal.overflow_add-number
overflow_add-number c = let small = few c in omega (arith, small, c.if-b-gt57.false)

pub loop-i-preserved : goal.loop-i-preserved
loop-i-preserved c =
    let l = c.loop-i in
    let b = get_or c.args.bytes.now l.i 0 in
    let value : digit_value b ≡ b - 48 = decimal_value b c.if-b-lt48.false c.if-b-gt57.false in
    let low : digit_value b < 10 = omega (arith, value, c.if-b-gt57.false) in
    let below : l.i < length c.args.bytes.now = (let test = c.loop-i-test.true in let end = c.min-end.ensures in omega (arith, test, end))
    in
    let k : ℕ = 19 - c.args.most + l.i in
    let next : k + 1 ≡ 19 - c.args.most + (l.i + 1) = omega arith in
    record {
      all = all_more c.args.bytes.now l.i below low l.invariant.all;
      value = (λ i. l.invariant.value i * 10 + sym value i) ∙ sym (value_more c.args.before c.args.bytes.now l.i below);
      small = subst (λ (e : ℕ). l.number * 10 + (b - 48) < 10 ^ e) next
          (ten_more l.number k (b - 48) l.invariant.small (omega (arith, c.if-b-gt57.false)));
    }
