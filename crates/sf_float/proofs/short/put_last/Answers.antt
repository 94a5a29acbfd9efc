use Rattle.std.proofs.Common.{◌≡◌, ◌+◌, ◌-◌, ◌/◌, ◌%◌, ◌^◌, ◌++◌, take, drop, ap, ◌∙◌, subst, arith, ℕ}
use Rattle.std.proofs.lemmas.List.{take-set-le}
use Rattle.std.proofs.Math.ListN.{set}
use Rattle.std.proofs.Math.Seq.{take-add}
use Rattle.sf_float.specs.Texts.{fixed_digits}
use Rattle.sf_float.proofs.Backward.{next_left, next_digit}
use Rattle.sf_float.proofs.short.put_last.Goals as goal

pub loop-k-preserved : goal.loop-k-preserved
loop-k-preserved c =
    let l = c.loop-k in
    let v = l.invariant in
    let end = c.args.at + c.args.count in
    let b = end - l.k in
    let e : b + 1 ≡ end - (l.k - 1) = omega (arith, c.loop-k-test.true, v.from, v.to) in
    let d : 48 + l.left % 10 ≡ 48 + c.args.n / 10 ^ b % 10 = ap (λ t. 48 + t % 10) v.left in
    record {
      from = omega (arith, c.loop-k-test.true);
      to = omega (arith, v.to);
      left = ap (λ t. t / 10) v.left ∙ next_left c.args.n b ∙ ap (λ t. c.args.n / 10 ^ t) e;
      before = take-set-le c.args.at l.out (l.k - 1) (48 + l.left % 10) (omega (arith, c.loop-k-test.true)) ∙ v.before;
      digits = ap (λ t. take (end - (l.k - 1)) (drop (l.k - 1) (set l.out (l.k - 1) t))) d
          ∙ subst (λ (t : ℕ). take t (drop (l.k - 1) (set l.out (l.k - 1) (48 + c.args.n / 10 ^ b % 10))) ≡ fixed_digits t c.args.n) e
          (next_digit l.out c.args.n l.k b (omega (arith, c.loop-k-test.true)) (omega arith) v.digits);
    }

pub returns-clause-written : goal.returns-clause-written
returns-clause-written c =
    let l = c.loop-k in
    let v = l.invariant in
    let n = c.args.n in
    let e : l.k ≡ c.args.at = omega (arith, v.from, c.loop-k-test.false) in
    let f : c.args.at + c.args.count - l.k ≡ c.args.count = omega (arith, e) in
    let d : take c.args.count (drop l.k l.out) ≡ fixed_digits c.args.count n =
    subst (λ (t : ℕ). take t (drop l.k l.out) ≡ fixed_digits t n) f v.digits in
    let g : take c.args.count (drop c.args.at l.out) ≡ fixed_digits c.args.count n =
    subst (λ (t : ℕ). take c.args.count (drop t l.out) ≡ fixed_digits c.args.count n) e d in
    take-add c.args.at c.args.count l.out ∙ (λ i. v.before i ++ g i)
