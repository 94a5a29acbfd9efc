use Rattle.std.proofs.Common.{◌≡◌, ◌+◌, ◌-◌, ◌/◌, ◌%◌, ◌^◌, ◌≤◌, ◌++◌, List, length, take, drop, sym, ap, ◌∙◌, subst, arith, ℕ}
use Rattle.std.proofs.lemmas.List.{take-set-le, length-set}
use Rattle.std.proofs.Math.ListN.{set}
use Rattle.std.proofs.Math.Seq.{take-add}
use Rattle.sf_float.specs.Texts.{fixed_digits}
use Rattle.sf_float.proofs.Backward.{next_left, next_digit}
use Rattle.sf_float.proofs.fewest.laid.put_last.Goals as goal

-- two digits more, before the others
module _ (out : List ℕ) (n k b left : ℕ) (some : 2 ≤ k) (within : k ≤ length out) (is : left ≡ n / 10 ^ b)
    (so : take b (drop k out) ≡ fixed_digits b n) (tens ones : ℕ) (t : tens ≡ 48 + left % 100 / 10) (o : ones ≡ 48 + left % 100 % 10) where
  next_ones : ones ≡ 48 + n / 10 ^ b % 10
  next_ones = let e : left % 100 % 10 ≡ left % 10 = omega arith in o ∙ ap (λ (r : ℕ). 48 + r) e ∙ ap (λ (r : ℕ). 48 + r % 10) is

  next_tens : tens ≡ 48 + n / 10 ^ (b + 1) % 10
  next_tens =
      let e : left % 100 / 10 ≡ left / 10 % 10 = omega arith in
      t ∙ ap (λ (r : ℕ). 48 + r) e ∙ ap (λ (r : ℕ). 48 + r / 10 % 10) is ∙ ap (λ (r : ℕ). 48 + r % 10) (next_left n b)

  one_more : take (b + 1) (drop (k - 1) (set out (k - 1) ones)) ≡ fixed_digits (b + 1) n
  one_more = ap (λ (d : ℕ). take (b + 1) (drop (k - 1) (set out (k - 1) d))) next_ones ∙ next_digit out n k b (omega (arith, some)) within
      so

  pub two_more : take (b + 1 + 1) (drop (k - 1 - 1) (set (set out (k - 1) ones) (k - 1 - 1) tens)) ≡ fixed_digits (b + 1 + 1) n
  two_more =
      let long = length-set out (k - 1) ones in
      ap (λ (d : ℕ). take (b + 1 + 1) (drop (k - 1 - 1) (set (set out (k - 1) ones) (k - 1 - 1) d))) next_tens
      ∙ next_digit (set out (k - 1) ones) n (k - 1) (b + 1) (omega (arith, some)) (omega (arith, within, long)) one_more

  pub two_left : left / 100 ≡ n / 10 ^ (b + 1 + 1)
  two_left =
      let e : left / 100 ≡ left / 10 / 10 = omega arith in
      e ∙ ap (λ (r : ℕ). r / 10 / 10) is ∙ ap (λ (r : ℕ). r / 10) (next_left n b) ∙ next_left n (b + 1)

joined : (at count n : ℕ) (before out : List ℕ) → take at out ≡ take at before → take count (drop at out) ≡ fixed_digits count n
    → take (at + count) out ≡ take at before ++ fixed_digits count n
joined at count n before out front digits = take-add at count out ∙ (λ i. front i ++ digits i)

pub loop-k-preserved : goal.loop-k-preserved
loop-k-preserved c =
    let l = c.loop-k in
    let v = l.invariant in
    let n = c.args.n in
    let end = c.args.at + c.args.count in
    let b = end - l.k in
    let test = c.loop-k-test.true in
    let ones = c.pair_of-tens.result.1 in
    let tens = c.pair_of-tens.result.0 in
    let two : 2 ≤ l.k = omega (arith, test) in
    let within : l.k ≤ length l.out = omega (arith, v.to, c.requires) in
    let p : l.k - 1 - 1 ≡ l.k - 2 = omega arith in
    let e : b + 1 + 1 ≡ end - (l.k - 2) = omega (arith, v.to, two) in
    let digits = two_more l.out n l.k b l.left two within v.left v.digits tens ones c.pair_of-tens.ensures.tens
    c.pair_of-tens.ensures.ones in
    record {
      from = omega (arith, test);
      to = omega (arith, v.to);
      left = two_left l.out n l.k b l.left two within v.left v.digits tens ones c.pair_of-tens.ensures.tens c.pair_of-tens.ensures.ones
          ∙ ap (λ (x : ℕ). n / 10 ^ x) e;
      before = take-set-le c.args.at (set l.out (l.k - 1) ones) (l.k - 2) tens (omega (arith, test))
          ∙ take-set-le c.args.at l.out (l.k - 1) ones (omega (arith, test)) ∙ v.before;
      digits = subst (λ (x : ℕ). take (end - (l.k - 2)) (drop x (set (set l.out (l.k - 1) ones) x tens)) ≡ fixed_digits (end - (l.k - 2))
          n) p
          (subst (λ (x : ℕ). take x (drop (l.k - 1 - 1) (set (set l.out (l.k - 1) ones) (l.k - 1 - 1) tens)) ≡ fixed_digits x n) e digits);
    }

pub returns-then-k-at-clause-written : goal.returns-then-k-at-clause-written
returns-then-k-at-clause-written c =
    let l = c.loop-k in
    let v = l.invariant in
    let n = c.args.n in
    let at = c.args.at in
    let b = at + c.args.count - l.k in
    let k : l.k - 1 ≡ at = omega (arith, c.loop-k-test.false, c.if-k-at.true) in
    let e : b + 1 ≡ c.args.count = omega (arith, v.to, c.loop-k-test.false, c.if-k-at.true) in
    let y : 48 + n / 10 ^ b % 10 ≡ 48 + l.left % 10 = ap (λ (r : ℕ). 48 + r % 10) (sym v.left) in
    let digits = next_digit l.out n l.k b (omega (arith, c.if-k-at.true)) (omega (arith, v.to, c.requires)) v.digits in
    joined at c.args.count n c.args.out.now (set l.out at (48 + l.left % 10))
    (take-set-le at l.out at (48 + l.left % 10) (omega arith) ∙ v.before)
    (subst (λ (x : ℕ). take c.args.count (drop x (set l.out x (48 + l.left % 10))) ≡ fixed_digits c.args.count n) k
    (subst (λ (x : ℕ). take c.args.count (drop (l.k - 1) (set l.out (l.k - 1) x)) ≡ fixed_digits c.args.count n) y
    (subst (λ (x : ℕ). take x (drop (l.k - 1) (set l.out (l.k - 1) (48 + n / 10 ^ b % 10))) ≡ fixed_digits x n) e digits)))

pub returns-else-k-at-clause-written : goal.returns-else-k-at-clause-written
returns-else-k-at-clause-written c =
    let l = c.loop-k in
    let v = l.invariant in
    let n = c.args.n in
    let at = c.args.at in
    let k : l.k ≡ at = omega (arith, v.from, c.if-k-at.false) in
    let e : at + c.args.count - l.k ≡ c.args.count = omega (arith, k) in
    joined at c.args.count n c.args.out.now l.out v.before
    (subst (λ (x : ℕ). take c.args.count (drop x l.out) ≡ fixed_digits c.args.count n) k
    (subst (λ (x : ℕ). take x (drop l.k l.out) ≡ fixed_digits x n) e v.digits))
