use Rattle.std.proofs.Common.{◌≡◌, ◌+◌, ◌-◌, ◌^◌, ◌<◌, ◌≤◌, ℕ, arith, inl, inr, eq-zero-or-pos, lt_of_lt_of_le}
use Rattle.std.proofs.Math.Nat.{pow-le-pow_right, not-le_of_lt}
use lib.Dec.{lit<}
use Rattle.sf_float.specs.Texts.{IsCount}
use Rattle.sf_float.proofs.Computed.{count_is}
use Rattle.sf_float.proofs.fewest.laid.count_of.Goals as goal

-- so many digits
counted : (n count : ℕ) → 0 < count → n < 10 ^ count → (1 < count → 10 ^ (count - 1) ≤ n) → IsCount 0 n count
counted n count some fits least =
    let e : count + 0 ≡ count = omega arith in
    let f : count - 1 + 0 ≡ count - 1 = omega arith in
    record { some = some; fits = rw e fits; least = λ l. rw f (least l) }

fewest : (n count k : ℕ) → 0 < count → (1 < count → 10 ^ (count - 1) ≤ n) → 0 < k → n < 10 ^ k → count ≤ k
fewest n count k some least K l =
    elim (eq-zero-or-pos (count - k)) [
      | inl z ↦ omega arith
      | inr p ↦
          let up : 10 ^ k ≤ 10 ^ (count - 1) = pow-le-pow_right {n = 10} (lit< tt) (omega arith) in
          absurd (not-le_of_lt (lt_of_lt_of_le l up) (least (omega arith)))
    ]

pub returns-else-n-ten_to-clause-count : goal.returns-else-n-ten_to-clause-count
returns-else-n-ten_to-clause-count c =
    let l = c.loop-count in
    counted c.args.n l.count l.invariant.0 (omega (arith, c.ten_to.ensures.value, c.if-n-ten_to.false)) l.invariant.2

pub returns-else-n-ten_to-clause-value : goal.returns-else-n-ten_to-clause-value
returns-else-n-ten_to-clause-value c =
    let l = c.loop-count in
    count_is 0 c.args.n l.count (counted c.args.n l.count l.invariant.0 (omega (arith, c.ten_to.ensures.value, c.if-n-ten_to.false))
    l.invariant.2)

pub returns-else-n-ten_to-clause-below : goal.returns-else-n-ten_to-clause-below
returns-else-n-ten_to-clause-below c k K h =
    fewest c.args.n c.loop-count.count k c.loop-count.invariant.0 c.loop-count.invariant.2 K h

wide : (n count : ℕ) → n < 2 ^ 64 → 20 ≤ count → n < 10 ^ count
wide n count l h =
    let k : 2 ^ 64 < 10 ^ 20 = lit< tt in
    lt_of_lt_of_le (omega (arith, l, k)) (pow-le-pow_right (lit< tt) h)

pub returns-after-loop-count-clause-count : goal.returns-after-loop-count-clause-count
returns-after-loop-count-clause-count c =
    let l = c.loop-count in
    counted c.args.n l.count l.invariant.0 (wide c.args.n l.count c.ranges.n.fits (omega (arith, c.loop-count-test.false))) l.invariant.2

pub returns-after-loop-count-clause-value : goal.returns-after-loop-count-clause-value
returns-after-loop-count-clause-value c =
    let l = c.loop-count in
    count_is 0 c.args.n l.count
    (counted c.args.n l.count l.invariant.0 (wide c.args.n l.count c.ranges.n.fits (omega (arith, c.loop-count-test.false))) l.invariant.2)

pub returns-after-loop-count-clause-below : goal.returns-after-loop-count-clause-below
returns-after-loop-count-clause-below c k K h =
    fewest c.args.n c.loop-count.count k c.loop-count.invariant.0 c.loop-count.invariant.2 K h
