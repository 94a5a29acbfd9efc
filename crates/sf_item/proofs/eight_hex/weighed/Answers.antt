use Rattle.std.proofs.Common.{◌≡◌, ℕ, ◌+◌, ◌*◌, ◌-◌, ◌<◌, ◌^◌, List, get_or, refl, subst, arith}
use Rattle.std.specs.Char.{digit_value}
use Rattle.sf_item.specs.declared.eight_hex.TheConstants.{WORTHS}
use Rattle.sf_item.proofs.EightHex.{Weighed, at_most_eight, eight_small, product_small, weighed_all, weighed_more, weighed_small}
use Rattle.sf_item.proofs.eight_hex.weighed.Goals as goal

module _ (c : goal.After-number-in-loop-i-1) where
  abbrev piece : List ℕ
  piece = c.args.piece.now

  abbrev count : ℕ
  count = c.args.count

  abbrev i : ℕ
  i = c.loop-i.i

  abbrev weight : ℕ
  weight = get_or WORTHS (8 - count + i) 0

  abbrev digit : ℕ
  digit = get_or c.values_of.result i 0

  left : digit_value (get_or piece i 0) < 16 → digit ≡ digit_value (get_or piece i 0)
  left = c.values_of.ensures.digits i c.loop-i-test.true

  more : Weighed piece count (i + 1) (c.loop-i.number + weight * digit)
  more = weighed_more piece count i c.loop-i.number weight digit c.requires.room c.requires.digits c.loop-i-test.true refl left
      c.loop-i.invariant

  product : weight * digit < 2 ^ 32
  product = product_small piece count i c.loop-i.number weight digit c.requires.room c.requires.digits c.loop-i-test.true refl left

  sum : c.loop-i.number + weight * digit < 2 ^ 32
  sum =
      let less = weighed_small piece count (i + 1) (c.loop-i.number + weight * digit) more in
      let most = eight_small count (at_most_eight piece count c.requires.room c.requires.digits) in
      omega (arith, less, most)

pub overflow_sub-number : goal.overflow_sub-number
overflow_sub-number c = at_most_eight c.args.piece.now c.args.count c.requires.room c.requires.digits

pub overflow_mul-number : goal.overflow_mul-number
overflow_mul-number c = record { fits = product c }

pub overflow_add-number-in-loop-i : goal.overflow_add-number-in-loop-i
overflow_add-number-in-loop-i c = record { fits = sum c }

pub loop-i-preserved : goal.loop-i-preserved
loop-i-preserved c = more c

pub returns-clause-read : goal.returns-clause-read
returns-clause-read c =
    let all : c.loop-i.i ≡ 8 = omega (arith, c.loop-i-test.false, c.loop-i.auto.i-end) in
    weighed_all c.args.piece.now c.args.count c.loop-i.number (at_most_eight c.args.piece.now c.args.count c.requires.room
    c.requires.digits)
    (subst (λ n. Weighed c.args.piece.now c.args.count n c.loop-i.number) all c.loop-i.invariant)

pub returns-clause-small : goal.returns-clause-small
returns-clause-small c = weighed_small c.args.piece.now c.args.count c.loop-i.i c.loop-i.number c.loop-i.invariant
