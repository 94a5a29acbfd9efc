use Rattle.std.proofs.Common.{◌≢◌, ◌+◌, ◌<◌, ◌≤◌, length, get_or, inl, inr, refl, sym, ap, arith}
use Rattle.std.proofs.lemmas.List.{length-take}
use Rattle.sf_format.specs.declared.directive.Lead.TheVariants.{Any}
use Rattle.sf_item.specs.Wholes.{led_by}
use Rattle.sf_item.proofs.Readings.{length_rest}
use Rattle.sf_item.proofs.Wholes.{large_integer, no_integer, unless_so, unprefixed_opened, whole_integer}
use Rattle.sf_item.proofs.whole.unprefixed_in.Goals as goal

pub returns-then-is_zero_at : goal.returns-then-is_zero_at
returns-then-is_zero_at c width is =
    inr (record {
      front = c.args.front.now;
      is = c.requires;
      start = c.sign-start.result.0;
      negative = c.sign-start.result.1;
      sign = c.sign-start.ensures;
      digit = c.if-is_zero_at.ensures.0 refl;
    })

pub returns-in_default : goal.returns-in_default
returns-in_default c width is =
    let piece = c.args.piece.now in
    let front = c.args.front.now in
    let long = ap length c.requires in
    let short : length front ≤ length piece = omega (arith, long, length-take (length front) piece) in
    let start = c.sign-start.result.0 in
    let sign = c.sign-start.result.1 in
    let radix = c.radices_of-radix.result.first in
    let other : start < length front → get_or front start 0 ≢ 48 =
    λ below zero_first. unless_so c.if-is_zero_at.ensures.1 (below, zero_first) in
    let opened = unprefixed_opened c.args.base radix (sym c.radices_of-radix.ensures.first) c.radices_of-radix.ensures.first_range front
    start sign c.sign-start.ensures other in
    elim c.in_default.ensures.digits [
      | inl more ↦
          inl (large_integer piece front width c.requires short is.room
          is.whole (led_by Any c.args.base) radix start more.count more.number sign opened more.digits more.large)
      | inr none ↦
          inl (no_integer piece front width c.requires short is.room
          is.whole (led_by Any c.args.base) radix start 0 none.number sign opened none.digits
          (λ some behind. omega (arith, some)))
    ]

pub returns-then-last-piece : goal.returns-then-last-piece
returns-then-last-piece c width is =
    let piece = c.args.piece.now in
    let front = c.args.front.now in
    let long = ap length c.requires in
    let short : length front ≤ length piece = omega (arith, long, length-take (length front) piece) in
    let start = c.sign-start.result.0 in
    let sign = c.sign-start.result.1 in
    let radix = c.radices_of-radix.result.first in
    let other : start < length front → get_or front start 0 ≢ 48 =
    λ below zero_first. unless_so c.if-is_zero_at.ensures.1 (below, zero_first) in
    inl (no_integer piece front width c.requires short is.room is.whole
    (led_by Any c.args.base)
    radix start c.in-Some.count
    c.in-Some.magnitude sign
    (unprefixed_opened c.args.base radix (sym c.radices_of-radix.ensures.first) c.radices_of-radix.ensures.first_range front start sign
    c.sign-start.ensures other) c.in-Some.ensures.digits
    (λ some behind. let all = c.if-last-piece.true in omega (arith, all, behind)))

pub returns : goal.returns
returns c width is =
    let piece = c.args.piece.now in
    let front = c.args.front.now in
    let long = ap length c.requires in
    let short : length front ≤ length piece = omega (arith, long, length-take (length front) piece) in
    let start = c.sign-start.result.0 in
    let sign = c.sign-start.result.1 in
    let radix = c.radices_of-radix.result.first in
    let count = c.in-Some.count in
    let other : start < length front → get_or front start 0 ≢ 48 =
    λ below zero_first. unless_so c.if-is_zero_at.ensures.1 (below, zero_first) in
    let opened = unprefixed_opened c.args.base radix (sym c.radices_of-radix.ensures.first) c.radices_of-radix.ensures.first_range front
    start sign c.sign-start.ensures other in
    let digits = c.in-Some.ensures.digits in
    let most = digits.within in
    let inside = opened.inside in
    let some : 0 < count = c.in-Some.ensures.some in
    let behind : start + count < length piece = omega (arith, most, short, length_rest front start, inside, c.if-last-piece.false) in
    whole_integer piece front width c.requires short is.room is.whole
    (led_by Any c.args.base)
    radix start count
    c.in-Some.magnitude sign opened digits some behind
