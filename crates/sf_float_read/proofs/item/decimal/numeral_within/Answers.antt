use Rattle.std.proofs.Common.{◌≡◌, ◌+◌, ◌<◌, List, ℕ, Bool, true, false, true≢false, length, take, refl, sym, arith, ap, ◌∙◌, inl, inr}
use Rattle.std.specs.Fmt.{sign_text}
use mir.Val.{bool_byte}
use Rattle.sf_float_read.proofs.ItemLemmas.Decimals.{decimal_float, numeral_is, ends_there, within_so}
use Rattle.sf_float_read.proofs.ItemLemmas.Answered.{point_some, point_there, behind_within, ends_numeral}
use Rattle.sf_float_read.proofs.item.decimal.numeral_within.Goals as goal
use Rattle.sf_float_read.proofs.item.decimal.numeral_within.Goals.{then-point-eq0-via-then-point-eq0}
use Rattle.sf_float_read.proofs.item.decimal.numeral_within.Goals.{then-point-eq0-via-else-point-eq0+then-not-is_point_at}

sign_long : (negative : Bool) → bool_byte negative ≡ length (sign_text negative)
sign_long true = refl
sign_long false = refl

pub returns-then-point-eq0-clause-answers : goal.returns-then-point-eq0-clause-answers
returns-then-point-eq0-clause-answers c d within few =
    let piece : List ℕ = c.args.piece.now in
    let body : List ℕ = c.signed-negative.result.1.now in
    let sign = c.signed-negative in
    let point = c.digits_after-whole in
    let some = point_some piece body sign.result.0 sign.ensures.joined sign.ensures.unsigned d within few
    point.result.1 point.ensures.most point.ensures.within point.ensures.all point.ensures.stops in
    let there = point_there piece body sign.result.0 sign.ensures.joined sign.ensures.unsigned d within few
    point.result.1 point.ensures.most point.ensures.within point.ensures.all point.ensures.stops in
    elim c.then-point-eq0.branch [
      | then-point-eq0-via-then-point-eq0 w ↦ absurd (omega (arith, some, w.if-point-eq0.true))
      | then-point-eq0-via-else-point-eq0+then-not-is_point_at w ↦ absurd (w.if-not-is_point_at.ensures.another refl there)
    ]

pub returns-then-not-ends_at-clause-answers : goal.returns-then-not-ends_at-clause-answers
returns-then-not-ends_at-clause-answers c d within few =
    let piece : List ℕ = c.args.piece.now in
    let body : List ℕ = c.signed-negative.result.1.now in
    let after : List ℕ = c.split_at.result.1.now in
    let sign = c.signed-negative in
    let point = c.digits_after-whole in
    let places = c.digits_after-digits in
    let inside = behind_within piece body sign.result.0 sign.ensures.joined sign.ensures.unsigned d within few
    point.result.1 point.ensures.most point.ensures.within point.ensures.all point.ensures.stops
    after c.split_at.ensures.back places.result.1 places.ensures.most places.ensures.within places.ensures.all places.ensures.stops in
    let ends = ends_numeral piece body sign.result.0 sign.ensures.joined sign.ensures.unsigned d within few
    point.result.1 point.ensures.most point.ensures.within point.ensures.all point.ensures.stops
    after c.split_at.ensures.back places.result.1 places.ensures.most places.ensures.within places.ensures.all places.ensures.stops in
    elim (c.if-not-ends_at.ensures.goes_on refl inside) [
      | inl digit ↦ absurd (true≢false (sym digit ∙ ends.0))
      | inr (inl lower) ↦ absurd (ends.1 lower)
      | inr (inr upper) ↦ absurd (ends.2 upper)
    ]

pub returns-clause-numeral : goal.returns-clause-numeral
returns-clause-numeral c =
    let joined = c.signed-negative.ensures.joined in
    let sign = c.signed-negative.result.0 in
    let piece : List ℕ = c.args.piece.now in
    let body : List ℕ = c.signed-negative.result.1.now in
    let after : List ℕ = c.split_at.result.1.now in
    let point = c.digits_after-whole.result.1 in
    let places = c.digits_after-digits.result.1 in
    let whole = c.digits_after-whole.ensures in
    let digits = c.digits_after-digits.ensures in
    let dot = c.if-not-is_point_at.ensures in
    let end = c.if-not-ends_at.ensures in
    let some : 0 < point = omega (arith, c.if-point-eq0.false) in
    let then = c.split_at.ensures.back in
    let inside = dot.within refl in
    let behind = end.within refl in
    let bytes : ℕ = c.from.result + point + 1 + places in
    let long : bytes ≡ length (sign_text sign) + point + 1 + places = ap (λ (n : ℕ). n + point + 1 + places)
    (c.from.ensures ∙ sign_long sign) in
    let is = numeral_is sign piece body after point places joined inside (dot.point refl) then behind bytes long some
    whole.all digits.all c.digits_after-whole.result.0 c.digits_after-digits.result.0 whole.number digits.number in
    record {
      behind = within_so sign piece body after point places joined inside (dot.point refl) then behind bytes long;
      numeral = is;
      matches = decimal_float (take bytes piece) sign c.digits_after-digits.result.0 places is;
      ends = ends_there sign piece body after point places joined inside (dot.point refl) then behind bytes long some
          whole.all digits.all (end.digit refl) (end.letter refl) (end.capital refl);
    }
