use Rattle.std.proofs.Common.{suc, ◌+◌, ◌*◌, get_or, drop, if◌then◌else◌, subst, sym, ap, ◌∙◌, arith}
use Rattle.sf_float_read.specs.declared.value.digits.Digits.{Digits}
use Rattle.sf_float_read.specs.value.Hexadecimals.{IsFront, digits_read}
use Rattle.sf_float_read.proofs.ValueLemmas.Fronts.{at_digit, at_point, one_place, one_at_most}
use Rattle.sf_float_read.proofs.value.digits.read_digits.Goals as goal
use Rattle.sf_float_read.proofs.value.digits.read_digits.Goals.{then-is_ascii_hexdigit, else-is_ascii_hexdigit+then-b-eq46}

pub loop-at-preserved : goal.loop-at-preserved
loop-at-preserved c =
    let l = c.loop-at in
    let i = l.invariant in
    let t = c.args.text.now in
    let v = i.3.0 in
    let b = get_or t l.at 0 in
    let rest = drop (l.at + 1) t in
    let after = c.if-is_ascii_hexdigit.after in
    elim c.if-is_ascii_hexdigit.branch [
      | then-is_ascii_hexdigit w ↦
          let x = v * 16 + w.digit_of.result in
          let places = ap (λ (d : Digits). d.places) w.digits-is in
          let hex = sym c.is_ascii_hexdigit.ensures.value ∙ w.if-is_ascii_hexdigit.true in (
            omega (arith, c.loop-at-test.true),
            omega (arith, ap (λ (d : Digits). d.cut) w.digits-is, w.push-digits.ensures.cut, i.1),
            omega (arith, places, w.push-digits.ensures.places, i.2, one_at_most l.after),
            (
              x,
              subst (λ (d : Digits). IsFront x d.m d.cut d.lost) (sym w.digits-is) (w.push-digits.ensures.front v i.3.1),
              i.3.2 ∙ at_digit t l.at v l.digits.places l.after c.loop-at-test.true hex
                  ∙ ap (λ k. digits_read (v * 16 + k) (if l.after then suc l.digits.places else l.digits.places) l.after rest)
                  (sym w.digit_of.ensures.value)
                  ∙ ap (λ k. digits_read x k l.after rest) (one_place l.digits.places l.after
                  ∙ omega (arith, places, w.push-digits.ensures.places))
                  ∙ ap (λ k. digits_read x c.if-is_ascii_hexdigit.digits.places k rest) (sym w.after-is),
            ),
          )
      | else-is_ascii_hexdigit+then-b-eq46 w ↦
          let places = ap (λ (d : Digits). d.places) w.digits-is in (
            omega (arith, c.loop-at-test.true),
            omega (arith, ap (λ (d : Digits). d.cut) w.digits-is, i.1),
            omega (arith, places, i.2),
            (
              v,
              subst (λ (d : Digits). IsFront v d.m d.cut d.lost) (sym w.digits-is) i.3.1,
              i.3.2 ∙ at_point t l.at v l.digits.places l.after c.loop-at-test.true w.if-b-eq46.true
                  ∙ (λ j. digits_read v (sym places j) (sym w.after-is j) rest),
            ),
          )
    ]
