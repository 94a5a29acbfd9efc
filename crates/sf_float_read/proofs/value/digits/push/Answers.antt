use Rattle.std.proofs.Common.{ℕ, ◌^◌, ◌≤◌, ◌*◌, ◌+◌, subst, sym, arith}
use Rattle.sf_float_read.specs.value.Hexadecimals.{IsFront}
use Rattle.sf_float_read.proofs.ValueLemmas.Fronts.{skipped_zero, skipped_more}
use Rattle.sf_float_read.proofs.value.digits.push.Goals as goal
use Rattle.sf_float_read.proofs.value.digits.push.Goals.{else-so_far-eq0-via-then-so_far-eq0+else-so_far}
use Rattle.sf_float_read.proofs.value.digits.push.Goals.{else-so_far-eq0-via-else-so_far-eq0}

pub returns-then-digit-eq0-clause-front : goal.returns-then-digit-eq0-clause-front
returns-then-digit-eq0-clause-front c v f =
    let s = c.args.so_far in
    let long : 2 ^ 56 ≤ s.m = elim c.else-so_far-eq0.branch [
      | else-so_far-eq0-via-then-so_far-eq0+else-so_far w ↦ w.if-so_far.false
      | else-so_far-eq0-via-else-so_far-eq0 w ↦ f.long (omega (arith, w.if-so_far-eq0.false))
    ] in
    subst (λ (d : ℕ). IsFront (v * 16 + d) s.m (s.cut + 1) s.lost) (sym c.if-digit-eq0.true) (skipped_zero v s.m s.cut s.lost long f)

pub returns-clause-front : goal.returns-clause-front
returns-clause-front c v f =
    let s = c.args.so_far in
    let long : 2 ^ 56 ≤ s.m = elim c.else-so_far-eq0.branch [
      | else-so_far-eq0-via-then-so_far-eq0+else-so_far w ↦ w.if-so_far.false
      | else-so_far-eq0-via-else-so_far-eq0 w ↦ f.long (omega (arith, w.if-so_far-eq0.false))
    ] in
    skipped_more v s.m s.cut c.args.digit s.lost long (omega (arith, c.if-digit-eq0.false)) c.requires.0 f
