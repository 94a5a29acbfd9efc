use Rattle.std.proofs.Common.{◌≡◌, ◌+◌, ◌-◌, ◌/◌, sym, ◌∙◌, arith}
use Rattle.sf_float.specs.fewest.Digits.{trimmed}
use Rattle.sf_float.proofs.FewestLemmas.Trials.{trimmed_next, trimmed_end, trimmed_none}
use Rattle.sf_float.proofs.fewest.trial.trimmed.Goals as goal
use Rattle.sf_float.proofs.fewest.trial.trimmed.Goals.{then-loop-zeros-test+else-value-eq0, else-loop-zeros-test}

pub loop-zeros-preserved : goal.loop-zeros-preserved
loop-zeros-preserved c =
    let l = c.loop-zeros in
    let k = 17 - l.zeros in
    let e : k - 1 ≡ 17 - (l.zeros + 1) = omega arith in
    let f : c.args.last + l.zeros + 1 ≡ c.args.last + (l.zeros + 1) = omega arith in
    let t = trimmed_next k l.value (c.args.last + l.zeros) (omega (arith, c.loop-zeros-test.true)) c.if-value-eq0.true in (
      omega (arith, c.loop-zeros-test.true),
      omega (arith, l.invariant.1),
      l.invariant.2 ∙ t ∙ (λ i. trimmed (e i) (l.value / 10) (f i)),
    )

pub returns-clause-value : goal.returns-clause-value
returns-clause-value c =
    let l = c.loop-zeros in
    sym (l.invariant.2 ∙ stop)
  where
    stop : trimmed (17 - c.loop-zeros.zeros) c.loop-zeros.value (c.args.last + c.loop-zeros.zeros)
        ≡ (c.loop-zeros.value, c.args.last + c.loop-zeros.zeros)
    stop = elim c.loop-zeros-test.branch [
      | then-loop-zeros-test+else-value-eq0 w ↦ trimmed_end _ _ _ w.if-value-eq0.false
      | else-loop-zeros-test w ↦ trimmed_none _ _ _ (omega (arith, w.loop-zeros-test.false))
    ]
