use Rattle.std.proofs.Common.{◌≡◌, ◌+◌, ◌∷◌, [], length, refl, sym, subst, ◌∙◌, append-nil, arith}
use Rattle.sf_format.specs.Proper.{AreProper}
use Rattle.sf_run.specs.outcome.Ending.TheVariants.{End}
use Rattle.sf_run.specs.Memory.{capacity_of}
use Rattle.sf_run.specs.Quick.{IsDoneWithin}
use Rattle.sf_run.specs.Runs.{RunReport}
use Rattle.sf_run.specs.Views.{report_by}
use Rattle.sf_read.proofs.AtOnce.{ends_text, used_block, used_text}
use Rattle.sf_read.proofs.Unbounded.{inside_report, whole_report}
use Rattle.sf_loops.proofs.Ended.{ended_length, with_newline}
use Rattle.sf_loops.proofs.at_once.run_ended.Goals as goal
use Rattle.sf_loops.proofs.at_once.run_ended.Goals.{then-left-eq0-via-then-left-eq0}
use Rattle.sf_loops.proofs.at_once.run_ended.Goals.{then-left-eq0-via-else-left-eq0+then-not-ends_unbounded}

pub returns-then-left-gt1-clause-run : goal.returns-then-left-gt1-clause-run
returns-then-left-gt1-clause-run c line is =
    let ds = c.args.format.now in
    let report : RunReport = report_by c.in_ok-outcome.outcome c.quick_run.new.store.values in
    let long : length c.args.ended.now ≡ length line + 1 = ended_length line c.args.ended.now is in
    inside_report c.done_runs_stay.ensures c.open_inputs_are_used.ensures ds
    (subst AreProper c.directives-directives.ensures.value c.directives-directives.ensures.proper) c.args.limit line (10 ∷ []) report
    (with_newline ds c.args.limit line c.args.ended.now report is (c.in_ok-outcome.ensures.run [] End))
    c.in_ok-outcome.ensures.done c.in_ok-outcome.ensures.met (omega (arith, long, c.if-left-gt1.true))

pub returns-clause-run : goal.returns-clause-run
returns-clause-run c line is =
    let ds = c.args.format.now in
    let report : RunReport = report_by c.in_ok-outcome.outcome c.quick_run.new.store.values in
    let long : length c.args.ended.now ≡ length line + 1 = ended_length line c.args.ended.now is in
    whole_report c.done_runs_stay.ensures ds
    (subst AreProper c.directives-directives.ensures.value c.directives-directives.ensures.proper)
    (c.if-not-ends_unbounded.ensures.0 refl) c.args.limit line (10 ∷ []) report
    (with_newline ds c.args.limit line c.args.ended.now report is (c.in_ok-outcome.ensures.run [] End))
    c.in_ok-outcome.ensures.done
    (omega (arith, long, c.if-left-gt1.false, c.if-left-eq0.false, c.in_ok-outcome.ensures.used))

pub returns-in_err-outcome-clause-answers : goal.returns-in_err-outcome-clause-answers
returns-in_err-outcome-clause-answers c = λ line is seen.
    let some = c.quick_run.ensures.answers (subst (λ y. IsDoneWithin c.args.format.now c.args.limit y (capacity_of c.args.store.now))
    (sym is) seen.done) in
    grind (arith, some)

pub returns-then-left-eq0-clause-answers : goal.returns-then-left-eq0-clause-answers
returns-then-left-eq0-clause-answers c = λ line is seen.
    let ds = c.args.format.now in
    let report : RunReport = report_by c.in_ok-outcome.outcome c.quick_run.new.store.values in
    let capacity = capacity_of c.args.store.now in
    let long : length c.args.ended.now ≡ length line + 1 = ended_length line c.args.ended.now is in
    let used = used_block ds (subst AreProper c.directives-directives.ensures.value c.directives-directives.ensures.proper)
    c.args.limit line [] c.args.ended.now capacity (append-nil c.args.ended.now ∙ is) report c.in_ok-outcome.ensures.run seen in
    let most = used_text ds c.args.limit line capacity report.used seen used in
    elim c.then-left-eq0.branch [
      | then-left-eq0-via-then-left-eq0 w ↦ absurd (omega (arith, long, most, w.if-left-eq0.true))
      | then-left-eq0-via-else-left-eq0+then-not-ends_unbounded w ↦
          w.if-not-ends_unbounded.ensures.1 (ends_text ds c.args.limit line capacity report.used seen used
          (omega (arith, long, c.if-left-gt1.false)))
    ]
