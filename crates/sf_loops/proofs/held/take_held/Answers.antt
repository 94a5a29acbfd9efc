use Rattle.std.proofs.Common.{◌≡◌, ℕ, List, ◌++◌, ◌∙◌, length, take, subst, sym, ap, arith}
use Rattle.sf_format.specs.Proper.{AreProper}
use Rattle.sf_run.specs.outcome.Ending.{Ending}
use Rattle.sf_run.specs.Limits.{RunWithin}
use Rattle.sf_run.specs.Memory.{capacity_of}
use Rattle.sf_run.specs.Quick.{IsDoneWithin}
use Rattle.sf_run.specs.Runs.{RunReport}
use Rattle.sf_run.specs.Views.{report_by}
use Rattle.sf_read.specs.source.Counts.{lines_after}
use Rattle.sf_read.proofs.AtOnce.{used_within}
use Rattle.sf_loops.proofs.Taking.{goes_at_once, held_run}
use Rattle.sf_loops.proofs.held.take_held.Goals as goal

pub returns-clause-run : goal.returns-clause-run
returns-clause-run g c =
    let report : RunReport = report_by c.in_ok-outcome.outcome c.quick_run.new.store.values in
    let held : c.held.result.now ≡ c.args.from.now.held = c.held.ensures.held in
    held_run g.S.Source.to_come g.S.Source.reads g.S.Source.failures g.row.N c.args.format.now c.args.limit c.args.from.now
    c.consume.new.self
    c.args.lines.now c.count_front.new.lines report
    (λ z ending. subst (λ y. RunWithin c.args.format.now c.args.limit (y ++ z) ending report) held (c.in_ok-outcome.ensures.run z ending))
    c.in_ok-outcome.ensures.done c.in_ok-outcome.ensures.met (omega (arith, c.in_ok-outcome.ensures.used, ap length held))
    c.consume.ensures.held
    c.consume.ensures.source c.consume.ensures.at_end c.consume.ensures.told
    (c.count_front.ensures ∙ ap (λ y. lines_after c.args.lines.now (take report.used y)) c.held-2.ensures.held)

pub returns-in_err-outcome-clause-answers : goal.returns-in_err-outcome-clause-answers
returns-in_err-outcome-clause-answers g c = λ done some.
    let seen = c.quick_run.ensures.answers (subst (λ y. IsDoneWithin c.args.format.now c.args.limit y (capacity_of c.args.store.now))
    (sym c.held.ensures.held) done) in
    grind (arith, seen)

pub returns-then-outcome-eq0-clause-answers : goal.returns-then-outcome-eq0-clause-answers
returns-then-outcome-eq0-clause-answers g c = λ done some.
    let report : RunReport = report_by c.in_ok-outcome.outcome c.quick_run.new.store.values in
    let used = used_within c.args.format.now
    (subst AreProper c.directives-directives.ensures.value c.directives-directives.ensures.proper) c.args.limit c.args.from.now.held
    (capacity_of c.args.store.now) report
    (subst (λ y. (z : List ℕ) (ending : Ending) → RunWithin c.args.format.now c.args.limit (y ++ z) ending report) c.held.ensures.held
    c.in_ok-outcome.ensures.run) done in
    absurd (omega (arith, some, used, c.if-outcome-eq0.true))

pub returns-clause-goes : goal.returns-clause-goes
returns-clause-goes g c = λ optional.
    goes_at_once optional c.in_ok-outcome.outcome c.in_ok-outcome.ensures.done c.in_ok-outcome.ensures.met
    (omega (arith, c.if-outcome-eq0.false))
