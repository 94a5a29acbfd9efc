use Rattle.std.proofs.Common.{ℕ, ◌+◌, ◌≤◌, ◌∷◌, List, [], length, drop, refl, subst, arith}
use Rattle.sf_format.specs.Proper.{AreProper}
use Rattle.sf_run.specs.outcome.Ending.TheVariants.{End}
use Rattle.sf_run.specs.Limits.{RunWithin}
use Rattle.sf_run.specs.Runs.{RunReport}
use Rattle.sf_run.specs.Views.{report_by}
use Rattle.sf_run.specs.Memory.{capacity_of}
use Rattle.sf_read.proofs.AtOnce.{ends_text, seen_block, used_block, used_text}
use Rattle.sf_read.proofs.Unbounded.{inside_report, whole_report, laid_down}
use Rattle.sf_read.proofs.whole.scan_with_newline.Goals as goal

pub returns-in_err-outcome-clause-answers : goal.returns-in_err-outcome-clause-answers
returns-in_err-outcome-clause-answers g c = λ seen.
    let ds = c.args.format.now in
    let text : List ℕ = c.args.text.now in
    let block : List ℕ = c.lay_down.new.block in
    let some = c.quick_run_into.ensures.answers (seen_block ds
    (subst AreProper c.directives-directives.ensures.value c.directives-directives.ensures.proper) c.args.limit text
    (drop (length text + 1) block) block (capacity_of (g.K.Store.kept c.args.store.now))
    (laid_down text block c.lay_down.ensures.front) seen) in
    grind (arith, some)

pub returns-else-outcome-len-2-clause-answers : goal.returns-else-outcome-len-2-clause-answers
returns-else-outcome-len-2-clause-answers g c = λ seen.
    let ds = c.args.format.now in
    let text : List ℕ = c.args.text.now in
    let block : List ℕ = c.lay_down.new.block in
    let report : RunReport = report_by c.in_ok-outcome.outcome (g.K.Store.kept c.quick_run_into.new.store).values in
    let capacity : ℕ = capacity_of (g.K.Store.kept c.args.store.now) in
    let used = used_block ds (subst AreProper c.directives-directives.ensures.value c.directives-directives.ensures.proper)
    c.args.limit text (drop (length text + 1) block) block capacity (laid_down text block c.lay_down.ensures.front) report
    c.in_ok-outcome.ensures.run seen in
    absurd (omega (
      arith,
      used_text ds c.args.limit text capacity report.used seen used,
      c.if-outcome-len.true,
      c.if-outcome-len-2.false,
      c.requires.shorter,
      c.requires.few,
    ))

pub returns-then-not-ends_unbounded-clause-answers : goal.returns-then-not-ends_unbounded-clause-answers
returns-then-not-ends_unbounded-clause-answers g c = λ seen.
    let ds = c.args.format.now in
    let text : List ℕ = c.args.text.now in
    let block : List ℕ = c.lay_down.new.block in
    let report : RunReport = report_by c.in_ok-outcome.outcome (g.K.Store.kept c.quick_run_into.new.store).values in
    let capacity : ℕ = capacity_of (g.K.Store.kept c.args.store.now) in
    let used = used_block ds (subst AreProper c.directives-directives.ensures.value c.directives-directives.ensures.proper)
    c.args.limit text (drop (length text + 1) block) block capacity (laid_down text block c.lay_down.ensures.front) report
    c.in_ok-outcome.ensures.run seen in
    let all : length text ≤ report.used = omega (arith, c.if-outcome-len.false, c.requires.shorter, c.requires.few) in
    c.if-not-ends_unbounded.ensures.1 (ends_text ds c.args.limit text capacity report.used seen used all)

pub returns-then-outcome-len-2-clause-run : goal.returns-then-outcome-len-2-clause-run
returns-then-outcome-len-2-clause-run g c =
    let ds = c.args.format.now in
    let text : List ℕ = c.args.text.now in
    let report : RunReport = report_by c.in_ok-outcome.outcome (g.K.Store.kept c.quick_run_into.new.store).values in
    let rest : List ℕ = drop (length text + 1) c.lay_down.new.block in
    inside_report c.done_runs_stay.ensures c.open_inputs_are_used.ensures ds
    (subst AreProper c.directives-directives.ensures.value c.directives-directives.ensures.proper) c.args.limit text (10 ∷ rest) report
    (subst (λ (x : List ℕ). RunWithin ds c.args.limit x End report) (laid_down text c.lay_down.new.block c.lay_down.ensures.front)
    (c.in_ok-outcome.ensures.run [] End))
    c.in_ok-outcome.ensures.done c.in_ok-outcome.ensures.met (omega (arith, c.if-outcome-len-2.true, c.requires.shorter, c.requires.few))

pub returns-clause-run : goal.returns-clause-run
returns-clause-run g c =
    let ds = c.args.format.now in
    let text : List ℕ = c.args.text.now in
    let report : RunReport = report_by c.in_ok-outcome.outcome (g.K.Store.kept c.quick_run_into.new.store).values in
    let rest : List ℕ = drop (length text + 1) c.lay_down.new.block in
    whole_report c.done_runs_stay.ensures ds
    (subst AreProper c.directives-directives.ensures.value c.directives-directives.ensures.proper)
    (c.if-not-ends_unbounded.ensures.0 refl) c.args.limit text (10 ∷ rest) report
    (subst (λ (x : List ℕ). RunWithin ds c.args.limit x End report) (laid_down text c.lay_down.new.block c.lay_down.ensures.front)
    (c.in_ok-outcome.ensures.run [] End))
    c.in_ok-outcome.ensures.done (omega arith)
