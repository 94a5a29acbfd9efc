use Rattle.std.proofs.Common.{◌≡◌, Option, Some, [], refl, subst, sym, ◌∙◌}
use Rattle.std.specs.Prelude.{IsSome}
use Rattle.sf_format.specs.Proper.{AreProper}
use Rattle.sf_format.specs.Widths.{width_sum}
use Rattle.sf_report.specs.Runs.{RunReport}
use Rattle.sf_run.specs.outcome.Ending.TheVariants.{End}
use Rattle.sf_laws_tests.proofs.runs.over_two_stores.Goals as goal

same_report : (a b : RunReport) → ◌≡◌ {A = Option RunReport} (Some a) (Some b) → a ≡ b
same_report a b e = cc

pub returns : goal.returns
returns c =
    let ds = c.args.format.now in
    let text = c.args.text.now in
    let proper = subst AreProper c.directives-directives.ensures.value c.directives-directives.ensures.proper in
    let sum : IsSome (width_sum ds) = subst IsSome (sym (sym c.width_sum.ensures ∙ c.in-Some.is)) refl in
    let one_ran = c.feed.ensures.bounded ds 1000 [] sum c.in-Ok.ensures.after in
    let one = c.end.ensures.gives ds 1000 text (c.feed.ensures.after ds 1000 [] one_ran c.in-Ok.ensures.after) in
    let other_ran = c.feed-2.ensures.bounded ds 1000 [] sum c.in-Ok-fixed.ensures.after in
    let other = c.end-2.ensures.gives ds 1000 text (c.feed-2.ensures.after ds 1000 [] other_ran c.in-Ok-fixed.ensures.after) in
    let same = c.stores_report_alike.ensures ds proper 1000 text End _ _ one other (c.end.ensures.memory ∙ one_ran)
    (c.end-2.ensures.memory ∙ other_ran) in
    same_report c.in-Ok-into_scanned.first.report c.in-Ok-into_scanned-2.second.report
    (c.in-Ok-into_scanned.ensures.exactly ∙ same ∙ sym c.in-Ok-into_scanned-2.ensures.exactly)
