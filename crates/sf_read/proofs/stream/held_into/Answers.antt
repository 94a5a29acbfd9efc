use Rattle.std.proofs.Common.{◌≡◌, ◌++◌, [], inl, length, ap, subst, arith}
use Rattle.sf_run.specs.outcome.Ending.TheVariants.{End}
use Rattle.sf_run.specs.Limits.{RunWithin}
use Rattle.sf_run.specs.Views.{report_by}
use Rattle.sf_read.proofs.Holding.{held_made, held_scan}
use Rattle.sf_read.proofs.stream.held_into.Goals as goal

pub returns-clause-scan : goal.returns-clause-scan
returns-clause-scan g c t e =
    let report = report_by c.in_ok-outcome.outcome (g.K.Store.kept c.quick_run_into.new.store).values in
    let held : c.held.result.now ≡ c.args.from.now.held = c.held.ensures.held in
    let used = c.in_ok-outcome.ensures.used in
    held_scan g.S.Source.to_come c.args.format.now c.args.limit c.args.from.now c.consume.new.self report
    (λ z ending. subst (λ y. RunWithin c.args.format.now c.args.limit (y ++ z) ending report) held (c.in_ok-outcome.ensures.run z ending))
    c.in_ok-outcome.ensures.met (omega (arith, used, ap length held)) c.consume.ensures.held c.consume.ensures.source
    c.consume.ensures.at_end c.consume.ensures.told t e

pub returns-clause-told : goal.returns-clause-told
returns-clause-told g c = (c.held.result.now ++ [], End, inl (c.in_ok-outcome.ensures.run [] End))

pub returns-clause-made : goal.returns-clause-made
returns-clause-made g c =
    let report = report_by c.in_ok-outcome.outcome (g.K.Store.kept c.quick_run_into.new.store).values in
    let held : c.held.result.now ≡ c.args.from.now.held = c.held.ensures.held in
    let used = c.in_ok-outcome.ensures.used in
    held_made g.S.Source.to_come g.S.Source.reads g.row.N c.args.format.now c.args.limit c.args.from.now c.consume.new.self report
    (λ z ending. subst (λ y. RunWithin c.args.format.now c.args.limit (y ++ z) ending report) held (c.in_ok-outcome.ensures.run z ending))
    c.in_ok-outcome.ensures.met (omega (arith, used, ap length held)) c.consume.ensures.held c.consume.ensures.source
    c.consume.ensures.at_end
