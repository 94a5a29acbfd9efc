use Rattle.std.proofs.Common.{◌∙◌, Bool, false, arith, subst, sym, true≢false}
use Rattle.sf_run.specs.outcome.Ending.TheVariants.{End}
use Rattle.sf_c.specs.Records.{IsRunAt}
use Rattle.sf_c.proofs.Runs.{told_within}
use Rattle.sf_c.proofs.records.scan_front.Goals as goal

pub returns-in-Ok-sscan_over : goal.returns-in-Ok-sscan_over
returns-in-Ok-sscan_over c =
    let report = c.in-Ok-sscan_over.scanned.report in
    let used = c.outcome-used.result.used in
    let run : IsRunAt false c.args.format.now c.args.limit c.args.text.now used report =
    (c.in-Ok-sscan_over.ensures.report, c.outcome-used.ensures.used) in
    record {
      front = (
        subst (λ (b : Bool). IsRunAt b c.args.format.now c.args.limit c.args.text.now used report) (sym c.if-lines.false) run,
        omega (
          arith,
          c.outcome-used.ensures.used,
          told_within c.args.format.now c.args.limit c.args.text.now End report c.in-Ok-sscan_over.ensures.report,
        ),
        λ lines. absurd (true≢false (sym lines ∙ c.if-lines.false)),
      );
    }
