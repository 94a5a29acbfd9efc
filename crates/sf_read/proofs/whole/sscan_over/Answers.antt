use Rattle.std.proofs.Common.{inl, subst, sym}
use Rattle.sf_run.specs.outcome.Ending.TheVariants.{End}
use Rattle.sf_run.specs.Limits.{RunTold, RunWithin}
use Rattle.sf_read.proofs.whole.sscan_over.Goals as goal

pub returns-clause-report : goal.returns-clause-report
returns-clause-report c =
    subst (λ report. RunTold c.args.format.now c.args.limit c.args.text.now End report) (sym c.new.ensures.report)
    (inl c.in-Some.ensures.run)

pub returns-clause-bounded : goal.returns-clause-bounded
returns-clause-bounded c sum =
    subst (λ report. RunWithin c.args.format.now c.args.limit c.args.text.now End report) (sym c.new.ensures.report) c.in-Some.ensures.run
