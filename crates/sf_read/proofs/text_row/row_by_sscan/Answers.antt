use Rattle.std.proofs.Common.{◌≡◌, ◌∙◌, false, length, sym, subst}
use Rattle.sf_run.specs.outcome.Ending.TheVariants.{End}
use Rattle.sf_run.specs.outcome.Status.{Status}
use Rattle.sf_read.specs.field.Rows.{slots_by}
use Rattle.sf_read.specs.Matches.{leaves}
use Rattle.sf_read.proofs.Shapes.{answers_whole, given}
use Rattle.sf_read.proofs.text_row.row_by_sscan.Goals as goal

pub row_of-requires : goal.row_of-requires
row_of-requires g c =
    given g.T.Row.kinds g.T.Row.optional c.args.format.now c.args.limit c.args.text.now End c.in-Ok.scanned.report
    c.requires.accepted.kinded
    c.requires.accepted.slots c.requires.shape
    c.in-Ok.ensures.report

pub returns-else-leaves-clause-run : goal.returns-else-leaves-clause-run
returns-else-leaves-clause-run g c = λ _.
    let len = length c.args.text.now in
    let whole : leaves c.args.matching c.in-Ok.scanned.report.status c.in-Ok.scanned.report.used len ≡ false =
    subst (λ n. leaves c.args.matching c.in-Ok.scanned.report.status n len ≡ false) c.outcome-outcome.ensures.used
    (subst (λ (s : Status). leaves c.args.matching s c.outcome-outcome.result.used len ≡ false) c.outcome-outcome.ensures.status
    (sym c.leaves.ensures ∙ c.if-leaves.false)) in
    record {
      report = c.in-Ok.scanned.report;
      answers = answers_whole g.T.Row.kinds (slots_by g.T.Row.given g.T.Row.listed) c.in-Ok.scanned.report _ c.row_of.result whole
          c.row_of.ensures.report;
      told = c.in-Ok.ensures.report;
      bounded = c.in-Ok.ensures.bounded;
    }
