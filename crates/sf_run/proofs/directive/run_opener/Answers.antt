use Rattle.std.proofs.Common.{sym, subst}
use Rattle.sf_format.specs.declared.directive.Directive.TheVariants.{Opens}
use Rattle.sf_format.specs.declared.directive.Literal.{Literal}
use Rattle.sf_report.proofs.Ones.{plain}
use Rattle.sf_report.specs.Machine.{Skipping}
use Rattle.sf_run.specs.declared.directive.Phase.TheVariants as phase
use Rattle.sf_run.specs.declared.directive.Run.{Run}
use Rattle.sf_run.specs.Pieces.{Answers, Suits}
use Rattle.sf_run.proofs.Openers.{opener_answers, opener_closes, opener_suits}
use Rattle.sf_run.proofs.directive.run_opener.Goals as goal

pub returns-in-Byte-clause-answers : goal.returns-in-Byte-clause-answers
returns-in-Byte-clause-answers c n =
    let o = c.args.opener in
    let piece = c.args.piece.now in
    let run = c.run_byte.result in
    let suits : Suits (plain o.literal) phase.Skipping piece run =
    subst (λ (l : Literal). Suits (plain l) phase.Skipping piece run) (sym c.in-Byte.is) c.run_byte.ensures.suits in
    subst (λ (r : Run). Answers (Opens o) Skipping n piece r) (sym c.or_missing.ensures)
    (opener_answers o n piece run c.run_byte.ensures.phase (opener_closes o n piece run c.run_byte.ensures.phase suits)
    (subst (λ (l : Literal). Answers (plain l) Skipping n piece run) (sym c.in-Byte.is) (c.run_byte.ensures.answers n)))

pub returns-in-Byte-clause-suits : goal.returns-in-Byte-clause-suits
returns-in-Byte-clause-suits c =
    let o = c.args.opener in
    let piece = c.args.piece.now in
    let run = c.run_byte.result in
    let suits : Suits (plain o.literal) phase.Skipping piece run =
    subst (λ (l : Literal). Suits (plain l) phase.Skipping piece run) (sym c.in-Byte.is) c.run_byte.ensures.suits in
    subst (λ (r : Run). Suits (Opens o) phase.Skipping piece r) (sym c.or_missing.ensures)
    (opener_suits o 0 piece run c.run_byte.ensures.phase suits)

pub returns-in-Percent-clause-answers : goal.returns-in-Percent-clause-answers
returns-in-Percent-clause-answers c n =
    let o = c.args.opener in
    let piece = c.args.piece.now in
    let run = c.run_percent.result in
    let suits : Suits (plain o.literal) phase.Skipping piece run =
    subst (λ (l : Literal). Suits (plain l) phase.Skipping piece run) (sym c.in-Percent.is) c.run_percent.ensures.suits in
    subst (λ (r : Run). Answers (Opens o) Skipping n piece r) (sym c.or_missing-in-Percent.ensures)
    (opener_answers o n piece run c.run_percent.ensures.phase (opener_closes o n piece run c.run_percent.ensures.phase suits)
    (subst (λ (l : Literal). Answers (plain l) Skipping n piece run) (sym c.in-Percent.is) (c.run_percent.ensures.answers n)))

pub returns-in-Percent-clause-suits : goal.returns-in-Percent-clause-suits
returns-in-Percent-clause-suits c =
    let o = c.args.opener in
    let piece = c.args.piece.now in
    let run = c.run_percent.result in
    let suits : Suits (plain o.literal) phase.Skipping piece run =
    subst (λ (l : Literal). Suits (plain l) phase.Skipping piece run) (sym c.in-Percent.is) c.run_percent.ensures.suits in
    subst (λ (r : Run). Suits (Opens o) phase.Skipping piece r) (sym c.or_missing-in-Percent.ensures)
    (opener_suits o 0 piece run c.run_percent.ensures.phase suits)
