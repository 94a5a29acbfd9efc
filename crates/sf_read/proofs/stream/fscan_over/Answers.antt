use Rattle.std.proofs.Common.{rules, ◌≡◌, ◌∙◌, take, drop, refl, sym, ap, subst}
use Rattle.std.specs.Prelude.{IfOk}
use Rattle.std.proofs.lemmas.List.{take-append-drop, length-take-le}
use Rattle.sf_run.specs.Limits.{RunTold}
use Rattle.sf_read.specs.source.Ahead.{input_of}
use Rattle.sf_run.specs.Runs.{RunReport}
use Rattle.sf_read.specs.Made.{Made}
use Rattle.sf_read.specs.Reads.{WaitedFor}
use Rattle.sf_read.specs.Scan.{Scan}
use Rattle.sf_read.proofs.Blocks.{no_reads}
use Rattle.sf_read.proofs.stream.fscan_over.Goals as goal

pub returns-clause-scan : goal.returns-clause-scan
returns-clause-scan g c t e =
    subst (λ report. Scan g.S.Source.to_come c.args.format.now c.args.limit t c.args.from.now c.fscan_held.new.from report)
    (sym c.new.ensures.report) (c.in-Some.ensures.scan t e)

pub returns-clause-told : goal.returns-clause-told
returns-clause-told g c =
    let told = c.in-Some.ensures.told in
    (told.0, told.1, subst (λ report. RunTold c.args.format.now c.args.limit told.0 told.1 report) (sym c.new.ensures.report) told.2)

pub returns-2-clause-scan : goal.returns-2-clause-scan
returns-2-clause-scan g c t e =
    let stood : c.else-limit-le-MOST_BYTES.from ≡ c.args.from.now = search rules in
    subst (λ old. IfOk c.fscan_by_scanner.result (λ s. Scan g.S.Source.to_come c.args.format.now c.args.limit t old
    c.fscan_by_scanner.new.from s.report)) stood
    (c.fscan_by_scanner.ensures.scan t (ap (input_of g.S.Source.to_come) stood ∙ e))

pub returns-clause-waited : goal.returns-clause-waited
returns-clause-waited g c =
    let held : c.fscan_held.new.from.held ≡ drop c.in-Some.outcome.used c.args.from.now.held = c.in-Some.ensures.held in (
      take c.in-Some.outcome.used c.args.from.now.held,
      ap (λ (r : RunReport). r.used) c.new.ensures.report ∙ sym (length-take-le c.in-Some.outcome.used c.args.from.now.held
          c.in-Some.ensures.within),
      no_reads (take c.in-Some.outcome.used c.args.from.now.held) c.fscan_held.new.from
          (rw (held, take-append-drop) refl) c.fscan_held.ensures.no_read,
    )

pub returns-2-clause-waited : goal.returns-2-clause-waited
returns-2-clause-waited g c =
    let stood : c.else-limit-le-MOST_BYTES.from ≡ c.args.from.now = search rules in
    subst (λ old. IfOk c.fscan_by_scanner.result (λ s. WaitedFor g.S.Source.to_come g.S.Source.reads g.row.N c.args.format.now c.args.limit
    old c.fscan_by_scanner.new.from s.report.used)) stood
    c.fscan_by_scanner.ensures.waited

pub returns-clause-made : goal.returns-clause-made
returns-clause-made g c =
    subst (λ report. Made g.S.Source.to_come g.S.Source.reads g.row.N c.args.format.now c.args.limit c.args.from.now c.fscan_held.new.from
    report) (sym c.new.ensures.report) c.in-Some.ensures.made

pub returns-2-clause-made : goal.returns-2-clause-made
returns-2-clause-made g c =
    let stood : c.else-limit-le-MOST_BYTES.from ≡ c.args.from.now = search rules in
    subst (λ old. IfOk c.fscan_by_scanner.result (λ s. Made g.S.Source.to_come g.S.Source.reads g.row.N c.args.format.now c.args.limit
    old c.fscan_by_scanner.new.from s.report)) stood
    c.fscan_by_scanner.ensures.made
