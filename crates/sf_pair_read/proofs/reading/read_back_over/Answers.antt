use Rattle.std.proofs.Common.{◌≡◌, ◌≤◌, ℕ, List, ◌++◌, length, Some, sym, subst}
use Rattle.std.specs.Prelude.{IfOk, IsSome}
use Rattle.sf_base.specs.stores.Kept.{texts_in}
use Rattle.sf_format.specs.declared.directive.Directive.{Directive}
use Rattle.sf_format.specs.Widths.{width_sum}
use Rattle.sf_print.specs.Printed.{printed}
use Rattle.sf_run.specs.outcome.Ending.{Ending}
use Rattle.sf_run.specs.Limits.{RunTold}
use Rattle.sf_read.specs.Made.{Made}
use Rattle.sf_read.specs.Reads.{WaitedFor}
use Rattle.sf_read.specs.Scan.{Scan}
use Rattle.sf_pair_read.proofs.Scans.{all_ok, told_held, bounded_by, reads_whole}
use Rattle.sf_pair_read.proofs.reading.read_back_over.Goals as goal

pub returns-clause-told : goal.returns-clause-told
returns-clause-told g c =
    subst (λ (ds : List Directive). IfOk c.fscan_over.result (λ s. (x : List ℕ) × (ending : Ending)
    × RunTold ds c.args.limit x ending s.report))
    c.scan.ensures.value c.fscan_over.ensures.told

pub returns-clause-stored : goal.returns-clause-stored
returns-clause-stored g c = c.fscan_over.ensures.bounded (subst (λ (ds : List Directive). IsSome (width_sum ds)) (sym c.scan.ensures.value)
    (bounded_by c.pair_laws.ensures c.args.pair.now.print c.args.pair.now.scan c.scan.ensures.checked))

pub returns-clause-held : goal.returns-clause-held
returns-clause-held g c =
    subst (λ (ds : List Directive). IfOk c.fscan_over.result (λ s. (n : ℕ) → width_sum ds ≡ Some n
    → length (texts_in s.report.values) ≤ n))
    c.scan.ensures.value (told_held c.pair_laws.ensures c.fscan_over.result c.scan.result.now c.args.limit c.fscan_over.ensures.told)

pub returns-clause-back : goal.returns-clause-back
returns-clause-back g c = λ values fit z input fits.
    let f = c.args.pair.now in
    all_ok c.fscan_over.result
    (subst (λ (ds : List Directive). IfOk c.fscan_over.result (λ s. Scan g.S.Source.to_come ds c.args.limit
    (printed f.print values ++ z) c.args.from.now c.fscan_over.new.from s.report)) c.scan.ensures.value (c.fscan_over.ensures.scan _ input))
    (c.fscan_over.ensures.bounded (subst (λ (ds : List Directive). IsSome (width_sum ds)) (sym c.scan.ensures.value)
    (bounded_by c.pair_laws.ensures c.args.pair.now.print c.args.pair.now.scan c.scan.ensures.checked)))
    (subst (λ (ds : List Directive). IfOk c.fscan_over.result (λ s. WaitedFor g.S.Source.to_come g.S.Source.reads g.row.N ds
    c.args.limit c.args.from.now c.fscan_over.new.from s.report.used)) c.scan.ensures.value c.fscan_over.ensures.waited)
    (λ s scan stored waited. reads_whole c.pair_laws.ensures g.S.Source.to_come g.S.Source.reads g.row.N f.print f.scan
    c.scan.ensures.checked values fit c.args.limit fits z c.args.from.now c.fscan_over.new.from s.report scan stored input waited)

pub returns-clause-waited : goal.returns-clause-waited
returns-clause-waited g c =
    subst (λ (ds : List Directive). IfOk c.fscan_over.result (λ s. WaitedFor g.S.Source.to_come g.S.Source.reads g.row.N ds
    c.args.limit c.args.from.now c.fscan_over.new.from s.report.used)) c.scan.ensures.value c.fscan_over.ensures.waited

pub returns-clause-made : goal.returns-clause-made
returns-clause-made g c =
    subst (λ (ds : List Directive). IfOk c.fscan_over.result (λ s. Made g.S.Source.to_come g.S.Source.reads g.row.N ds
    c.args.limit c.args.from.now c.fscan_over.new.from s.report)) c.scan.ensures.value c.fscan_over.ensures.made
