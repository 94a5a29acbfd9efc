use Rattle.std.proofs.Common.{take, sym, ap, ◌∙◌}
use Rattle.sf_read.specs.source.Counts.{lines_after}
use Rattle.sf_run.specs.Scanner.{standing}
use Rattle.sf_read.proofs.Endings.{has_report, count_failures, ends_at_end, made, scans, driven_by}
use Rattle.sf_read.proofs.stream.run.Goals as goal

pub unreachable-requires : goal.unreachable-requires
unreachable-requires g c =
    let r = has_report c.drive.ensures.driven in
    c.in-Err.ensures.gives (standing c.args.scanner).directives (standing c.args.scanner).limit r.0 r.1 r.2

pub returns-clause-scan : goal.returns-clause-scan
returns-clause-scan g c ds m t after e =
    scans c.in-Ok.scanned.report (driven_by after c.drive.ensures.driven)
    (λ x ending h. c.in-Ok.ensures.gives ds m x ending h) c.in-Ok.ensures.used c.in-Ok.ensures.memory t e

pub returns-clause-told : goal.returns-clause-told
returns-clause-told g c ds m after =
    let r = has_report (driven_by after c.drive.ensures.driven) in
    (r.0, r.1, c.in-Ok.ensures.gives ds m r.0 r.1 r.2)

pub returns-clause-reads : goal.returns-clause-reads
returns-clause-reads g c = let d = c.drive.ensures.driven in rw (c.in-Ok.ensures.used, d.used) d.count

pub returns-clause-waited : goal.returns-clause-waited
returns-clause-waited g c ds m after = let d = driven_by after c.drive.ensures.driven in (d.bytes, c.in-Ok.ensures.used ∙ d.used, d.waited)

pub returns-clause-failures : goal.returns-clause-failures
returns-clause-failures g c =
    count_failures c.in-Ok.scanned.report c.drive.ensures.driven (λ x ending h. c.in-Ok.ensures.gives (standing c.args.scanner).directives
    (standing c.args.scanner).limit x ending h) c.in-Ok.ensures.used c.in-Ok.ensures.memory

pub returns-clause-end : goal.returns-clause-end
returns-clause-end g c e =
    ends_at_end c.in-Ok.scanned.report c.drive.ensures.driven (λ x ending h. c.in-Ok.ensures.gives (standing c.args.scanner).directives
    (standing c.args.scanner).limit x ending h) c.in-Ok.ensures.used c.in-Ok.ensures.memory e

pub returns-clause-bounded : goal.returns-clause-bounded
returns-clause-bounded g c ds m after sum = c.in-Ok.ensures.memory ∙ (driven_by after c.drive.ensures.driven).bounded sum

pub returns-clause-lines : goal.returns-clause-lines
returns-clause-lines g c t e = c.drive.ensures.lines t e ∙ ap (λ n. lines_after c.args.lines.now (take n t)) (sym c.in-Ok.ensures.used)

pub returns-clause-made : goal.returns-clause-made
returns-clause-made g c ds m after =
    made c.in-Ok.scanned.report (driven_by after c.drive.ensures.driven)
    (λ x ending h. c.in-Ok.ensures.gives ds m x ending h) c.in-Ok.ensures.used c.in-Ok.ensures.memory
