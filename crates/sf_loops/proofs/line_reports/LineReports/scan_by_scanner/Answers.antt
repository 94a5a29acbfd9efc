use Rattle.sf_loops.proofs.Scanning.{report_made, scanned_as}
use Rattle.sf_loops.proofs.line_reports.LineReports.scan_by_scanner.Goals as goal

pub returns-clause-scanned : goal.returns-clause-scanned
returns-clause-scanned g c =
    let o = c.outcome-outcome.ensures in
    scanned_as _ c.args.self.now _ c.deref.result.now c.in-Ok.scanned.report c.self.view_is c.deref.ensures.value
    (report_made c.outcome-outcome.result c.into_store.result.values c.in-Ok.scanned.report o.status o.at o.assigned o.converted o.used
    o.met
    c.into_store.ensures.values) c.in-Ok.ensures.report c.in-Ok.ensures.bounded
