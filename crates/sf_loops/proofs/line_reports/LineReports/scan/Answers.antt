use Rattle.std.proofs.Common.{inl}
use Rattle.sf_loops.proofs.Scanning.{scanned_from}
use Rattle.sf_loops.proofs.line_reports.LineReports.scan.Goals as goal

pub returns-in-Some-clause-scanned : goal.returns-in-Some-clause-scanned
returns-in-Some-clause-scanned g c = record { told = inl c.in-Some.ensures.run; bounded = λ some. c.in-Some.ensures.run }

pub returns-in-None-clause-scanned : goal.returns-in-None-clause-scanned
returns-in-None-clause-scanned g c =
    scanned_from c.args.self.now c.scan_at_once.new.self _ _ _ c.scan_at_once.ensures.rest c.scan_by_scanner.ensures.scanned
