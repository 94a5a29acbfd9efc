use Rattle.std.proofs.Common.{ap, sym}
use Rattle.sf_command.specs.jobs.Commands.{answer_by}
use Rattle.sf_command.proofs.jobs.command.scan_by.Goals as goal

pub returns-in-None-clause-scans : goal.returns-in-None-clause-scans
returns-in-None-clause-scans g c strict profile text t spelled told =
    (c.args.format.now, spelled, (c.run_scan_as.result, c.run_scan_as.ensures.loops t told, ap answer_by (sym c.in-None.is)))

pub returns-in-Some-clause-scans : goal.returns-in-Some-clause-scans
returns-in-Some-clause-scans g c strict profile text t spelled told =
    (c.args.format.now, spelled, (c.run_scan_as.result, c.run_scan_as.ensures.loops t told, ap answer_by (sym c.in-Some.is)))
