use Rattle.sf_format.specs.Proper.{destinations_of}
use Rattle.sf_format.proofs.SlotLookups.{kinds_are}
use Rattle.sf_format.proofs.scan.ScanFormat.kind.Goals as goal

pub returns-clause-some : goal.returns-clause-some
returns-clause-some c = rw (c.find_kind.ensures, ← c.directives.ensures.value)
    (kinds_are c.args.slot (destinations_of c.directives.result.now) c.directives.ensures.slots)
