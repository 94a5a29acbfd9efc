use Rattle.sf_format.specs.Units.{values_of}
use Rattle.sf_format.proofs.SlotLookups.{kinds_are}
use Rattle.sf_format.proofs.print.PrintFormat.kind.Goals as goal

pub returns-clause-some : goal.returns-clause-some
returns-clause-some c = rw (c.find_printed_kind.ensures, ← c.directives.ensures.value)
    (kinds_are c.args.slot (values_of c.directives.result.now) c.directives.ensures.slots)
