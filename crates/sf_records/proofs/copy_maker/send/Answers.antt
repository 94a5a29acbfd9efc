use Rattle.std.proofs.Common.{ℕ, List, Option, Err, refl}
use Rattle.sf_print.specs.declared.fault.PrintFault.{PrintFault}
use Rattle.sf_print.specs.declared.fault.PrintFault.TheVariants as fault
use Rattle.sf_print.specs.Printed.{WritesText}
use Rattle.sf_forms.specs.Written.{TakesPart}
use Rattle.sf_forms.proofs.MakerLemmas.Faults.{front_is_part}
use Rattle.sf_records.proofs.copy_maker.send.Goals as goal

-- a text that was not taken whole was taken in part
part_of : (old new : Option (List ℕ)) (text : List ℕ) (f : PrintFault) → WritesText old new text (Err f) → TakesPart old new text
part_of old new text (fault.Sink n) h = front_is_part old new text n h.0 h.1
part_of old new text fault.WrongCount h = absurd h
part_of old new text (fault.WrongKind slot) h = absurd h
part_of old new text (fault.NotOneByte slot) h = absurd h
part_of old new text fault.TooLong h = absurd h

pub returns-in-Err-clause-made : goal.returns-in-Err-clause-made
returns-in-Err-clause-made g c = (refl, part_of _ _ _ c.in-Err.field-0 c.in-Err.ensures.written)
