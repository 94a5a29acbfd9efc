use Rattle.sf_format.proofs.Meanings.{scan_slots, print_slots}
use Rattle.sf_format.proofs.PartSlots.{slots_in_order}
use Rattle.sf_format.proofs.laws.in_order.Goals as goal

pub returns-clause-scan : goal.returns-clause-scan
returns-clause-scan c = λ profile pieces ds is placed h. slots_in_order (scan_slots profile) pieces ds placed h

pub returns-clause-print : goal.returns-clause-print
returns-clause-print c = λ profile pieces us is placed h. slots_in_order (print_slots profile) pieces us placed h
