use Rattle.sf_forms.proofs.Numerals.{number_at, appended_as}
use Rattle.sf_forms.proofs.line.push_slot.Goals as goal

pub returns-in-Some-Number-clause-pushed : goal.returns-in-Some-Number-clause-pushed
returns-in-Some-Number-clause-pushed g c =
    appended_as _ _ _ _ _ (number_at c.args.form _ c.in-Some-Number.number
    (rw c.in-Some-Number.field-0-is at c.in-Some-Number.ensures)) c.push_number.ensures.appended
