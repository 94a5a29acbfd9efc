use Rattle.std.proofs.Common.{refl, arith}
use Rattle.sf_format.proofs.Notings.{notes_more}
use Rattle.sf_format.proofs.noted.note.Goals as goal

pub returns : goal.returns
returns c =
    λ ns notes.
    rw c.in-Some.is
    (notes_more c.args.count ns c.args.noted.now _ c.in-Some.number c.args.at _ _ notes (omega arith) c.contains.ensures refl
    c.first_place-noted.ensures c.first_place-noted-2.ensures c.insert.ensures.members)
