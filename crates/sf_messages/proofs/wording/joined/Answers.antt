use Rattle.std.proofs.Common.{[], arith, ap, length, lit<}
use Rattle.sf_messages.proofs.Lines.{room_for}
use Rattle.sf_messages.proofs.wording.joined.Goals as goal

pub push_str-requires : goal.push_str-requires
push_str-requires c =
    let room = room_for c.args.texts.now c.loop-text.text-index (record { ref_ptr = (0, 0); now = [] }) (omega arith) in
    let before = ap length c.loop-text.invariant in
    (lit< tt, omega (arith, room, before, c.requires))
