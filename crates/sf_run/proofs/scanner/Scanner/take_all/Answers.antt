use Rattle.std.proofs.Common.{◌≡◌, ◌∙◌, None, length, sym, arith}
use Rattle.sf_run.specs.Holding.{still_stored}
use Rattle.sf_run.specs.Phases.{slot_in}
use Rattle.sf_run.specs.Scanner.{kept_by}
use Rattle.sf_run.specs.Texts.{text_slot}
use Rattle.sf_run.proofs.Slots.{next_none, room_kept}
use Rattle.sf_run.proofs.scanner.Scanner.take_all.Goals as goal

pub invariant_of-self-clause-roomy : goal.invariant_of-self-clause-roomy
invariant_of-self-clause-roomy g c bounded =
    let s = c.args.self.now in
    let run = c.args.run in
    let still : slot_in run.phase ≡ None = sym c.slot.ensures ∙ c.in-None.is in
    let none = next_none (text_slot c.args.directive.now) (slot_in s.phase) (slot_in run.phase) still c.requires.slot in
    room_kept s.directives.now s.passed c.args.directive.now s.phase run.phase (length c.args.item.now) c.requires.current none still
    c.requires.left bounded s.ended (kept_by s).room (s.roomy bounded)

pub invariant_of-self-clause-sized : goal.invariant_of-self-clause-sized
invariant_of-self-clause-sized g c bounded =
    let s = c.args.self.now in
    let run = c.args.run in
    let still : slot_in run.phase ≡ None = sym c.slot.ensures ∙ c.in-None.is in
    let none = next_none (text_slot c.args.directive.now) (slot_in s.phase) (slot_in run.phase) still c.requires.slot in
    let less = room_kept s.directives.now s.passed c.args.directive.now s.phase run.phase (length c.args.item.now) c.requires.current none
    still c.requires.left bounded s.ended (still_stored s.ended s.directives.now s.passed s.phase) (omega arith) in
    let was = s.sized bounded in
    omega (arith, less, was)
