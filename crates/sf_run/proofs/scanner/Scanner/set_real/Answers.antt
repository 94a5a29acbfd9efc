use Rattle.std.proofs.Common.{arith, true, refl}
use Rattle.sf_base.specs.Data.{Real}
use Rattle.sf_base.specs.stores.Kept.{text_of}
use Rattle.sf_report.specs.Steps.{Stores}
use Rattle.sf_run.specs.Scanner.{kept_by}
use Rattle.sf_run.proofs.Moves.{place_taken}
use Rattle.sf_run.proofs.Slots.{dropped_capacity, given_more, is_destination_of, joined_real, room_passed, size_dropped, slot_placed}
use Rattle.sf_run.proofs.Slots.{slot_unused}
use Rattle.sf_run.proofs.scanner.Scanner.set_real.Goals as goal

pub set_real-requires-clause-at_least_one : goal.set_real-requires-clause-at_least_one
set_real-requires-clause-at_least_one g c = grind (arith, slot_placed)

pub set_real-requires-clause-in_range : goal.set_real-requires-clause-in_range
set_real-requires-clause-in_range g c = grind (arith, slot_placed)

pub set_real-requires-clause-absent : goal.set_real-requires-clause-absent
set_real-requires-clause-absent g c =
    let s = c.args.self.now in
    rw c.drop_text.ensures (slot_unused s.directives.now s.passed c.args.directive.now c.args.slot (kept_by s).values s.apart s.given
    c.requires.current c.requires.own)

pub invariant_of-self-clause-given : goal.invariant_of-self-clause-given
invariant_of-self-clause-given g c =
    let s = c.args.self.now in
    rw (c.set_real.ensures, c.drop_text.ensures) (given_more s.directives.now s.passed c.args.directive.now
    (kept_by s).values c.args.slot _ c.requires.current c.requires.own s.given)

pub invariant_of-self-clause-joined : goal.invariant_of-self-clause-joined
invariant_of-self-clause-joined g c =
    let s = c.args.self.now in
    rw (c.set_real.ensures, c.drop_text.ensures) (joined_real (kept_by s).closed (kept_by s).values c.args.slot c.args.real s.joined)

pub invariant_of-self-clause-roomy : goal.invariant_of-self-clause-roomy
invariant_of-self-clause-roomy g c bounded =
    let s = c.args.self.now in
    let still = room_passed s.ended s.directives.now s.passed c.args.directive.now s.phase (kept_by s).room c.requires.current
    (s.roomy bounded) in
    rw (c.set_real.ensures, c.drop_text.ensures) (omega (arith, still))

pub invariant_of-self-clause-sized : goal.invariant_of-self-clause-sized
invariant_of-self-clause-sized g c bounded =
    let s = c.args.self.now in
    rw (c.set_real.ensures, c.drop_text.ensures) (size_dropped s.ended s.directives.now s.passed c.args.directive.now s.phase
    (kept_by s).closed (text_of (kept_by s).opened) _ c.requires.current (s.sized bounded))

pub invariant_of-self-clause-assigned : goal.invariant_of-self-clause-assigned
invariant_of-self-clause-assigned g c =
    let s = c.args.self.now in
    let place = place_taken s.directives.now s.passed c.args.directive.now true c.requires.current
    (λ e. is_destination_of c.args.directive.now c.args.slot c.requires.own) in
    omega (arith, s.assigned, place, c.counted-tally.ensures.assigned)

pub returns : goal.returns
returns g c =
    let s = c.args.self.now in
    rw (c.set_real.ensures, c.drop_text.ensures) (record {
      keeps = record { directives = refl; limit = refl; met = refl; capacity = dropped_capacity (kept_by s); room = omega arith };
      ended = refl;
      passed = refl;
      phase = refl;
      opened = refl;
      tally = c.counted-tally.ensures.tally (Stores c.args.slot (Real c.args.real)) (kept_by s).values
          (record { passes = refl; stored = refl });
    })
