use Rattle.sf_base.specs.Data.{datum_of_number}
use Rattle.sf_report.specs.Steps.{Stores}
use Rattle.std.proofs.Common.{length, arith, true, refl, ◌∙◌}
use Rattle.sf_run.specs.Scanner.{kept_by}
use Rattle.sf_run.proofs.Moves.{place_taken}
use Rattle.sf_run.proofs.Slots.{opened_none, is_destination_of, given_more, slot_placed, slot_unused, joined_number, room_passed}
use Rattle.sf_base.specs.stores.Kept.{buffer_of}
use Rattle.sf_run.proofs.Slots.{size_passed}
use Rattle.sf_run.proofs.scanner.Scanner.set.Goals as goal

pub set_number-requires-clause-at_least_one : goal.set_number-requires-clause-at_least_one
set_number-requires-clause-at_least_one g c = grind (arith, slot_placed)

pub set_number-requires-clause-in_range : goal.set_number-requires-clause-in_range
set_number-requires-clause-in_range g c = grind (arith, slot_placed)

pub set_number-requires-clause-absent : goal.set_number-requires-clause-absent
set_number-requires-clause-absent g c =
    let s = c.args.self.now in
    slot_unused s.directives.now s.passed c.args.directive.now c.args.slot (kept_by s).values s.apart s.given c.requires.current
    c.requires.own

pub invariant_of-self-clause-given : goal.invariant_of-self-clause-given
invariant_of-self-clause-given g c =
    let s = c.args.self.now in
    rw c.set_number.ensures (given_more s.directives.now s.passed c.args.directive.now
    (kept_by s).values c.args.slot _ c.requires.current c.requires.own s.given)

pub invariant_of-self-clause-joined : goal.invariant_of-self-clause-joined
invariant_of-self-clause-joined g c =
    let s = c.args.self.now in
    rw c.set_number.ensures (joined_number (kept_by s).closed (kept_by s).values c.args.slot c.args.number s.joined)

pub invariant_of-self-clause-roomy : goal.invariant_of-self-clause-roomy
invariant_of-self-clause-roomy g c bounded =
    let s = c.args.self.now in
    rw c.set_number.ensures (room_passed s.ended s.directives.now s.passed c.args.directive.now s.phase (kept_by s).room c.requires.current
    (s.roomy bounded))

pub returns : goal.returns
returns g c =
    let s = c.args.self.now in
    rw c.set_number.ensures (record {
      keeps = record { directives = refl; limit = refl; met = refl; capacity = omega arith; room = omega arith };
      ended = refl;
      passed = refl;
      phase = refl;
      opened = opened_none (kept_by s).opened (s.under_way ∙ c.requires.no_text);
      tally = c.counted-tally.ensures.tally (Stores c.args.slot (datum_of_number c.args.number)) (kept_by s).values
          (record { passes = refl; stored = refl });
    })

pub invariant_of-self-clause-sized : goal.invariant_of-self-clause-sized
invariant_of-self-clause-sized g c bounded =
    let s = c.args.self.now in
    rw c.set_number.ensures (size_passed s.ended s.directives.now s.passed c.args.directive.now s.phase
    (length (buffer_of (kept_by s))) _ c.requires.current (s.sized bounded))

pub invariant_of-self-clause-assigned : goal.invariant_of-self-clause-assigned
invariant_of-self-clause-assigned g c =
    let s = c.args.self.now in
    let place = place_taken s.directives.now s.passed c.args.directive.now true c.requires.current
    (λ e. is_destination_of c.args.directive.now c.args.slot c.requires.own) in
    omega (arith, s.assigned, place, c.counted-tally.ensures.assigned)
