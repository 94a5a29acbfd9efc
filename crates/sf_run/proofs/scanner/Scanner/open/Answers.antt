use Rattle.std.proofs.Common.{◌≡◌, arith, sym, subst, ◌∙◌}
use Rattle.sf_format.specs.declared.directive.Directive.{Directive}
use Rattle.sf_run.specs.Holding.{left_before}
use Rattle.sf_run.specs.Scanner.{kept_by}
use Rattle.sf_run.proofs.Slots.{slot_of_own, slot_placed, slot_unused, opened_none, open_limited, room_opened, text_own}
use Rattle.sf_run.specs.Holding.{still_stored}
use Rattle.sf_run.proofs.Slots.{size_begun}
use Rattle.sf_run.proofs.scanner.Scanner.open.Goals as goal

pub open_text-requires-clause-at_least_one : goal.open_text-requires-clause-at_least_one
open_text-requires-clause-at_least_one g c = grind (arith, slot_placed, slot_of_own)

pub open_text-requires-clause-in_range : goal.open_text-requires-clause-in_range
open_text-requires-clause-in_range g c = grind (arith, slot_placed, slot_of_own)

pub open_text-requires-clause-absent : goal.open_text-requires-clause-absent
open_text-requires-clause-absent g c =
    let s = c.args.self.now in
    slot_unused s.directives.now s.passed c.args.directive.now c.args.slot (kept_by s).values s.apart s.given c.requires.current
    (slot_of_own c.args.directive.now c.args.slot c.requires.own)

-- the bytes left as the text begins
left : (g : _) (c : goal.After-opened_phase-self g) → left_before c.args.directive.now c.opened_phase-self.result
    ≡ left_before c.args.directive.now c.args.self.now.phase
left g c = subst (λ (d : Directive). left_before d c.opened_phase-self.result ≡ left_before d c.args.self.now.phase) (sym c.in-Conv.is)
    c.opened_phase-self.ensures.left

pub invariant_of-self-clause-own_slot : goal.invariant_of-self-clause-own_slot
invariant_of-self-clause-own_slot g c e = grind (arith, text_own)

pub invariant_of-self-clause-limited : goal.invariant_of-self-clause-limited
invariant_of-self-clause-limited g c bounded =
    let s = c.args.self.now in
    open_limited s.directives.now s.passed c.args.directive.now s.phase c.opened_phase-self.result c.args.slot c.requires.current
    c.requires.no_text c.opened_phase-self.ensures.slot c.requires.own (left g c) bounded

pub invariant_of-self-clause-roomy : goal.invariant_of-self-clause-roomy
invariant_of-self-clause-roomy g c bounded =
    let s = c.args.self.now in
    let d = c.args.directive.now in
    rw c.open_text.ensures (room_opened s.directives.now s.passed d s.phase c.opened_phase-self.result c.args.slot c.requires.current
    c.requires.no_text c.opened_phase-self.ensures.slot c.requires.own (left g c) bounded s.ended (kept_by s).room (s.roomy bounded))

pub invariant_of-self-clause-sized : goal.invariant_of-self-clause-sized
invariant_of-self-clause-sized g c bounded =
    let s = c.args.self.now in
    let d = c.args.directive.now in
    let still = still_stored s.ended s.directives.now s.passed s.phase in
    let rest = room_opened s.directives.now s.passed d s.phase c.opened_phase-self.result c.args.slot c.requires.current c.requires.no_text
    c.opened_phase-self.ensures.slot c.requires.own (left g c) bounded s.ended still (omega arith) in
    let same = size_begun (kept_by s).closed (kept_by s).opened (opened_none (kept_by s).opened (s.under_way ∙ c.requires.no_text)) in
    let was = s.sized bounded in
    rw c.open_text.ensures (omega (arith, rest, same, was))

pub invariant_of-self-clause-given : goal.invariant_of-self-clause-given
invariant_of-self-clause-given g c = rw c.open_text.ensures c.args.self.now.given

pub invariant_of-self-clause-joined : goal.invariant_of-self-clause-joined
invariant_of-self-clause-joined g c = rw c.open_text.ensures c.args.self.now.joined
