use Rattle.std.proofs.Common.{◌≡◌, ◌+◌, ◌≤◌, ◌∙◌, unwrap_or, ap, min, length, take, arith, true, false}
use Rattle.sf_base.specs.stores.Kept.{buffer_of}
use Rattle.sf_format.specs.Proper.{slots_of}
use Rattle.sf_format.specs.Widths.{width_sum}
use Rattle.sf_run.specs.Holding.{are_among, still_stored}
use Rattle.sf_run.specs.Places.{places_left}
use Rattle.sf_run.specs.Scanner.{kept_by}
use Rattle.sf_run.specs.Texts.{slots_in}
use Rattle.sf_run.specs.declared.directive.Phase.TheVariants as phase
use Rattle.sf_run.proofs.Groups.{passed_on}
use Rattle.sf_run.proofs.Moves.{place_taken}
use Rattle.sf_run.proofs.Slots.{given_on, room_passed, size_passed}
use Rattle.sf_run.proofs.scanner.Scanner.pass_over.Goals as goal

pub invariant_of-self-clause-given : goal.invariant_of-self-clause-given
invariant_of-self-clause-given g c =
    let s = c.args.self.now in
    let ds = s.directives.now in
    let values = (kept_by s).values in
    passed_on (λ q. are_among (slots_in values) (slots_of (take q ds)) ≡ true) ds s.passed c.min-self.result c.args.directive.now
    c.requires.current (λ p d at h. given_on ds p d values at h)
    (c.min-self.ensures ∙ ap (λ k. min (s.passed + 1 + k) (length ds)) c.more.ensures)
    (given_on ds s.passed c.args.directive.now values c.requires.current s.given)

pub invariant_of-self-clause-roomy : goal.invariant_of-self-clause-roomy
invariant_of-self-clause-roomy g c bounded =
    let s = c.args.self.now in
    let ds = s.directives.now in
    let room = (kept_by s).room in
    passed_on (λ q. still_stored s.ended ds q phase.Skipping ≤ room) ds s.passed c.min-self.result c.args.directive.now
    c.requires.current (λ p d at h. room_passed s.ended ds p d phase.Skipping room at h)
    (c.min-self.ensures ∙ ap (λ k. min (s.passed + 1 + k) (length ds)) c.more.ensures)
    (room_passed s.ended ds s.passed c.args.directive.now s.phase room c.requires.current (s.roomy bounded))

pub invariant_of-self-clause-sized : goal.invariant_of-self-clause-sized
invariant_of-self-clause-sized g c bounded =
    let s = c.args.self.now in
    let ds = s.directives.now in
    let held = length (buffer_of (kept_by s)) in
    let sum = unwrap_or (width_sum ds) 0 in
    passed_on (λ q. held + still_stored s.ended ds q phase.Skipping ≤ sum) ds s.passed c.min-self.result c.args.directive.now
    c.requires.current (λ p d at h. size_passed s.ended ds p d phase.Skipping held sum at h)
    (c.min-self.ensures ∙ ap (λ k. min (s.passed + 1 + k) (length ds)) c.more.ensures)
    (size_passed s.ended ds s.passed c.args.directive.now s.phase held sum c.requires.current (s.sized bounded))

pub invariant_of-self-clause-assigned : goal.invariant_of-self-clause-assigned
invariant_of-self-clause-assigned g c =
    let s = c.args.self.now in
    let ds = s.directives.now in
    let place = place_taken ds s.passed c.args.directive.now false c.requires.current (λ e. cc) in
    let before = s.assigned in
    passed_on (λ q. s.tally.assigned + places_left ds q ≤ 32) ds s.passed c.min-self.result c.args.directive.now c.requires.current
    (λ p d at h. let less = place_taken ds p d false at (λ e. cc) in omega (arith, h, less))
    (c.min-self.ensures ∙ ap (λ k. min (s.passed + 1 + k) (length ds)) c.more.ensures)
    (omega (arith, before, place))
