use Rattle.std.proofs.Common.{◌≡◌, ◌≤◌, ◌+◌, ◌-◌, ◌∙◌, List, ℕ, length, ap, refl, sym, arith, true≢false}
use Rattle.std.proofs.lemmas.List.{length-map}
use Rattle.sf_format.specs.declared.directive.Directive.{Directive}
use Rattle.sf_format.specs.Layout.{row_of}
use Rattle.sf_format.specs.Slots.{slots_from}
use Rattle.sf_run.proofs.Ordered.{in_order, next_slot, order_few, order_more, row_at, slot_at}
use Rattle.sf_run.proofs.Slots.{slots_after_none}
use Rattle.sf_run.proofs.written.is_in_order.Goals as goal
use Rattle.sf_run.proofs.written.is_in_order.Goals.{in-Some+else-slot-next, in_default}

pub loop-row-preserved : goal.loop-row-preserved
loop-row-preserved c =
    let ds : List Directive = c.args.format.now in
    let i : ℕ = c.loop-row.row-index in
    let rows = c.loop-row.invariant.rows in
    let some = c.loop-row.invariant.some in
    let so_far = c.loop-row.invariant.slots in
    let few = order_few ds i c.loop-row.next (omega (arith, c.destinations.ensures.few, c.destinations.ensures.count)) so_far in
    let at = row_at _ ds i _ rows c.loop-row-test.true in
    elim c.match-row.branch [
      | in-Some+else-slot-next w ↦
          (let same = w.if-slot-next.false in
          let new : c.match-row.next ≡ w.in-Some.slot + 1 = w.next-is ∙ w.saturating_add-next.ensures ∙ omega (arith, same, few) in
          record {
            rows = rows;
            some = omega (arith, new);
            slots = order_more ds i at.0 w.in-Some.slot c.loop-row.next c.match-row.next at.1
                (slot_at _ at.0 _ at.2 w.in-Some.is) same some new so_far;
          })
      | in_default w ↦ record {
        rows = rows;
        some = omega (arith, w.next-is, some);
        slots = slots_after_none ds i at.0 at.1 (slot_at _ at.0 _ at.2 w.in_default.is) ∙ so_far
            ∙ ap (λ (k : ℕ). slots_from 1 (k - 1)) (sym w.next-is);
      }
    ]

pub returns-then-slot-next : goal.returns-then-slot-next
returns-then-slot-next c =
    let ds : List Directive = c.args.format.now in
    let at = row_at _ ds c.loop-row.row-index _ c.loop-row.invariant.rows c.loop-row-test.true in (
      λ is. absurd (true≢false (sym is)),
      λ order. absurd (c.if-slot-next.true (next_slot ds c.loop-row.row-index at.0 c.in-Some.slot c.loop-row.next at.1
          (slot_at _ at.0 _ at.2 c.in-Some.is) c.loop-row.invariant.some order c.loop-row.invariant.slots)),
    )

pub returns : goal.returns
returns c =
    let ds : List Directive = c.args.format.now in
    let i : ℕ = c.loop-row.row-index in
    let all : length ds ≤ i = omega (arith, c.loop-row-test.false, ap length c.loop-row.invariant.rows, length-map ds row_of) in (
      λ _. in_order ds i c.loop-row.next all c.loop-row.invariant.slots,
      λ _. refl,
    )
