use Rattle.std.proofs.Common.{◌≡◌, false, sym, ◌∙◌, ap, map, subst}
use Rattle.std.specs.Prelude.{unwrap_or}
use Rattle.sf_format.specs.Unbounded.{EndsUnbounded}
use Rattle.std.proofs.lemmas.Result.{err_from_is_err_and}
use Rattle.sf_format.specs.Layout.{items_assigned, items_taken, row_of}
use Rattle.sf_format.specs.Widths.{width_sum}
use Rattle.sf_format.specs.Proper.{has_group, has_optional}
use Rattle.sf_format.proofs.Meanings.{scan_meaning, scan_slots}
use Rattle.sf_format.proofs.Accepted.{all_needed, no_group, proper}
use Rattle.sf_format.proofs.PartSlots.{slots_count}
use Rattle.sf_format.proofs.scan.ScanFormat.parse.Goals as goal
use Rattle.sf_format.proofs.scan.ScanFormat.parse.Goals.{then-has_doubles, else-has_doubles, then-optional, else-optional}

pub parse-requires : goal.parse-requires
parse-requires c = scan_meaning c.args.profile

pub returns-in_err-directives : goal.returns-in_err-directives
returns-in_err-directives c =
    let p = err_from_is_err_and c.from_residual.result c.from_residual.ensures.1 in
    let parsed = c.in_err-directives.ensures in
    rw (p.1, p.2) (record {
      spelled = tt;
      refused = parsed.refused;
      fault = λ at why fault. cc (parsed.fault at why fault);
      accepted = parsed.accepted;
    })

pub sum_of_widths-widths-requires : goal.sum_of_widths-widths-requires
sum_of_widths-widths-requires c =
    rw c.deref-2.ensures.value (proper c.args.profile c.args.text.now c.in_ok-directives.directives.items
    c.in_ok-directives.ensures.spelled.0).short

pub ends_unbounded-unbounded-requires : goal.ends_unbounded-unbounded-requires
ends_unbounded-unbounded-requires c =
    let ds = c.in_ok-directives.directives.items in
    let same : c.if-has_doubles.optional ≡ has_optional ds = elim c.if-has_doubles.branch [
      | then-has_doubles w ↦ w.optional-is ∙ w.has_optional-optional.ensures ∙ ap has_optional w.deref-then-has_doubles.ensures.value
      | else-has_doubles w ↦ w.optional-is ∙ w.if-has_doubles.false ∙ sym (all_needed c.args.profile c.args.text.now ds
          c.in_ok-directives.ensures.spelled.0 (sym c.has_doubles.ensures ∙ w.if-has_doubles.false))
    ] in
    elim c.if-optional.branch [
      | then-optional w ↦ w.grouped-is ∙ w.has_group-grouped.ensures
          ∙ ap has_group (w.deref-then-optional.ensures.value ∙ sym c.deref-4.ensures.value)
      | else-optional w ↦
          let none : has_optional ds ≡ false = sym same ∙ w.if-optional.false in
          w.grouped-is ∙ w.if-optional.false ∙ sym (no_group c.args.profile c.args.text.now ds c.in_ok-directives.ensures.spelled.0 none)
          ∙ ap has_group (sym c.deref-4.ensures.value)
    ]

pub invariant_of-result : goal.invariant_of-result
invariant_of-result c =
    let spelled = c.in_ok-directives.ensures.spelled in
    let ds = c.in_ok-directives.directives.items in
    let same : c.if-has_doubles.optional ≡ has_optional ds = elim c.if-has_doubles.branch [
      | then-has_doubles w ↦ w.optional-is ∙ w.has_optional-optional.ensures ∙ ap has_optional w.deref-then-has_doubles.ensures.value
      | else-has_doubles w ↦ w.optional-is ∙ w.if-has_doubles.false ∙ sym (all_needed c.args.profile c.args.text.now ds
          c.in_ok-directives.ensures.spelled.0 (sym c.has_doubles.ensures ∙ w.if-has_doubles.false))
    ] in
    record {
      accepted = proper c.args.profile c.args.text.now c.in_ok-directives.directives.items spelled.0;
      counted = spelled.1 ∙ sym (slots_count (scan_slots c.args.profile) spelled.0.0 c.in_ok-directives.directives.items spelled.0.3);
      summed = c.sum_of_widths-widths.ensures ∙ ap width_sum c.deref-2.ensures.value;
      laid = c.in_ok-rows.ensures ∙ ap (map row_of) c.deref.ensures.value;
      assigned = c.items_of-items.ensures.assigned ∙ ap items_assigned c.deref-3.ensures.value;
      converted = c.items_of-items.ensures.taken ∙ ap items_taken c.deref-3.ensures.value;
      optional = same;
      reserve = c.unwrap_or-reserve.ensures
          ∙ ap (λ w. unwrap_or w 0) (c.sum_of_widths-widths.ensures ∙ ap width_sum c.deref-2.ensures.value);
      unbounded = (
        λ h. subst EndsUnbounded c.deref-4.ensures.value (c.ends_unbounded-unbounded.ensures.0 h),
        λ ends. c.ends_unbounded-unbounded.ensures.1 (subst EndsUnbounded (sym c.deref-4.ensures.value) ends),
      );
    }

pub returns-clause-fault : goal.returns-clause-fault
returns-clause-fault c = λ at why fault. absurd (cc (c.in_ok-directives.ensures.fault at why fault))

pub returns-in_err-rows-clause-fault : goal.returns-in_err-rows-clause-fault
returns-in_err-rows-clause-fault c = λ at why fault. absurd (cc (c.in_ok-directives.ensures.fault at why fault))

pub items_of-items-requires : goal.items_of-items-requires
items_of-items-requires c =
    let accepted = proper c.args.profile c.args.text.now c.in_ok-directives.directives.items c.in_ok-directives.ensures.spelled.0 in
    rw c.deref-3.ensures.value (record { short = accepted.short; few = accepted.few })
