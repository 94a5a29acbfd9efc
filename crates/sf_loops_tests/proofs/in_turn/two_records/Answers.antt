use Rattle.std.proofs.Common.{◌≡◌, ℕ, List, [], ◌∷◌, Some, Ok, ap, refl, subst, ◌∙◌}
use Rattle.sf_format.specs.declared.directive.Directive.{Directive}
use Rattle.sf_read.specs.field.Rows.{slots_by}
use Rattle.sf_loops.specs.Laws.{AreRecords}
use Rattle.sf_loops.specs.Loops.{IsNextRow}
use Rattle.sf_loops_tests.proofs.Turned.{still}
use Rattle.sf_loops_tests.proofs.in_turn.two_records.Goals as goal

pub returns : goal.returns
returns g c =
    let begun = c.in-Ok.ensures in
    let kinds = g.T.Row.kinds in
    let given = slots_by g.T.Row.given g.T.Row.listed in
    let old = c.in-Ok.records in
    let mid = c.next.new.self in
    let new = c.next-2.new.self in
    let first = c.in-Ok-Some.first in
    let second = c.in-Ok-Some-next.second in
    let one = subst (λ r. IsNextRow (λ s. Some s.to_come) (λ s. s.reads) (λ s. 0) 64 kinds given old mid r)
    (c.in-Ok-Some.is ∙ ap Ok c.in-Ok-Some.field-0-is) (c.next.ensures.next begun.none_yet.2) in
    let goes = still mid.over (λ end. new ≡ mid) c.next-2.result second c.next-2.ensures.over
    (c.in-Ok-Some-next.is ∙ ap Ok c.in-Ok-Some-next.field-0-is) in
    let all = c.answers_are_records.ensures old mid (first ∷ []) (mid, one, goes, refl) c.args.text.now
    (rw (begun.held, begun.source, c.new.ensures) refl) in (
      all.0,
      subst (λ (ds : List Directive). AreRecords kinds given ds 1000 c.args.text.now (first ∷ []) all.0) begun.format.0
          (subst (λ (m : ℕ). AreRecords kinds given old.format m c.args.text.now (first ∷ []) all.0) begun.format.1 all.1),
    )
