use Rattle.std.proofs.Common.{◌≡◌, List, [], ◌∷◌, Some, Ok, ap, refl, subst, ◌∙◌}
use Rattle.sf_read.specs.field.Rows.{slots_by}
use Rattle.sf_loops.specs.Laws.{AnswersInTurn, blocks_in_turn}
use Rattle.sf_loops.specs.Loops.{IsNextRow}
use Rattle.sf_loops_tests.proofs.Turned.{still}
use Rattle.sf_loops_tests.proofs.in_turn.two_read.Goals as goal

pub returns : goal.returns
returns g c open' =
    let s = g.S.Source in
    let kinds = g.T.Row.kinds in
    let given = slots_by g.T.Row.given g.T.Row.listed in
    let old = c.args.records.now in
    let mid = c.next.new.self in
    let new = c.next-2.new.self in
    let first = c.in-Ok-Some.first in
    let second = c.in-Ok-Some-next.second in
    let one = subst (λ r. IsNextRow s.to_come s.reads s.failures g.row.N kinds given old mid r)
    (c.in-Ok-Some.is ∙ ap Ok c.in-Ok-Some.field-0-is) (c.next.ensures.next open') in
    let goes = still mid.over (λ end. new ≡ mid) c.next-2.result second c.next-2.ensures.over
    (c.in-Ok-Some-next.is ∙ ap Ok c.in-Ok-Some-next.field-0-is) in
    let answers : AnswersInTurn s.to_come s.reads s.failures g.row.N kinds given old (first ∷ []) mid = (mid, one, goes, refl) in (
      mid,
      blocks_in_turn s.to_come s.reads s.failures g.row.N kinds given old (first ∷ []) mid answers,
      c.reads_are_records.ensures old mid (first ∷ []) answers,
    )
