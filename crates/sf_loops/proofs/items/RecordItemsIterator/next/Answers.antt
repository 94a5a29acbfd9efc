use Rattle.std.proofs.Common.{refl, arith, ap, inr, ◌≡◌}
use Rattle.sf_read.specs.field.Rows.{slots_by}
use Rattle.sf_loops.specs.Items.{RecordsLeft}
use Rattle.sf_loops.proofs.Given.{answers_by, row_by, stays_by}
use Rattle.sf_loops.proofs.items.RecordItemsIterator.next.Goals as goal

pub returns-in-Ok-Some-clause-steps : goal.returns-in-Ok-Some-clause-steps
returns-in-Ok-Some-clause-steps g c =
    let left : c.self.inside.left ≡ c.args.self.now.left = ap (λ (r : RecordsLeft g.row.S.Denot). r.left) c.self.view_is in (
      row_by g.S.Source.to_come g.S.Source.reads g.S.Source.failures g.row.N g.T.Row.kinds (slots_by g.T.Row.given g.T.Row.listed) _ _ _ _ _
          (ap (λ (r : RecordsLeft g.row.S.Denot). r.now) c.self.view_is) c.in-Ok-Some.field-0-is
          (record { over = c.in-Ok-Some.ensures.over; next = c.in-Ok-Some.ensures.next }),
      omega (arith, left, c.if-self-eq0.false),
      stays_by _ _ _ (ap (λ (r : RecordsLeft g.row.S.Denot). r.now.ahead) c.self.view_is) c.in-Ok-Some.ensures.no_read
          c.in-Ok-Some.ensures.stays,
    )

pub returns-in-Ok-None-clause-steps : goal.returns-in-Ok-None-clause-steps
returns-in-Ok-None-clause-steps g c = inr (
  row_by g.S.Source.to_come g.S.Source.reads g.S.Source.failures g.row.N g.T.Row.kinds (slots_by g.T.Row.given g.T.Row.listed) _ _ _ _ _
      (ap (λ (r : RecordsLeft g.row.S.Denot). r.now) c.self.view_is) c.in-Ok-None.field-0-is
      (record { over = c.in-Ok-None.ensures.over; next = c.in-Ok-None.ensures.next }),
  refl,
  stays_by _ _ _ (ap (λ (r : RecordsLeft g.row.S.Denot). r.now.ahead) c.self.view_is) c.in-Ok-None.ensures.no_read
      c.in-Ok-None.ensures.stays,
)

pub returns-in-Err-clause-steps : goal.returns-in-Err-clause-steps
returns-in-Err-clause-steps g c = (
  answers_by g.S.Source.to_come g.S.Source.reads g.S.Source.failures g.row.N g.T.Row.kinds (slots_by g.T.Row.given g.T.Row.listed) _ _ _ _
      (ap (λ (r : RecordsLeft g.row.S.Denot). r.now) c.self.view_is)
      (record { over = c.in-Err.ensures.over; next = c.in-Err.ensures.next }),
  refl,
  stays_by _ _ _ (ap (λ (r : RecordsLeft g.row.S.Denot). r.now.ahead) c.self.view_is) c.in-Err.ensures.no_read c.in-Err.ensures.stays,
)
