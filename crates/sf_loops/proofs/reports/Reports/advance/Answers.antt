use Rattle.std.proofs.Common.{◌∙◌, ap}
use Rattle.sf_loops.specs.Loops.{Loop}
use Rattle.sf_loops.proofs.Endings.{next_ends}
use Rattle.sf_loops.proofs.Rows.{next_from}
use Rattle.sf_loops.proofs.reports.Reports.advance.Goals as goal

pub returns-then-advance_at_once-clause-over : goal.returns-then-advance_at_once-clause-over
returns-then-advance_at_once-clause-over g c = λ end h.
    (let open' = c.advance_at_once.ensures.open c.if-advance_at_once.true in absurd cc)

pub returns-then-advance_at_once-clause-next : goal.returns-then-advance_at_once-clause-next
returns-then-advance_at_once-clause-next g c = λ open'. c.advance_at_once.ensures.next c.if-advance_at_once.true

pub returns-then-advance_at_once-clause-ends : goal.returns-then-advance_at_once-clause-ends
returns-then-advance_at_once-clause-ends g c = λ open'.
    next_ends g.S.Source.to_come g.S.Source.reads g.S.Source.failures g.row.N _ _ _ (returns-then-advance_at_once-clause-next g c open')

pub returns-then-advance_at_once-clause-no_read : goal.returns-then-advance_at_once-clause-no_read
returns-then-advance_at_once-clause-no_read g c = λ ended. c.advance_at_once.ensures.no_read

pub returns-then-advance_at_once-clause-stays : goal.returns-then-advance_at_once-clause-stays
returns-then-advance_at_once-clause-stays g c = λ ended. c.advance_at_once.ensures.stays ∙ ended

pub returns-then-advance_at_once-clause-format : goal.returns-then-advance_at_once-clause-format
returns-then-advance_at_once-clause-format g c = c.advance_at_once.ensures.format c.if-advance_at_once.true

pub returns-then-advance_at_once-clause-limit : goal.returns-then-advance_at_once-clause-limit
returns-then-advance_at_once-clause-limit g c = c.advance_at_once.ensures.limit c.if-advance_at_once.true

pub returns-clause-over : goal.returns-clause-over
returns-clause-over g c = λ end h.
    let same = c.advance_at_once.ensures.ended end h in
    let all = c.advance_on.ensures.over end (ap (λ (l : Loop g.row.S.Denot). l.over) same ∙ h) in
    (all.0 ∙ same, all.1)

pub returns-clause-next : goal.returns-clause-next
returns-clause-next g c = λ open'.
    let rest = c.advance_at_once.ensures.rest c.if-advance_at_once.false in
    next_from g.S.Source.to_come g.S.Source.reads g.S.Source.failures g.row.N c.args.self.now c.advance_at_once.new.self
    c.advance_on.new.self
    _ c.advance_on.result rest (c.advance_on.ensures.next (ap (λ (l : Loop g.row.S.Denot). l.over) rest ∙ open'))

pub returns-clause-ends : goal.returns-clause-ends
returns-clause-ends g c = λ open'.
    next_ends g.S.Source.to_come g.S.Source.reads g.S.Source.failures g.row.N _ _ _ (returns-clause-next g c open')

pub returns-clause-no_read : goal.returns-clause-no_read
returns-clause-no_read g c = λ ended.
    c.advance_on.ensures.no_read (c.advance_at_once.ensures.stays ∙ ended) ∙ c.advance_at_once.ensures.no_read

pub returns-clause-stays : goal.returns-clause-stays
returns-clause-stays g c = λ ended. c.advance_on.ensures.stays (c.advance_at_once.ensures.stays ∙ ended)

pub returns-clause-format : goal.returns-clause-format
returns-clause-format g c =
    c.advance_on.ensures.format ∙ ap (λ (l : Loop g.row.S.Denot). l.format) (c.advance_at_once.ensures.rest c.if-advance_at_once.false)

pub returns-clause-limit : goal.returns-clause-limit
returns-clause-limit g c =
    c.advance_on.ensures.limit ∙ ap (λ (l : Loop g.row.S.Denot). l.limit) (c.advance_at_once.ensures.rest c.if-advance_at_once.false)
