use Rattle.std.proofs.Common.{◌≡◌, ◌≤◌, true, false, refl, subst}
use Rattle.std.specs.Prelude.{IsSomeAnd, unwrap_or}
use Rattle.sf_format.specs.Proper.{has_optional}
use Rattle.sf_format.specs.Widths.{width_sum}
use Rattle.sf_run.specs.Memory.{capacity_of}
use Rattle.sf_loops.proofs.Rows.{next_at_once}
use Rattle.sf_loops.proofs.Taking.{held_answers}
use Rattle.sf_loops.proofs.reports.Reports.advance_at_once.Goals as goal

pub returns-in-Some-take_held-clause-next : goal.returns-in-Some-take_held-clause-next
returns-in-Some-take_held-clause-next g c = λ done.
    next_at_once g.S.Source.to_come g.S.Source.reads g.S.Source.failures g.row.N _ c.args.self.now _ c.self.view_is
    c.in-Some-take_held.ensures.run (c.in-Some-take_held.ensures.goes (has_optional c.self.inside.format.now)) refl refl
    c.saturating_add-self-inside.ensures c.in-None.is

pub returns-in-None-take_held-clause-answers : goal.returns-in-None-take_held-clause-answers
returns-in-None-take_held-clause-answers g c = λ open'.
    held_answers _ c.args.self.now (capacity_of c.in-Some-store.store) (false ≡ true) c.self.view_is
    (subst (λ o. IsSomeAnd o (λ s. unwrap_or (width_sum c.self.inside.format.now) 0 ≤ capacity_of s)) c.in-Some-store.is
    c.self.invariant.roomy) c.in-None-take_held.ensures.answers
