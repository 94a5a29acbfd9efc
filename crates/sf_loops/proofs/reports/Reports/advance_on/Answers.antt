use Rattle.std.proofs.Common.{Ok, Err, true, false, sym, ap, ◌∙◌, rules}
use Rattle.sf_format.specs.Proper.{has_optional}
use Rattle.sf_loops.specs.declared.turn.Turn.TheVariants.{Goes, Cut, Ends, Stops}
use Rattle.sf_loops.specs.Loops.{Loop}
use Rattle.sf_loops.specs.Turns.{turn_by}
use Rattle.sf_loops.proofs.Rows.{advances_by}
use Rattle.sf_loops.proofs.reports.Reports.advance_on.Goals as goal

pub returns-in-Goes-clause-next : goal.returns-in-Goes-clause-next
returns-in-Goes-clause-next g c = λ open'. record {
  run = search rules;
  advances = advances_by c.args.self.now _ (Goes) _ (Ok true)
      (ap (λ (l : Loop g.row.S.Denot). turn_by (has_optional l.format) c.self-2.inside.outcome) (sym c.self.view_is)
      ∙ ap (λ o. turn_by o c.self-2.inside.outcome) (sym c.has_optional-optional.ensures) ∙ sym c.next_turn.ensures ∙ c.in-Goes.is)
      (search rules);
}

pub returns-in-Cut-clause-next : goal.returns-in-Cut-clause-next
returns-in-Cut-clause-next g c = λ open'. record {
  run = search rules;
  advances = advances_by c.args.self.now _ (Cut) _ (Ok true)
      (ap (λ (l : Loop g.row.S.Denot). turn_by (has_optional l.format) c.self-2.inside.outcome) (sym c.self.view_is)
      ∙ ap (λ o. turn_by o c.self-2.inside.outcome) (sym c.has_optional-optional.ensures) ∙ sym c.next_turn.ensures ∙ c.in-Cut.is)
      (search rules);
}

pub returns-in-Ends-clause-next : goal.returns-in-Ends-clause-next
returns-in-Ends-clause-next g c = λ open'. record {
  run = search rules;
  advances = advances_by c.args.self.now _ (Ends) _ (Ok false)
      (ap (λ (l : Loop g.row.S.Denot). turn_by (has_optional l.format) c.self-2.inside.outcome) (sym c.self.view_is)
      ∙ ap (λ o. turn_by o c.self-2.inside.outcome) (sym c.has_optional-optional.ensures) ∙ sym c.next_turn.ensures ∙ c.in-Ends.is)
      (search rules);
}

pub returns-in-Stops-clause-next : goal.returns-in-Stops-clause-next
returns-in-Stops-clause-next g c = λ open'. record {
  run = search rules;
  advances = advances_by c.args.self.now _ (Stops c.in-Stops.why) _ (Err _)
      (ap (λ (l : Loop g.row.S.Denot). turn_by (has_optional l.format) c.self-2.inside.outcome) (sym c.self.view_is)
      ∙ ap (λ o. turn_by o c.self-2.inside.outcome) (sym c.has_optional-optional.ensures) ∙ sym c.next_turn.ensures ∙ c.in-Stops.is)
      (search rules);
}
