use Rattle.std.proofs.Common.{sym, subst, ◌∙◌}
use Rattle.sf_base.specs.Blanks.{trimmed_front}
use Rattle.sf_item.specs.ColumnScans.{HasReached}
use Rattle.sf_item.proofs.ColumnReadings.{goes_on, still_after, breaks_after}
use Rattle.sf_item.proofs.column.place_after.Goals as goal

pub returns-in-Blank-clause-reached : goal.returns-in-Blank-clause-reached
returns-in-Blank-clause-reached c = λ conversion f strict first h.
    c.after_blanks.ensures.reached conversion f strict first
    (subst (λ place. HasReached conversion c.args.reading.now place f) c.in-Blank.is h)

pub returns-in-Inside-clause-reached : goal.returns-in-Inside-clause-reached
returns-in-Inside-clause-reached c = λ conversion f strict first h.
    let at = subst (λ place. HasReached conversion c.args.reading.now place f) c.in-Inside.is h in
    goes_on conversion c.args.reading.now at.0 f c.args.b at.1 c.args.strict strict c.after_byte.new.reading c.after_byte.result
    (c.after_byte.ensures.byte (trimmed_front f) at.1.2)

pub returns-in-After-clause-reached : goal.returns-in-After-clause-reached
returns-in-After-clause-reached c = λ conversion f strict first h.
    let at = subst (λ place. HasReached conversion c.args.reading.now place f) c.in-After.is h in
    still_after conversion c.args.reading.now at.0 f c.args.b at.1 (sym c.is_space.ensures ∙ c.if-is_space.true)

pub returns-in-After-2-clause-reached : goal.returns-in-After-2-clause-reached
returns-in-After-2-clause-reached c = λ conversion f strict first h.
    let at = subst (λ place. HasReached conversion c.args.reading.now place f) c.in-After.is h in
    breaks_after conversion c.args.reading.now at.0 f c.args.b at.1 (sym c.is_space.ensures ∙ c.if-is_space.false)
