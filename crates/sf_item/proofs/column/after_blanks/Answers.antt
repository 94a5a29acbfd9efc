use Rattle.std.proofs.Common.{[], sym, ◌∙◌, true≢false}
use Rattle.sf_item.proofs.ColumnReadings.{begins_text, breaks_before}
use Rattle.sf_item.proofs.column.after_blanks.Goals as goal
use Rattle.sf_item.proofs.column.after_blanks.Goals.{else-strict-via-then-strict+else-not-first, else-strict-via-else-strict}

pub returns-then-not-first-clause-reached : goal.returns-then-not-first-clause-reached
returns-then-not-first-clause-reached c = λ conversion f strict first h.
    breaks_before conversion c.args.reading.now h.0 f c.args.b h.1 (sym c.is_space.ensures ∙ c.if-is_space.false)
    (strict ∙ c.if-strict.true) (first ∙ c.if-not-first.true)

pub returns-else-strict-clause-reached : goal.returns-else-strict-clause-reached
returns-else-strict-clause-reached c = λ conversion f strict first h.
    begins_text conversion c.args.reading.now h.0 f c.args.b h.1 (sym c.is_space.ensures ∙ c.if-is_space.false) c.args.strict strict
    (elim c.else-strict.branch [
      | else-strict-via-then-strict+else-not-first w ↦ λ _. first ∙ w.if-not-first.false
      | else-strict-via-else-strict w ↦ λ is. absurd (true≢false (sym is ∙ w.if-strict.false))
    ])
    c.after_byte.new.reading c.after_byte.result (c.after_byte.ensures.byte [] h.1.1)
