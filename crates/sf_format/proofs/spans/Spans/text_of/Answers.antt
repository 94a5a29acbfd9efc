use Rattle.std.proofs.Common.{sym, ◌∙◌}
use Rattle.sf_format.proofs.SpanTexts.{text_at_span, text_at_none}
use Rattle.sf_format.proofs.spans.Spans.text_of.Goals as goal

pub returns-in_default : goal.returns-in_default
returns-in_default c = λ pieces is e. sym (text_at_none c.args.number pieces c.args.self.now is (sym c.span.ensures ∙ c.in_default.is))

pub returns : goal.returns
returns c = λ pieces is e.
    text_at_span c.args.number pieces c.args.self.now c.args.text.now c.in-Some.span c.get.result is e
    (sym c.span.ensures ∙ c.in-Some.is) c.get.ensures.lookup
