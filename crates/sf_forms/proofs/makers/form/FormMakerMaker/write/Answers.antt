use Rattle.std.proofs.Common.{◌∙◌, List, ℕ, ap, subst, sym}
use Rattle.sf_forms.specs.Forms.{record_text}
use Rattle.std.specs.Prelude.{is_some}
use Rattle.sf_forms.specs.Heads.{Heading, headed_text}
use Rattle.sf_forms.specs.Written.{WritesText}
use Rattle.sf_forms.proofs.MakerLemmas.Naming.{bare_is}
use Rattle.sf_forms.proofs.makers.form.FormMakerMaker.write.Goals as goal

pub returns-then-self-clause-made : goal.returns-then-self-clause-made
returns-then-self-clause-made g c =
    c.as_made.ensures.writes _ _ _ (subst (λ (text : List ℕ). WritesText text (g.K.Sink.contents c.args.to.now)
    (g.K.Sink.contents c.write_headed.new.to) c.write_headed.result)
    (λ i. headed_text c.args.self.now c.args.number (c.destinations-destinations.ensures.count i) (c.copied.ensures i))
    c.write_headed.ensures.written)

pub returns-clause-made : goal.returns-clause-made
returns-clause-made g c =
    c.as_made-2.ensures.writes _ _ _ (subst (λ (text : List ℕ). WritesText text (g.K.Sink.contents c.args.to.now)
    (g.K.Sink.contents c.write.new.to) c.write.result)
    (ap (λ (n : ℕ). record_text c.self-2.inside.writer n c.args.report.now) c.destinations-destinations.ensures.count
    ∙ bare_is c.self-2.inside.writer c.self-2.inside.names c.self-2.inside.tagged c.args.self.now c.args.number _ c.args.report.now
    c.self-2.view_is (ap (λ (h : Heading). h.tagged) (c.self-2.view_is ∙ sym c.self.view_is) ∙ c.if-self.false)
    (ap (λ (h : Heading). is_some h.names) (c.self-2.view_is ∙ sym c.self.view_is) ∙ sym c.is_some.ensures ∙ c.if-is_some.false))
    c.write.ensures.written)
