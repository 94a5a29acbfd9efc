use Rattle.std.proofs.Common.{List, ℕ, subst}
use Rattle.sf_forms.specs.Columns.{texts}
use Rattle.sf_forms.specs.Written.{WritesText}
use Rattle.sf_forms.proofs.MakerLemmas.Naming.{header_is}
use Rattle.sf_forms.proofs.makers.form.FormMaker.write_header.Goals as goal

pub returns-in-Some-clause-written : goal.returns-in-Some-clause-written
returns-in-Some-clause-written g c =
    c.as_made.ensures.writes _ _ _ (subst (λ (text : List ℕ). WritesText text (g.K.Sink.contents c.args.to.now)
    (g.K.Sink.contents c.write_names.new.to) c.write_names.result)
    (header_is c.self.inside.writer c.self.inside.names c.self.inside.tagged c.args.self.now _ (texts c.as_slice.result.now)
    c.self.view_is c.in-Some.is c.as_slice.ensures) c.write_names.ensures.written)
