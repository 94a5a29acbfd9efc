use Rattle.std.proofs.Common.{◌∙◌, map, ap}
use Rattle.sf_forms.specs.Heads.{head}
use Rattle.sf_forms.proofs.Heading.{head_there}
use Rattle.sf_forms.proofs.makers.names.Names.head.Goals as goal

pub returns-in-Some : goal.returns-in-Some
returns-in-Some c =
    let found = c.in-Some.ensures.lookup in
    head_there (λ text. text.items) c.deref.result.now c.args.self.now _ c.in-Some.text.now _
    (ap (map (λ text. text.items)) c.deref.ensures.value ∙ c.self.invariant ∙ ap (map head) c.self.view_is)
    found.3.0 found.1 c.deref-in-Some.ensures.value
