use Rattle.std.proofs.Common.{◌∙◌, List, ℕ, ap, subst}
use Rattle.sf_forms.specs.Columns.{texts}
use Rattle.sf_forms.specs.makers.Names.{IsNamesFault}
use Rattle.sf_forms.proofs.makers.names.Names.check.Goals as goal

pub returns-in-Err-clause-fault : goal.returns-in-Err-clause-fault
returns-in-Err-clause-fault c =
    subst (λ (names : List (List ℕ)). IsNamesFault c.args.tagged names c.args.formats.now c.in-Err.fault)
    (ap texts c.deref.ensures.value ∙ c.self.view_is) (c.in-Err.ensures.fault c.args.tagged)
