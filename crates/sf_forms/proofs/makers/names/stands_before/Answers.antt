use Rattle.std.proofs.Common.{◌∙◌, ◌+◌, ℕ, List, subst, sym, true≢false}
use Rattle.std.specs.List.{Contains}
use Rattle.std.proofs.lemmas.Slice.Eq.{bytes_eq-Decides}
use Rattle.sf_forms.specs.Columns.{texts}
use Rattle.sf_forms.specs.makers.Names.{names_before}
use Rattle.sf_forms.proofs.MakerLemmas.Naming.{is_before, is_new, is_tag, name_text}
use Rattle.sf_forms.proofs.makers.names.stands_before.Goals.{else-tagged-via-then-tagged+else-eq, else-tagged-via-else-tagged}
use Rattle.sf_forms.proofs.makers.names.stands_before.Goals as goal

pub returns-then-eq-clause-found : goal.returns-then-eq-clause-found
returns-then-eq-clause-found c e =
    is_tag c.args.tagged (texts c.args.names.now) (c.args.before + 1) _ c.if-tagged.true
    (sym (name_text c.args.names.now c.args.before _ c.requires) ∙ (bytes_eq-Decides _ _).0 (sym c.eq.ensures ∙ c.if-eq.true))

pub returns-clause-found : goal.returns-clause-found
returns-clause-found c e =
    subst (λ (name : List ℕ). Contains (names_before c.args.tagged (texts c.args.names.now) (c.args.before + 1)) name)
    (name_text c.args.names.now c.args.before _ c.requires)
    (is_before c.args.tagged c.args.names.now c.args.before _ (c.stands_in.ensures.found e))

pub returns-clause-missing : goal.returns-clause-missing
returns-clause-missing c e among =
    is_new c.args.tagged c.args.names.now c.args.before _ (elim c.else-tagged.branch [
      | else-tagged-via-then-tagged+else-eq w ↦ λ t same. true≢false (sym ((bytes_eq-Decides _ _).1 same) ∙ sym w.eq.ensures
          ∙ w.if-eq.false)
      | else-tagged-via-else-tagged w ↦ λ t same. true≢false (sym t ∙ w.if-tagged.false)
    ]) (c.stands_in.ensures.missing e)
    (subst (λ (name : List ℕ). Contains (names_before c.args.tagged (texts c.args.names.now) (c.args.before + 1)) name)
    (sym (name_text c.args.names.now c.args.before _ c.requires)) among)
