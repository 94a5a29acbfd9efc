use Rattle.std.proofs.Common.{◌≡◌, sym, ◌∙◌, arith, refl, rules}
use Rattle.sf_format.specs.Proper.{kind_at}
use Rattle.sf_run.specs.Rows.{at_slot}
use Rattle.sf_read.proofs.Shapes.{has_shape, one_more_slot, same_option, takes_none}
use Rattle.sf_read.proofs.shape.has_shape.Goals as goal
use denote.Enum.Bare.{same_true}
use Rattle.sf_base.specs.contracts.values.Kind.{the_type}

pub loop-before-preserved : goal.loop-before-preserved
loop-before-preserved g c =
    let same : c.shape.result ≡ c.kind.result = same_option _ (λ a b e. same_true the_type (search rules) _ _ e) c.shape.result
    c.kind.result (c.if-ne.false) c.ne.ensures in
    one_more_slot (λ slot. at_slot slot g.T.Row.kinds ≡ kind_at slot c.args.format.now) c.loop-before.before c.loop-before.invariant
    (sym c.shape.ensures ∙ same ∙ c.kind.ensures.kind)

pub returns-then-has_optional-clause-same : goal.returns-then-has_optional-clause-same
returns-then-has_optional-clause-same g c =
    let count = c.destinations-count.ensures.count in (
      λ takes. has_shape g.T.Row.kinds g.T.Row.optional c.args.format.now c.destinations-count.ensures.slots
          (sym c.slots.ensures.count ∙ c.if-slots-count.false ∙ count)
          (λ slot low high. c.loop-before.invariant slot low (omega (arith, high, count, c.loop-before-test.false)))
          (c.check_missing.ensures.same.0 (sym c.is_ok.ensures.value ∙ takes)),
      λ shape. c.is_ok.ensures.value ∙ c.check_missing.ensures.same.1 shape.missing,
    )

pub returns-clause-same : goal.returns-clause-same
returns-clause-same g c =
    let count = c.destinations-count.ensures.count in (
      λ _. has_shape g.T.Row.kinds g.T.Row.optional c.args.format.now c.destinations-count.ensures.slots
          (sym c.slots.ensures.count ∙ c.if-slots-count.false ∙ count)
          (λ slot low high. c.loop-before.invariant slot low (omega (arith, high, count, c.loop-before-test.false)))
          (takes_none g.T.Row.optional c.args.format.now (sym c.has_optional.ensures ∙ c.if-has_optional.false)),
      λ _. refl,
    )
