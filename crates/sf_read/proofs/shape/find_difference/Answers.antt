use Rattle.std.proofs.Common.{◌≡◌, sym, ◌∙◌, arith, refl, rules}
use Rattle.sf_format.specs.Proper.{kind_at}
use Rattle.sf_run.specs.Rows.{at_slot}
use Rattle.sf_read.proofs.Shapes.{all_missing, first_kinds, has_kinds, has_shape, one_more_slot, other_values, same_option, takes_none}
use Rattle.sf_read.proofs.shape.find_difference.Goals as goal
use denote.Enum.Bare.{same_false, same_true}
use Rattle.sf_base.specs.contracts.values.Kind.{the_type}

pub loop-before-preserved : goal.loop-before-preserved
loop-before-preserved g c =
    let same : c.shape.result ≡ c.kind.result = same_option _ (λ a b e. same_true the_type (search rules) _ _ e) c.shape.result
    c.kind.result (c.if-ne.false) c.ne.ensures in
    one_more_slot (λ slot. at_slot slot g.T.Row.kinds ≡ kind_at slot c.args.format.now) c.loop-before.before c.loop-before.invariant
    (sym c.shape.ensures ∙ same ∙ c.kind.ensures.kind)

pub returns-then-ne-clause-differs : goal.returns-then-ne-clause-differs
returns-then-ne-clause-differs g c =
    first_kinds g.T.Row.kinds g.T.Row.optional c.args.format.now c.loop-before.before c.kinds_at.result
    (sym c.slots.ensures.count ∙ c.if-slots-count.false ∙ c.destinations-count.ensures.count) c.loop-before.invariant
    (λ row format taken given same. other_values _ (λ a b e. same_false the_type _ _ e) c.shape.result c.kind.result row format
    c.if-ne.true c.ne.ensures (c.shape.ensures ∙ taken) (c.kind.ensures.kind ∙ given) same)
    c.kinds_at.ensures

pub returns-then-has_optional-clause-same : goal.returns-then-has_optional-clause-same
returns-then-has_optional-clause-same g c =
    let count = c.destinations-count.ensures.count in (
      λ takes. has_shape g.T.Row.kinds g.T.Row.optional c.args.format.now c.destinations-count.ensures.slots
          (sym c.slots.ensures.count ∙ c.if-slots-count.false ∙ count)
          (λ slot low high. c.loop-before.invariant slot low (omega (arith, high, count, c.loop-before-test.false)))
          (c.check_missing.ensures.same.0 takes),
      λ shape. c.check_missing.ensures.same.1 shape.missing,
    )

pub returns-then-has_optional-clause-differs : goal.returns-then-has_optional-clause-differs
returns-then-has_optional-clause-differs g c =
    let count = c.destinations-count.ensures.count in
    let same = sym c.slots.ensures.count ∙ c.if-slots-count.false ∙ count in
    all_missing g.T.Row.kinds g.T.Row.optional c.args.format.now c.check_missing.result same
    (has_kinds g.T.Row.kinds c.args.format.now c.destinations-count.ensures.slots same
    (λ slot low high. c.loop-before.invariant slot low (omega (arith, high, count, c.loop-before-test.false))))
    c.check_missing.ensures.differs

pub returns-clause-same : goal.returns-clause-same
returns-clause-same g c =
    let count = c.destinations-count.ensures.count in (
      λ _. has_shape g.T.Row.kinds g.T.Row.optional c.args.format.now c.destinations-count.ensures.slots
          (sym c.slots.ensures.count ∙ c.if-slots-count.false ∙ count)
          (λ slot low high. c.loop-before.invariant slot low (omega (arith, high, count, c.loop-before-test.false)))
          (takes_none g.T.Row.optional c.args.format.now (sym c.has_optional.ensures ∙ c.if-has_optional.false)),
      λ _. refl,
    )
