use Rattle.std.proofs.Common.{[], ◌∷◌, refl, inl, inr}
use Rattle.sf_float_read.proofs.ValueLemmas.FormsApart.{minus_at, plus_at}
use Rattle.sf_float_read.proofs.value.form.split.Goals as goal

pub returns-in-45-clause-parts : goal.returns-in-45-clause-parts
returns-in-45-clause-parts c = let r = minus_at c.args.item.now c.requires c.in-45.is in (45 ∷ [], inr (inr refl), r.0, refl, r.1)

pub returns-in-43-clause-parts : goal.returns-in-43-clause-parts
returns-in-43-clause-parts c = let r = plus_at c.args.item.now c.requires c.in-43.is in (43 ∷ [], inr (inl refl), r.0, refl, r.1)
