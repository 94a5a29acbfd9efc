use Rattle.std.proofs.Common.{◌∙◌, ap, refl, sym}
use Rattle.sf_base.specs.Data.{kind_of}
use Rattle.sf_c.specs.Numbers.{kind_number}
use Rattle.sf_c.proofs.Data.{kind_means}
use Rattle.sf_c.proofs.values.value_of.Goals as goal

pub returns-in_default-clause-none : goal.returns-in_default-clause-none
returns-in_default-clause-none c = λ datum means.
    c.in_default.ensures.none (kind_of datum) (sym (kind_means c.args.texts.now datum c.args.cell.now means))

pub returns-in-F64-clause-some : goal.returns-in-F64-clause-some
returns-in-F64-clause-some c = record {
  has = record { kind_is = sym c.in-Some.ensures.some ∙ ap kind_number c.in-F64.is; bits_are = refl };
  of_kind = tt;
}
