use Rattle.std.proofs.Common.{◌∙◌, pos, sym}
use Rattle.std.proofs.lemmas.List.Folds.{list_all_at, list_all-map}
use Rattle.sf_base.specs.Data.{datum_of}
use Rattle.sf_base.specs.declared.values.Value.TheVariants as value
use Rattle.sf_print.specs.Short.{is_short}
use Rattle.sf_print.proofs.print.are_short.Goals as goal

pub returns-then-not-is_short : goal.returns-then-not-is_short
returns-then-not-is_short c =
    sym (list_all-map is_short datum_of c.args.values.now ∙ list_all_at
    (λ v. is_short (datum_of v)) c.args.values.now c.loop-value.value-index (value.I8 (pos 0)) c.loop-value-test.true
    (sym c.is_short.ensures ∙ c.if-not-is_short.true))
