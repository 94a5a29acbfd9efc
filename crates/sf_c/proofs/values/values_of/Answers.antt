use Rattle.std.proofs.Common.{◌∙◌, ◌+◌, ◌++◌, ◌∷◌, [], List, ap, arith, inr, length, length-append, map, take, subst, sym}
use Rattle.std.proofs.lemmas.List.{map-append, take_more}
use Rattle.sf_base.specs.Data.{Datum, datum_of}
use Rattle.sf_c.specs.declared.values.SfValue.{SfValue}
use Rattle.sf_c.specs.Prints.{AreData}
use Rattle.sf_c.proofs.Data.{data_more, data_none}
use Rattle.sf_c.proofs.values.values_of.Goals as goal

blank : SfValue
blank = record { bits = 0; len = 0; kind = 0; slot = 0 }

pub loop-cell-preserved : goal.loop-cell-preserved
unfolding blank
loop-cell-preserved c =
    let cells : List SfValue = c.args.cells.now in
    let value = c.in-Some.value in
    let items = c.loop-cell.list.items in
    let more = data_more c.args.texts.now (map datum_of items) (take c.loop-cell.cell-index cells) (datum_of value) _
    c.loop-cell.invariant.values c.in-Some.ensures.some in
    record {
      values = subst (λ (now : List Datum). AreData c.args.texts.now now (take (c.loop-cell.cell-index + 1) cells))
          (sym (ap (map datum_of) c.in-Ok.ensures.ok ∙ map-append datum_of items (value ∷ [])))
          (subst (λ (front : List SfValue). AreData c.args.texts.now (map datum_of items ++ datum_of value ∷ []) front)
          (sym (take_more cells c.loop-cell.cell-index blank c.loop-cell-test.true)) more);
      count = omega (arith, ap length c.in-Ok.ensures.ok, length-append items (value ∷ []), c.loop-cell.invariant.count);
    }

pub returns-in_default-clause-none : goal.returns-in_default-clause-none
unfolding blank
returns-in_default-clause-none c =
    inr (λ values held. data_none c.args.texts.now values c.args.cells.now c.loop-cell.cell-index blank c.loop-cell-test.true
    c.in_default.ensures.none held)
