use Rattle.std.proofs.Common.{◌∙◌, sym, subst, ap}
use Rattle.std.specs.Option.{option_map}
use Rattle.sf_base.specs.Data.{Number, value_of}
use Rattle.sf_format.specs.declared.directive.Conversion.{Conversion}
use Rattle.sf_item.specs.ColumnTests.{ColumnEnds}
use Rattle.sf_item.specs.declared.item.ItemEnd.TheVariants.{Unmatched, Integer, Matched}
use Rattle.sf_run.proofs.Columns.{number_column, suppressed_column, suppressed_slot, unmatched_column}
use Rattle.sf_run.proofs.Stages.{held_value}
use Rattle.sf_run.proofs.directive.finish_column_item.Goals as goal

pub returns-in-Unmatched-clause-end : goal.returns-in-Unmatched-clause-end
returns-in-Unmatched-clause-end c text f own taken none =
    let k = c.args.conversion.now in
    let ends : ColumnEnds k f Unmatched = subst (λ (e : Conversion). ColumnEnds e f Unmatched) (sym own) (c.in-Unmatched.ensures f taken) in
    unmatched_column k f ends

pub returns-in-Matched-clause-end : goal.returns-in-Matched-clause-end
returns-in-Matched-clause-end c text f own taken none =
    let k = c.args.conversion.now in
    let ends : ColumnEnds k f Matched = subst (λ (e : Conversion). ColumnEnds e f Matched) (sym own) (c.in-Matched.ensures f taken) in
    let unstored = suppressed_slot k f ends none in
    c.finish_matched.ensures.end text unstored ∙ suppressed_column k f ends unstored

pub returns-in-Integer-clause-end : goal.returns-in-Integer-clause-end
returns-in-Integer-clause-end c text f own taken none =
    let i = c.in-Integer in
    let k = c.args.conversion.now in
    let ends : ColumnEnds k f (Integer i.negative i.magnitude i.overflowed) =
    subst (λ (e : Conversion). ColumnEnds e f (Integer i.negative i.magnitude i.overflowed)) (sym own) (i.ensures f taken) in
    c.finish_number.ensures.end text (value_of k.kind i.negative ends.1.1)
    (c.number_of.ensures ∙ ap (option_map (Number k.kind)) (held_value k.kind i.negative i.magnitude ends.1.1 i.overflowed ends.1.4))
    ∙ number_column k f i.negative i.magnitude i.overflowed ends
