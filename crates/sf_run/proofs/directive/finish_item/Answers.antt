use Rattle.std.proofs.Common.{arith}
use Rattle.std.proofs.Common.{sym, subst, ap, ◌∙◌}
use Rattle.std.specs.Option.{option_map}
use Rattle.sf_base.specs.Data.{Number, value_of}
use Rattle.sf_format.specs.declared.directive.Conversion.{Conversion}
use Rattle.sf_item.specs.declared.item.ItemEnd.TheVariants.{Integer, Matched}
use Rattle.sf_item.specs.Taking.{Ends}
use Rattle.sf_run.proofs.Stages.{held_value, integer_ends, item_fails, matched_unstored, suppressed_end}
use Rattle.sf_run.proofs.directive.finish_item.Goals as goal

pub returns-in-Integer-clause-end : goal.returns-in-Integer-clause-end
returns-in-Integer-clause-end c text f some same h none =
    let i = c.in-Integer in
    let d = c.args.conversion.now in
    let ends : Ends d f (Integer i.negative i.magnitude i.overflowed) =
    subst (λ (e : Conversion). Ends e f (Integer i.negative i.magnitude i.overflowed)) (sym same) (i.ensures f h) in
    c.finish_number.ensures.end text (value_of d.kind i.negative ends.1)
    (c.number_of.ensures ∙ ap (option_map (Number d.kind)) (held_value d.kind i.negative i.magnitude ends.1 i.overflowed ends.4))
    ∙ integer_ends d f i.negative i.magnitude i.overflowed ends

pub returns-in_default-clause-end : goal.returns-in_default-clause-end
returns-in_default-clause-end c text f some same h none = grind (arith, item_fails)

pub returns-in-Matched-clause-end : goal.returns-in-Matched-clause-end
returns-in-Matched-clause-end c text f some same h none =
    let d = c.args.conversion.now in
    let ends : Ends d f Matched = subst (λ (e : Conversion). Ends e f Matched) (sym same) (c.in-Matched.ensures f h) in
    let unstored = matched_unstored d f ends none in
    c.finish_matched.ensures.end text unstored ∙ suppressed_end d f unstored ends.1
