use Rattle.std.proofs.Common.{◌≤◌, length, map, sym, ◌∙◌}
use Rattle.sf_base.specs.Data.{datum_of}
use Rattle.sf_print.specs.Printed.{printed, measured}
use Rattle.sf_print.proofs.Short.{short_told, short_most, short_printed}
use Rattle.sf_print.proofs.print.refuse.Goals as goal

most : (c : goal.After-refuse_values) → length (printed c.args.format.now (map datum_of c.args.values.now)) ≤ 2147483647
most c =
    let d = c.directives-units.ensures in
    let values = map datum_of c.args.values.now in
    let h = short_printed c.directives-units.result.now values d.proper d.short (sym c.are_short.ensures ∙ c.if-are_short.true) in
    rw (d.value) at h

pub returns-then-are_short-clause-told : goal.returns-then-are_short-clause-told
returns-then-are_short-clause-told c =
    let d = c.directives-units.ensures in
    let values = map datum_of c.args.values.now in
    short_told c.refuse_values.result (measured c.args.format.now values) (length (printed c.args.format.now values)) (most c)
    (rw (d.value) at c.refuse_values.ensures)

pub returns-then-are_short-clause-most : goal.returns-then-are_short-clause-most
returns-then-are_short-clause-most c = short_most c.refuse_values.result
    (length (printed c.args.format.now (map datum_of c.args.values.now))) (most c)
