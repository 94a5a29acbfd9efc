use Rattle.std.proofs.Common.{sym, ◌∙◌}
use Rattle.sf_print.proofs.InPlace.{suits_by}
use Rattle.sf_print.proofs.in_place.write_suited.Goals as goal

pub returns-clause-suited : goal.returns-clause-suited
returns-clause-suited g c =
    suits_by c.write_value.result c.args.conv.now (g.V.Printables.value_of c.args.values.now c.args.conv.now) _ c.in_ok-shown.ensures
    (sym c.suits_shown.ensures ∙ c.if-not-suits_shown.false)
