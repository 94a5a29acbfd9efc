use Rattle.std.proofs.Common.{map, ◌∙◌}
use Rattle.std.proofs.lemmas.List.{length-map}
use Rattle.sf_pair.proofs.InPlace.{pair_all_fit, pair_fits, pair_room, pair_written}
use Rattle.sf_pair.proofs.pair.Pair.write_in_place.Goals as goal

pub returns-clause-fits : goal.returns-clause-fits
returns-clause-fits g c =
    let h = rw (c.directives-units.ensures.value, c.directives-directives.ensures.value) at c.write_units.ensures.fits in
    let us = c.self.inside.print.now in
    let ds = c.self.inside.scan.now in
    let values = map g.V.AsShown.datum c.args.values.now in
    pair_fits c.laws_below.ensures us ds c.args.self.now values c.write_units.result c.self.view_is
    (length-map c.args.values.now g.V.AsShown.datum ∙ c.if-values.false ∙ c.values.ensures.count) h

pub returns-clause-written : goal.returns-clause-written
returns-clause-written g c =
    let h = rw (c.directives-units.ensures.value) at c.write_units.ensures.written in
    pair_written c.self.inside.print.now c.self.inside.scan.now c.args.self.now (map g.V.AsShown.datum c.args.values.now)
    c.write_units.result c.write_units.new.buf c.self.view_is h

pub returns-clause-answers : goal.returns-clause-answers
returns-clause-answers g c fit room =
    let h = rw (c.directives-units.ensures.value, c.directives-directives.ensures.value) at c.write_units.ensures.answers in
    let us = c.self.inside.print.now in
    let ds = c.self.inside.scan.now in
    let values = map g.V.AsShown.datum c.args.values.now in
    h (pair_all_fit c.laws_below.ensures us ds c.args.self.now values c.self.view_is fit)
    (pair_room us ds c.args.self.now values _ c.self.view_is room)
