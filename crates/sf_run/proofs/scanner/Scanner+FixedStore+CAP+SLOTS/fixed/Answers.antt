use Rattle.std.proofs.Common.{List, ap, length, arith}
use Rattle.sf_format.specs.declared.directive.Directive.{Directive}
use Rattle.sf_format.specs.Proper.{destinations_of}
use Rattle.sf_run.proofs.Slots.{placed_from, apart_from}
use Rattle.sf_run.proofs.scanner.Scanner+FixedStore+CAP+SLOTS.fixed.Goals as goal

pub start-requires-clause-placed : goal.start-requires-clause-placed
start-requires-clause-placed g c =
    let few = c.if-destinations.false in
    let count = c.destinations.ensures.count in
    let same = ap (λ (ds : List Directive). length (destinations_of ds)) c.directives.ensures.value in
    placed_from _ g.row.SLOTS _ (omega (arith, few, count, same)) c.directives.ensures.slots.each

pub start-requires-clause-apart : goal.start-requires-clause-apart
start-requires-clause-apart g c = apart_from _ c.directives.ensures.slots.distinct
