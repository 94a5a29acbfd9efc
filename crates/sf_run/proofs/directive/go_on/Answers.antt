use Rattle.std.proofs.Common.{◌++◌, ◌+◌, take, drop, sym, subst, ap, ◌∙◌}
use Rattle.sf_format.specs.declared.directive.Conversion.{Conversion}
use Rattle.sf_format.specs.declared.directive.Directive.TheVariants.{Conv}
use Rattle.sf_format.specs.Proper.{IsProper}
use Rattle.sf_item.specs.Taking.{CanTake, conversion_of}
use Rattle.sf_run.specs.Texts.{is_count}
use Rattle.sf_run.proofs.Brought.{can_all}
use Rattle.sf_run.proofs.Pieces.{over_ends, scan_has_item}
use Rattle.sf_run.proofs.directive.go_on.Goals as goal

pub returns-then-not-is_over-clause-can : goal.returns-then-not-is_over-clause-can
returns-then-not-is_over-clause-can c f proper h =
    let e = c.take_run-item.ensures in can_all (conversion_of c.args.scan) f c.args.piece.now c.take_run-item.result proper e.within
    (e.each f h)

pub returns-clause-can : goal.returns-clause-can
returns-clause-can c f proper h =
    let e = c.take_run-item.ensures in can_all (conversion_of c.args.scan) f c.args.piece.now c.take_run-item.result proper e.within
    (e.each f h)

pub returns-clause-ends : goal.returns-clause-ends
returns-clause-ends c f proper same plain h text some =
    let k : Conversion = c.args.conversion.now in
    let e = c.take_run-item.ensures in
    let scan = c.take_run-item.new.self in
    let n = c.take_run-item.result in
    let own = e.conversion ∙ sym same in
    let taken = e.taken f h in
    let other = ap (λ (x : Conversion). is_count x.shape) (sym own) ∙ scan_has_item scan _ taken in
    over_ends k (conversion_of scan) (f ++ take n c.args.piece.now) (drop n c.args.piece.now) c.finish_taken.result own plain other
    (c.is_over.ensures.over f (subst (λ (x : Conversion). IsProper (Conv x)) (sym own) proper)
    (ap (λ (x : Conversion). x.column) own ∙ plain) taken
    (λ below can. e.stops f h below (subst (λ (x : Conversion). CanTake x (f ++ take (n + 1) c.args.piece.now)) e.conversion can))
    c.if-not-is_over.false)
    (c.finish_taken.ensures.end (f ++ take n c.args.piece.now) some (sym own) taken text)
