use Rattle.std.proofs.Common.{slice_set, sym, ap, ◌∙◌}
use Rattle.std.proofs.lemmas.List.Edits.{map_over_more}
use Rattle.sf_format.specs.Strictness.{strictly}
use Rattle.sf_format.proofs.scan.make_all_strict.Goals as goal

pub loop-directive-preserved : goal.loop-directive-preserved
loop-directive-preserved c =
    ap (λ d. slice_set c.loop-directive.directives c.loop-directive.directive-index d)
    (c.make_strict.ensures ∙ ap strictly (sym c.directive-item.is))
    ∙ map_over_more strictly c.args.directives.now c.loop-directive.directives c.loop-directive.directive-index c.directive-item.result
    c.loop-directive-test.true c.loop-directive.invariant c.directive-item.is
