use Rattle.std.proofs.Common.{false, ◌≡◌, List, subst, sym}
use Rattle.sf_format.specs.declared.directive.Directive.{Directive}
use Rattle.sf_format.specs.Proper.{may_miss}
use Rattle.sf_laws_tests.proofs.PairRuns.{missed}
use Rattle.sf_laws_tests.proofs.doubles.whole_scan.Goals as goal

pub returns-clause-slots : goal.returns-clause-slots
returns-clause-slots c = λ slot. subst (λ (ds : List Directive). may_miss slot ds ≡ false) (sym c.scan.ensures.value)
    (missed c.args.pair.now.print c.args.pair.now.scan c.scan.ensures.checked c.aligned_is_accepted.ensures
    c.aligned_is_whole.ensures.slots slot)
