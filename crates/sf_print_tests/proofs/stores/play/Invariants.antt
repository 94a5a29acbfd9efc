use Rattle.std.proofs.Common.{◌≡◌, None}
use Rattle.sf_print_tests.proofs.stores.play.Given as goal

abbrev pub invariant-loop-slot : goal.invariant-loop-slot
invariant-loop-slot g l = (g.S.Store.kept l.store).opened ≡ None
