use Rattle.std.proofs.Common.{IsSome}
use Rattle.sf_print_tests.proofs.stores.push_times.Given as goal

abbrev pub invariant-loop : goal.invariant-loop
invariant-loop g l = IsSome (g.S.Store.kept l.store).opened

abbrev pub invariant-loop-bytes : goal.invariant-loop-bytes
invariant-loop-bytes g l = IsSome (g.S.Store.kept l.store).opened
