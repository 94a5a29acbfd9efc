use Rattle.std.proofs.Common.{◌≡◌, ◌+◌, ◌||◌, drop}
use Rattle.std.specs.List.{list_any}
use Rattle.sf_pair.specs.Groups.{assigns}
use Rattle.sf_pair.specs.Walk.{fault_from}
use Rattle.sf_pair.proofs.walk.pair_fault.Given as goal

abbrev pub invariant-loop-i : goal.invariant-loop-i
invariant-loop-i l = record {
  walked : fault_from 1 l.directives l.fn.units ≡ fault_from (l.i + 1) (drop l.i l.directives) l.left;
  found : list_any assigns l.directives ≡ (l.assigned || list_any assigns (drop l.i l.directives));
}
