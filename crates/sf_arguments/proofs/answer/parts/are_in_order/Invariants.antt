use Rattle.std.proofs.Common.{◌≡◌, ◌≤◌, ◌+◌, drop}
use Rattle.sf_arguments.specs.answer.Parts.{in_order}
use Rattle.sf_arguments.proofs.answer.parts.are_in_order.Given as goal

abbrev pub invariant-loop-unit : goal.invariant-loop-unit
invariant-loop-unit l = record {
  same : in_order 1 l.units ≡ in_order l.next (drop l.unit-index l.units);
  few : l.next ≤ l.unit-index + 1;
}
