use Rattle.std.proofs.Common.{◌≡◌, ◌*◌, ◌≤◌, drop, Some}
use Rattle.sf_format.specs.Widths.{add_widths, width_sum}
use Rattle.sf_format.proofs.scan.sum_of_widths.Given as goal

abbrev pub invariant-loop-directive : goal.invariant-loop-directive
invariant-loop-directive l = record {
  same : add_widths (Some l.sum) (width_sum (drop l.directive-index l.directives)) ≡ width_sum l.directives;
  bound : l.sum ≤ 65535 * l.directive-index;
}
