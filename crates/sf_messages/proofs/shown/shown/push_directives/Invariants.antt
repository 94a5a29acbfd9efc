use Rattle.std.proofs.Common.{◌≡◌, ◌+◌, ◌≤◌, ◌++◌, drop}
use Rattle.sf_messages.specs.shown.Shown.{directive_lines}
use Rattle.sf_messages.proofs.shown.shown.push_directives.Given as goal

-- with the lines of the directives that are left, the output is what it is to be
abbrev pub invariant-loop-directive : goal.invariant-loop-directive
invariant-loop-directive l = record {
  number : l.number ≡ l.directive-index + 1;
  few : l.groups.begun ≤ l.directive-index;
  written : l.output.items ++ directive_lines l.number l.groups.begun l.groups.left (drop l.directive-index l.directives)
      ≡ l.fn.output.items ++ directive_lines 1 0 0 l.directives;
}
