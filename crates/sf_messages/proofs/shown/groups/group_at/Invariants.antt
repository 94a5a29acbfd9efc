use Rattle.std.proofs.Common.{◌≡◌, ◌-◌, ◌≤◌, drop}
use Rattle.sf_messages.specs.shown.Shown.{group_from}
use Rattle.sf_messages.proofs.shown.groups.group_at.Given as goal

-- the directive at the place is not passed yet
abbrev pub invariant-loop-i : goal.invariant-loop-i
invariant-loop-i l = record {
  few : l.groups.begun ≤ l.i;
  ahead : l.i ≤ l.place;
  same : group_from l.groups.begun l.groups.left (drop l.i l.directives) (l.place - l.i) ≡ group_from 0 0 l.directives l.place;
}
