use Rattle.std.proofs.Common.{◌≡◌, take}
use Rattle.std.specs.List.{AllByRecursion}
use Rattle.sf_format.specs.Proper.{AreProper}
use Rattle.sf_records.specs.by_lines.Rooms.{most_width}
use Rattle.sf_records.proofs.by_lines.lines.room_for.Given as goal

-- those so far are proper, and have the room
abbrev pub invariant-loop-format : goal.invariant-loop-format
invariant-loop-format l = record {
  proper : AllByRecursion AreProper (take l.format-index l.formats);
  most : l.room ≡ most_width (take l.format-index l.formats);
}
