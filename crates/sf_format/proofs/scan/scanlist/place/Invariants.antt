use Rattle.std.proofs.Common.{◌≡◌, ◌+◌, drop}
use Rattle.sf_format.specs.Rules.{place_of}
use Rattle.sf_format.proofs.scan.scanlist.place.Given as goal

abbrev pub invariant-loop-i : goal.invariant-loop-i
invariant-loop-i l = place_of l.b l.from l.bytes ≡ place_of l.b (l.from + l.i) (drop l.i l.bytes)
