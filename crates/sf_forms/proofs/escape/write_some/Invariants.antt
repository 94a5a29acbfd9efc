use Rattle.std.proofs.Common.{◌≡◌, ◌≤◌, ◌+◌, ◌-◌, ◌*◌, ◌++◌, drop, take, length}
use Rattle.std.specs.List.{flat_map}
use Rattle.sf_forms.specs.Escapes.{escaped_in}
use Rattle.sf_forms.proofs.escape.write_some.Given as goal

-- with the bytes that are left, the buffer is what it is to be, and there is room for those that are to be written
abbrev pub invariant-loop-done : goal.invariant-loop-done
invariant-loop-done l = record {
  begun : l.from ≤ l.done;
  within : l.done ≤ l.last;
  room : l.end + 6 * (l.last - l.done) ≤ length l.buf;
  written : take l.end l.buf ++ flat_map (escaped_in l.form) (drop l.done l.bytes)
      ≡ take l.at l.fn.buf ++ flat_map (escaped_in l.form) (drop l.from l.bytes);
}

abbrev pub decreases-loop-done : goal.decreases-loop-done
decreases-loop-done l = l.last - l.done
