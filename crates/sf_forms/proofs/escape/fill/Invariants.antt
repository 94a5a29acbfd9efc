use Rattle.std.proofs.Common.{◌≡◌, ◌≤◌, ◌-◌, ◌++◌, drop, take, length}
use Rattle.std.specs.List.{flat_map}
use Rattle.sf_forms.specs.Escapes.{escaped_in}
use Rattle.sf_forms.proofs.escape.fill.Given as goal

-- with the bytes that are left, the buffer is what it is to be
abbrev pub invariant-loop-done : goal.invariant-loop-done
invariant-loop-done l = record {
  within : l.done ≤ length l.bytes;
  end : l.end ≤ length l.buf;
  written : take l.end l.buf ++ flat_map (escaped_in l.form) (drop l.done l.bytes)
      ≡ take l.at l.fn.buf ++ flat_map (escaped_in l.form) l.bytes;
}

abbrev pub decreases-loop-done : goal.decreases-loop-done
decreases-loop-done l = length l.bytes - l.done
