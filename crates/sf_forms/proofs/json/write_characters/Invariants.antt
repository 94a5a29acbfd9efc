use Rattle.std.proofs.Common.{◌≡◌, ◌≤◌, ◌-◌, ◌++◌, drop, take, length}
use Rattle.sf_forms.specs.JsonStrings.{json_from}
use Rattle.sf_forms.proofs.json.write_characters.Given as goal

-- with the bytes that are left, the buffer is what it is to be
abbrev pub invariant-loop-done : goal.invariant-loop-done
invariant-loop-done l = record {
  within : l.done ≤ length l.bytes;
  end : l.end ≤ length l.buf;
  written : take l.end l.buf ++ json_from 0 (drop l.done l.bytes) ≡ take l.at l.fn.buf ++ json_from 0 l.bytes;
}

abbrev pub decreases-loop-done : goal.decreases-loop-done
decreases-loop-done l = length l.bytes - l.done
