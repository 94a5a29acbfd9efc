use Rattle.std.proofs.Common.{◌≡◌, ◌≤◌, ◌-◌, ◌++◌, drop, length}
use Rattle.sf_forms.specs.JsonStrings.{json_from}
use Rattle.sf_forms.specs.Growing.{IsGrown}
use Rattle.sf_forms.proofs.json.push_characters.Given as goal

-- with the bytes that are left, the output is what it is to be
abbrev pub invariant-loop-done : goal.invariant-loop-done
invariant-loop-done l = record {
  grown : IsGrown l.fn.output.items l.output.items;
  within : l.done ≤ length l.bytes;
  so_far : l.output.items ++ json_from 0 (drop l.done l.bytes) ≡ l.fn.output.items ++ json_from 0 l.bytes;
}

abbrev pub decreases-loop-done : goal.decreases-loop-done
decreases-loop-done l = length l.bytes - l.done
