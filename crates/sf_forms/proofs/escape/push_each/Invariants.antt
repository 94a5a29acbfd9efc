use Rattle.std.proofs.Common.{◌≡◌, ◌≤◌, ◌-◌, ◌++◌, drop, length}
use Rattle.std.specs.List.{flat_map}
use Rattle.sf_forms.specs.Escapes.{escaped_in}
use Rattle.sf_forms.specs.Growing.{IsGrown}
use Rattle.sf_forms.proofs.escape.push_each.Given as goal

-- with the bytes that are left, the output is what it is to be
abbrev pub invariant-loop-done : goal.invariant-loop-done
invariant-loop-done l = record {
  grown : IsGrown l.fn.output.items l.output.items;
  within : l.done ≤ length l.bytes;
  so_far : l.output.items ++ flat_map (escaped_in l.form) (drop l.done l.bytes)
      ≡ l.fn.output.items ++ flat_map (escaped_in l.form) l.bytes;
}

abbrev pub decreases-loop-done : goal.decreases-loop-done
decreases-loop-done l = length l.bytes - l.done
