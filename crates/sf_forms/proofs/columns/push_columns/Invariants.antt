use Rattle.std.proofs.Common.{◌≡◌, ◌++◌, map}
use Rattle.std.specs.List.{join_with_byte, range_with_len}
use Rattle.sf_forms.proofs.columns.push_columns.Given as goal

-- the texts of the columns so far, joined
abbrev pub invariant-loop-before : goal.invariant-loop-before
invariant-loop-before g l =
    l.output.items ≡ l.fn.output.items ++ join_with_byte l.separator (map (g.C.Columns.text l.columns) (range_with_len 1 l.before))
