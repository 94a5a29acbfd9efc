use Rattle.std.proofs.Common.{◌≡◌, drop}
use Rattle.std.specs.List.{list_any}
use Rattle.clap.specs.Words.{found_of, rows_of}
use Rattle.sf_words.specs.Conflicts.{are_both_given}
use Rattle.sf_words.specs.Orders.{has_conflict}
use Rattle.sf_words.proofs.misuse.conflict_of.Given as goal

-- arguments that are not taken together were given where both of one of the conflicts that are left were
abbrev pub invariant-loop-conflict : goal.invariant-loop-conflict
invariant-loop-conflict l =
    list_any (are_both_given (rows_of (found_of l.given))) (drop l.conflict-index l.conflict-items)
    ≡ has_conflict (rows_of (found_of l.given))
