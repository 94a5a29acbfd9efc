-- The table of arguments that are not taken together.
use Rattle.std.specs.Prelude.{◌≡◌, ◌&&◌, List, Bool}
use Rattle.std.specs.List.{list_any}
use Rattle.clap.specs.Words.{Row}
use Rattle.sf_words.specs.Orders.{has_conflict, is_given}
use Rattle.sf_words.specs.declared.misuse.Conflict.{Conflict}

-- both of its arguments were given
abbrev pub are_both_given : List Row → Conflict → Bool
are_both_given rows conflict = is_given conflict.one.now rows && is_given conflict.other.now rows

-- the table: both arguments of one of its rows were given exactly where arguments were given that are not taken together
abbrev pub AreConflicts : List Conflict → Type 0
AreConflicts table = (rows : List Row) → list_any (are_both_given rows) table ≡ has_conflict rows
