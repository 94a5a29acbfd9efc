use Rattle.std.proofs.Common.{◌≡◌, ◌≤◌, length, map, string_bytes}
use Rattle.std.specs.Vec.{vec_len, vec_capacity}
use Rattle.sf_base.specs.Data.{datum_of}
use Rattle.sf_arguments.specs.Arguments.{StandsAt}
use Rattle.sf_arguments.proofs.Places.{Stood}
use Rattle.sf_arguments.proofs.print.values_of_words.Given as goal

-- the values of the words before
abbrev pub invariant-loop-at : goal.invariant-loop-at
invariant-loop-at l = record {
  stood : Stood (StandsAt l.how l.units) (map string_bytes l.words) l.at (map datum_of l.values.items);
  len : vec_len l.values ≡ l.at;
  capacity : length l.words ≤ vec_capacity l.values;
}
