use Rattle.std.proofs.Common.{◌≡◌, ◌≤◌, length, map, string_bytes}
use Rattle.std.specs.Vec.{vec_len, vec_capacity}
use Rattle.sf_arguments.specs.Arguments.{IsTextAt}
use Rattle.sf_arguments.proofs.Places.{Stood}
use Rattle.sf_arguments.proofs.print.texts_of_words.Given as goal

-- the bytes of the words before
abbrev pub invariant-loop-at : goal.invariant-loop-at
invariant-loop-at l = record {
  stood : Stood (IsTextAt l.how l.units) (map string_bytes l.words) l.at (map (λ text. text.items) l.texts.items);
  len : vec_len l.texts ≡ l.at;
  capacity : length l.words ≤ vec_capacity l.texts;
}
