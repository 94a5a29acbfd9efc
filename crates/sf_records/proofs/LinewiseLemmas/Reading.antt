-- How many lines of an input were read.
use Rattle.std.proofs.Common.{◌≡◌, ℕ, ◌<◌, ◌≤◌, Bool, true, false, cond, List, [], ◌∷◌, ◌++◌, length, take, drop, Option, Some, refl, sym}
use Rattle.std.proofs.Common.{ap, ◌∙◌, arith, append-nil}
use Rattle.std.proofs.Math.Seq.{drop-append_seam}
use Rattle.std.proofs.lemmas.Bool.Decides.{nat_tests}
use Rattle.std.specs.Prelude.{nat_lt}
use Rattle.std.specs.List.{filter}
use Rattle.sf_run.specs.outcome.Ending.TheVariants.{End, Fault}
use Rattle.sf_read.specs.source.Ahead.{Ahead, input_of}
use Rattle.sf_read.specs.line.Cut.{IsLine, lines_by, lines_of}
use Rattle.sf_read.specs.line.Reading.{TookPart}
use Rattle.sf_read.proofs.LineLemmas.Cutting.{cut_last, first_line}
use Rattle.sf_read.proofs.LineLemmas.Lined.{Lined, consumed, failed_in, gone_all, gone_are, lost}
use Rattle.sf_records.specs.by_lines.Loops.{AreLines, AreLinesAndPart, lines_met}

-- of the one line of these bytes, if there is one
kept_last : (limit : ℕ) (part : List ℕ) → IsLine part → (b : Bool) → b ≡ nat_lt limit (length part)
    → filter (λ line. nat_lt limit (length line)) (lines_of part) ≡ cond b (part ∷ []) []
kept_last limit [] is_line true e = absurd (grind (arith, nat_tests))
kept_last limit [] is_line false e = refl
kept_last limit (x ∷ part) is_line b e =
    ap (filter (λ line. nat_lt limit (length line))) (cut_last (x ∷ part) is_line (omega arith))
    ∙ ap (λ k. cond k ((x ∷ part) ∷ []) []) (sym e)

above : (limit n : ℕ) → limit < n → true ≡ nat_lt limit n
above limit n less = grind (arith, nat_tests)

not_above : (limit n : ℕ) → n ≤ limit → false ≡ nat_lt limit n
not_above limit n le = grind (arith, nat_tests)

module _ {S : Type 0} {to_come : S → Option (List ℕ)} {t : List ℕ} {old : Ahead S} {front : List (List ℕ)} (l : Lined to_come t old front)
  where
    -- these lines
    pub are_lines : AreLines t (length l.gone) (length front)
    are_lines = record {
      count = ap (λ (y : List ℕ). length (lines_of y)) (gone_are l) ∙ ap length l.are;
      cut = l.whole ∙ ap (λ (y : List (List ℕ)). y ++ lines_of l.left) (sym l.are)
          ∙ ap (λ (y : List ℕ). lines_of y ++ lines_of l.left) (sym (gone_are l))
          ∙ ap (λ (y : List ℕ). lines_of (take (length l.gone) t) ++ lines_of y) (sym (gone_all l));
    }

    -- and bytes of the next line alone
    pub lines_and_part : (new : Ahead S) (part : List ℕ) → TookPart to_come old new part → (n : ℕ)
        × (input_of to_come new ≡ Some (drop n t))
        × AreLinesAndPart t n (length front) part
    lines_and_part new part lost' =
        let (n, rest, input, gone, few) = consumed l new part lost'.bytes in (
          n,
          input,
          record {
            whole = length l.gone;
            are = are_lines;
            is_line = lost'.is_line;
            bytes = gone
                ∙ ap (λ (y : List ℕ). y ++ part) (sym (gone_are l));
          },
        )

    -- the lines where a read failed after a part of the next one
    module _ (part : List ℕ) (is_line : IsLine part) (open' : old.at_end ≡ false) (limit : ℕ) where
      met_by : (b : Bool) → b ≡ nat_lt limit (length part) → lines_met limit (l.gone ++ part) ≡ front ++ cond b (part ∷ []) []
      met_by b e =
          let ended : lines_by Fault (l.gone ++ part) ≡ front = failed_in l part is_line open' in
          ap (λ (y : List (List ℕ)). y ++ filter (λ line. nat_lt limit (length line)) (drop (length y) (lines_of (l.gone ++ part)))) ended
          ∙ ap (λ (y : List (List ℕ)). front ++ filter (λ line. nat_lt limit (length line)) (drop (length front) y))
          (l.cut open' part End)
          ∙ ap (λ (y : List (List ℕ)). front ++ filter (λ line. nat_lt limit (length line)) y) (drop-append_seam front (lines_of part))
          ∙ ap (λ (y : List (List ℕ)). front ++ y) (kept_last limit part is_line b e)

      pub met_short : length part ≤ limit → lines_met limit (l.gone ++ part) ≡ front
      met_short short = met_by false (not_above limit (length part) short) ∙ append-nil front

      pub met_long : limit < length part → lines_met limit (l.gone ++ part) ≡ front ++ part ∷ []
      met_long long = met_by true (above limit (length part) long)

    -- the next line begins with a part of it
    pub begun : (new : Ahead S) (part : List ℕ) → TookPart to_come old new part → 0 < length part → (more : List ℕ)
        × (others : List (List ℕ)) × (lines_of t ≡ front ++ (part ++ more) ∷ others)
    begun new part lost' some =
        let (rest, input, left) = lost (input_of to_come old) (input_of to_come new) l.left part l.input lost'.bytes in
        let (more, others, first) = first_line part rest lost'.is_line some in
        (more, others, l.whole ∙ ap (λ (y : List (List ℕ)). front ++ y) (ap lines_of left ∙ first))
