-- The lines of an input that were read.
use Rattle.std.proofs.Common.{◌≡◌, ℕ, ◌<◌, ◌≤◌, true, false, List, [], ◌∷◌, ◌++◌, length, take, drop, Option, Some, None, ◌⊎◌, inl, inr}
use Rattle.std.proofs.Common.{refl, sym, ap, ◌∙◌, arith, append_assoc, append-nil, length-append, true≢false}
use Rattle.std.proofs.Math.Seq.{take-append_seam, drop-append_seam}
use Rattle.std.specs.Io.KnownBytes.{Consumes, IsAtEnd}
use Rattle.sf_run.specs.outcome.Ending.{Ending}
use Rattle.sf_run.specs.outcome.Ending.TheVariants.{End, Fault}
use Rattle.sf_read.specs.source.Ahead.{Ahead, input_of}
use Rattle.sf_read.specs.line.Cut.{IsLine, lines_by, lines_of}
use Rattle.sf_read.specs.line.Reading.{Loses, Took}
use Rattle.sf_read.proofs.LineLemmas.Cutting.{cut_line, cut_last, cut_none}

-- the input t lost these lines; what it has left is the rest
pub record Lined {S : Type 0} (to_come : S → Option (List ℕ)) (t : List ℕ) (now : Ahead S) (front : List (List ℕ)) : Type 0 where
  pub gone : List ℕ
  pub left : List ℕ
  pub input : input_of to_come now ≡ Some left
  pub parts : t ≡ gone ++ left
  pub whole : lines_of t ≡ front ++ lines_of left
  pub are : lines_of gone ≡ front
  pub cut : now.at_end ≡ false → (z : List ℕ) (ending : Ending) → lines_by ending (gone ++ z) ≡ front ++ lines_by ending z

pub begins : {S : Type 0} (to_come : S → Option (List ℕ)) (t : List ℕ) (now : Ahead S) → input_of to_come now ≡ Some t
    → Lined to_come t now []
begins to_come t now e = record { gone = []; left = t; input = e; parts = refl; whole = refl; are = refl; cut = λ _ z ending. refl }

-- what an input has left that lost bytes
pub lost : (a b : Option (List ℕ)) (left bytes : List ℕ) → a ≡ Some left → Consumes a b bytes → (rest : List ℕ) × (b ≡ Some rest)
    × (left ≡ bytes ++ rest)
lost None b left bytes e h = absurd (cc)
lost (Some xs) None left bytes e h = absurd h
lost (Some xs) (Some ys) left bytes e h = (ys, refl, cc)

ended : (a : Option (List ℕ)) (left : List ℕ) → a ≡ Some left → IsAtEnd a → left ≡ []
ended None left e h = absurd (cc)
ended (Some xs) left e h = cc

module _ {S : Type 0} {to_come : S → Option (List ℕ)} {t : List ℕ} {old : Ahead S} {front : List (List ℕ)} (l : Lined to_come t old front)
  where
    -- the bytes that are gone with these
    behind : (bytes rest : List ℕ) → l.left ≡ bytes ++ rest → t ≡ (l.gone ++ bytes) ++ rest
    behind bytes rest e = l.parts ∙ ap (λ (y : List ℕ). l.gone ++ y) e ∙ sym (append_assoc l.gone bytes rest)

    -- a line with its newline
    with_end : (new : Ahead S) (line : List ℕ) → IsLine line → old.at_end ≡ false → Loses to_come old new (line ++ 10 ∷ [])
        → Lined to_come t new (front ++ line ∷ [])
    with_end new line is_line open' loses =
        let (rest, input, left) = lost (input_of to_come old) (input_of to_come new) l.left (line ++ 10 ∷ []) l.input loses in
        let parts : t ≡ (l.gone ++ (line ++ 10 ∷ [])) ++ rest = behind (line ++ 10 ∷ []) rest left in
        record {
          gone = l.gone ++ (line ++ 10 ∷ []);
          left = rest;
          input = input;
          parts = parts;
          whole = ap lines_of parts ∙ cut rest End;
          are = ap lines_of (sym (append-nil (l.gone ++ (line ++ 10 ∷ [])))) ∙ cut [] End ∙ append-nil (front ++ line ∷ []);
          cut = λ _. cut;
        }
      where
        cut : (z : List ℕ) (ending : Ending) → lines_by ending ((l.gone ++ (line ++ 10 ∷ [])) ++ z) ≡ (front ++ line ∷ []) ++ lines_by
            ending
            z
        cut z ending =
            ap (lines_by ending) (append_assoc l.gone (line ++ 10 ∷ []) z
            ∙ ap (λ (y : List ℕ). l.gone ++ y) (append_assoc line (10 ∷ []) z))
            ∙ l.cut open' (line ++ 10 ∷ z) ending ∙ ap (λ (y : List (List ℕ)). front ++ y) (cut_line ending line z is_line)
            ∙ sym (append_assoc front (line ∷ []) (lines_by ending z))

    -- the last one, without
    without_end : (new : Ahead S) (line : List ℕ) → IsLine line → old.at_end ≡ false → Loses to_come old new line → 0 < length line
        → new.at_end ≡ true → IsAtEnd (input_of to_come new) → Lined to_come t new (front ++ line ∷ [])
    without_end new line is_line open' loses some at_end known =
        let (rest, input, left) = lost (input_of to_come old) (input_of to_come new) l.left line l.input loses in
        let none : rest ≡ [] = ended (input_of to_come new) rest input known in
        let parts : t ≡ (l.gone ++ line) ++ rest = behind line rest left in
        let all : t ≡ l.gone ++ line = parts ∙ ap (λ (y : List ℕ). (l.gone ++ line) ++ y) none ∙ append-nil (l.gone ++ line) in
        let lines : lines_of (l.gone ++ line) ≡ front ++ line ∷ [] = l.cut open' line End
        ∙ ap (λ (y : List (List ℕ)). front ++ y) (cut_last line is_line some) in
        record {
          gone = l.gone ++ line;
          left = rest;
          input = input;
          parts = parts;
          whole = ap lines_of all ∙ lines ∙ sym (append-nil (front ++ line ∷ []))
              ∙ ap (λ (y : List ℕ). (front ++ line ∷ []) ++ lines_of y) (sym none);
          are = lines;
          cut = λ e. absurd (true≢false (sym at_end ∙ e));
        }

    -- a line was read
    pub took : (new : Ahead S) (line : List ℕ) → Took to_come old new line → Lined to_come t new (front ++ line ∷ [])
    took new line read = by read.bytes
      where
        by : Loses to_come old new (line ++ 10 ∷ []) ⊎ Loses to_come old new line × (0 < length line) × (new.at_end ≡ true)
            × IsAtEnd (input_of to_come new) → Lined to_come t new (front ++ line ∷ [])
        by (inl loses) = with_end new line read.is_line read.before loses
        by (inr (loses, some, at_end, known)) = without_end new line read.is_line read.before loses some at_end known

    -- what is left, where so many bytes are gone
    pub gone_all : drop (length l.gone) t ≡ l.left
    gone_all = ap (drop (length l.gone)) l.parts ∙ drop-append_seam l.gone l.left

    pub gone_are : take (length l.gone) t ≡ l.gone
    gone_are = ap (take (length l.gone)) l.parts ∙ take-append_seam l.gone l.left

    -- bytes of the next line, or of several
    pub consumed : (new : Ahead S) (bytes : List ℕ) → Loses to_come old new bytes → (n : ℕ) × (rest : List ℕ)
        × (input_of to_come new ≡ Some (drop n t)) × (take n t ≡ l.gone ++ bytes) × (length bytes ≤ length t)
    consumed new bytes loses =
        let (rest, input, left) = lost (input_of to_come old) (input_of to_come new) l.left bytes l.input loses in
        let parts : t ≡ (l.gone ++ bytes) ++ rest = behind bytes rest left in (
          length (l.gone ++ bytes),
          rest,
          input ∙ ap Some (sym (ap (drop (length (l.gone ++ bytes))) parts ∙ drop-append_seam (l.gone ++ bytes) rest)),
          ap (take (length (l.gone ++ bytes))) parts ∙ take-append_seam (l.gone ++ bytes) rest,
          omega (arith, ap length parts, length-append (l.gone ++ bytes) rest, length-append l.gone bytes),
        )

    -- a read failed in the next line
    pub failed_in : (part : List ℕ) → IsLine part → old.at_end ≡ false → lines_by Fault (l.gone ++ part) ≡ front
    failed_in part is_line open' = l.cut open' part Fault ∙ ap (λ (y : List (List ℕ)). front ++ y) (cut_none part is_line)
        ∙ append-nil front

    -- there is no further line
    pub at_end : (new : Ahead S) → Loses to_come old new [] → IsAtEnd (input_of to_come new)
        → (input_of to_come new ≡ Some (drop (length l.gone) t)) × (lines_of t ≡ front)
    at_end new loses known =
        let (rest, input, left) = lost (input_of to_come old) (input_of to_come new) l.left [] l.input loses in
        let none : l.left ≡ [] = left ∙ ended (input_of to_come new) rest input known in
        (input ∙ ap Some (sym left ∙ sym gone_all), l.whole ∙ ap (λ (y : List ℕ). front ++ lines_of y) none ∙ append-nil front)
