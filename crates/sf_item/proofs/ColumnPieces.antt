-- What a scan takes of a piece.
use Rattle.std.proofs.Common.{◌≡◌, ◌∙◌, ℕ, suc, ◌+◌, ◌<◌, ◌≤◌, Bool, true, false, ◌&&◌, List, [], ◌∷◌, ◌++◌, length, take, drop}
use Rattle.std.proofs.Common.{get_or, refl, sym, ap, subst, arith, true≢false, append_assoc}
use Rattle.std.proofs.Math.Seq.{take-suc}
use Rattle.std.proofs.lemmas.List.{get_or-drop, length-drop}
use Rattle.sf_base.specs.Bytes.{is_white}
use Rattle.sf_base.specs.Blanks.{are_white, trimmed_front}
use Rattle.sf_item.specs.declared.column.ColumnScan.{ColumnScan}
use Rattle.sf_item.specs.ColumnScans.{conversion_of, column_left, is_blank_place, HasTakenColumn}
use Rattle.sf_item.proofs.Blanks.{trimmed_front_more}
use Rattle.sf_item.proofs.ColumnReadings.{blank_is}
use Rattle.sf_item.proofs.ColumnTexts.{white_front, text_begins}
use Rattle.sf_item.proofs.Integers.{by_lt}

-- so many bytes of the piece were taken, those before the text and those of the text
pub record HasTakenPart (old now : ColumnScan) (piece : List ℕ) (before text : ℕ) : Type 0 where
  pub conversion : conversion_of now ≡ conversion_of old
  pub left : column_left now + (before + text) ≡ column_left old
  pub taken : (f : List ℕ) → HasTakenColumn old f → HasTakenColumn now (f ++ take (before + text) piece)
  pub white : (k : ℕ) → k < before → is_white (get_or piece k 0) ≡ true
  pub blank : is_blank_place now.place ≡ true → text ≡ 0
  pub text_is : (f : List ℕ) → HasTakenColumn old f
      → trimmed_front (f ++ take (before + text) piece) ≡ trimmed_front f ++ take text (drop before piece)

take_more : (piece : List ℕ) (n m : ℕ) → n < length piece → m ≡ n + 1 → take m piece ≡ take n piece ++ get_or piece n 0 ∷ []
take_more piece n m below is = ap (λ k. take k piece) (the_next m n is) ∙ take-suc piece n 0 below
  where
    the_next : (m n : ℕ) → m ≡ n + 1 → m ≡ suc n
    the_next m n is = omega (arith, is)

-- white space alone
all_white : (scan : ColumnScan) (f : List ℕ) → HasTakenColumn scan f → is_blank_place scan.place ≡ true → are_white f ≡ true
all_white scan f h blank = sym (blank_is (conversion_of scan) scan.reading scan.place f h.reached.1) ∙ blank

-- the front of a text, with a byte that is not before it
front_more : (scan : ColumnScan) (f : List ℕ) (b : ℕ) → HasTakenColumn scan f → (is_blank_place scan.place && is_white b) ≡ false
    → trimmed_front (f ++ b ∷ []) ≡ trimmed_front f ++ b ∷ []
front_more scan f b h other =
    let blank = blank_is (conversion_of scan) scan.reading scan.place f h.reached.1 in
    go (are_white f) refl (subst (λ v. (v && is_white b) ≡ false) blank other)
  where
    go : (v : Bool) → are_white f ≡ v → (v && is_white b) ≡ false → trimmed_front (f ++ b ∷ []) ≡ trimmed_front f ++ b ∷ []
    go true white ink = text_begins f b [] white ink ∙ ap (λ y. y ++ b ∷ []) (sym (white_front f white))
    go false some _ = trimmed_front_more f (b ∷ []) some

module _ (old now after : ColumnScan) (piece : List ℕ) (before text : ℕ) (below : before + text < length piece)
    (h : HasTakenPart old now piece before text) (conversion : conversion_of after ≡ conversion_of now)
    (left : column_left after + 1 ≡ column_left now)
    (taken : (f : List ℕ) → HasTakenColumn now f → HasTakenColumn after (f ++ get_or piece (before + text) 0 ∷ [])) where
  -- with the next byte
  more : (f : List ℕ) (m : ℕ) → m ≡ before + text + 1
      → f ++ take m piece ≡ (f ++ take (before + text) piece) ++ get_or piece (before + text) 0 ∷ []
  more f m is = ap (λ y. f ++ y) (take_more piece (before + text) m below is)
      ∙ sym (append_assoc f (take (before + text) piece) (get_or piece (before + text) 0 ∷ []))

  taken_more : (f : List ℕ) (m : ℕ) → m ≡ before + text + 1 → HasTakenColumn old f → HasTakenColumn after (f ++ take m piece)
  taken_more f m is known =
      subst (HasTakenColumn after) (sym (more f m is)) (taken (f ++ take (before + text) piece) (h.taken f known))

  -- which stands before the text
  pub blank_more : is_blank_place after.place ≡ true → is_blank_place now.place ≡ true → is_white (get_or piece (before + text) 0) ≡ true
      → HasTakenPart old after piece (before + 1) text
  blank_more blank was white =
      let none = h.blank was in
      let left_now = h.left in
      record {
        conversion = conversion ∙ h.conversion;
        left = omega (arith, left, left_now);
        taken = λ f. taken_more f (before + 1 + text) (omega arith);
        white = λ k small. by_lt k before (λ _. is_white (get_or piece k 0) ≡ true) (h.white k)
            (λ large. ap (λ n. is_white (get_or piece n 0)) (the_last k small large none) ∙ white);
        blank = λ _. none;
        text_is = λ f known.
            let all = all_white after (f ++ take (before + 1 + text) piece) (taken_more f (before + 1 + text) (omega arith) known) blank in
            let front = all_white now (f ++ take (before + text) piece) (h.taken f known) was in
            white_front (f ++ take (before + 1 + text) piece) all
            ∙ sym (white_front (f ++ take (before + text) piece) front)
            ∙ h.text_is f known
            ∙ ap (λ y. trimmed_front f ++ y) (no_text before (before + 1) none);
      }
    where
      the_last : (k : ℕ) → k < before + 1 → before ≤ k → text ≡ 0 → k ≡ before + text
      the_last k small large none = omega (arith, small, large, none)

      no_text : (m n : ℕ) → text ≡ 0 → take text (drop m piece) ≡ take text (drop n piece)
      no_text m n none = rw none refl

  -- which is part of the text, or stands after it
  pub text_more : is_blank_place after.place ≡ false
      → (is_blank_place now.place && is_white (get_or piece (before + text) 0)) ≡ false
      → HasTakenPart old after piece before (text + 1)
  text_more inside other =
      let left_now = h.left in
      record {
        conversion = conversion ∙ h.conversion;
        left = omega (arith, left, left_now);
        taken = λ f. taken_more f (before + (text + 1)) (omega arith);
        white = h.white;
        blank = λ is. absurd (true≢false (sym is ∙ inside));
        text_is = λ f known.
            ap trimmed_front (more f (before + (text + 1)) (omega arith))
            ∙ front_more now (f ++ take (before + text) piece) (get_or piece (before + text) 0) (h.taken f known) other
            ∙ ap (λ y. y ++ get_or piece (before + text) 0 ∷ []) (h.text_is f known)
            ∙ append_assoc (trimmed_front f) (take text (drop before piece)) (get_or piece (before + text) 0 ∷ [])
            ∙ ap (λ y. trimmed_front f ++ y) (sym rest_more);
      }
    where
      long_rest : text < length (drop before piece)
      long_rest = let long = length-drop before piece in omega (arith, long, below)

      rest_more : take (text + 1) (drop before piece) ≡ take text (drop before piece) ++ get_or piece (before + text) 0 ∷ []
      rest_more = take_more (drop before piece) text (text + 1) long_rest refl
          ∙ ap (λ b. take text (drop before piece) ++ b ∷ []) (get_or-drop before piece text 0)
