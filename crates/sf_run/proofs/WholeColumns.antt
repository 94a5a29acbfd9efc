-- Columns that lie whole in a piece.
use Rattle.std.proofs.Common.{◌≡◌, ℕ, suc, ◌+◌, ◌<◌, ◌≤◌, true, false, cond, List, [], ◌∷◌, ◌++◌, length, take, drop}
use Rattle.std.proofs.Common.{◌-◌, add-zero, append-nil, get_or, append_assoc, is_some, None, Option}
use Rattle.std.proofs.Common.{Some, refl, sym, ap, subst, ◌∙◌, arith, true≢false}
use Rattle.std.proofs.lemmas.Bool.{and_from, and_left, and_parts, and_right}
use Rattle.std.proofs.lemmas.List.{drop-take, get_or-drop, get_or-take, length-drop, length-take-le, take-append-drop, take-take, take_all}
use Rattle.std.proofs.lemmas.List.{take_more}
use Rattle.std.proofs.lemmas.List.Folds.{list_all_at}
use Rattle.std.proofs.Math.Seq.{take-add}
use Rattle.sf_base.specs.Blanks.{EndsWithInk, StartsWithInk, are_white, kept_before, trimmed, trimmed_end, trimmed_front}
use Rattle.sf_base.specs.Bytes.{is_white}
use Rattle.sf_float_read.specs.declared.item.reached.Forms.TheVariants.{All}
use Rattle.sf_float_read.specs.declared.item.reached.Reached.TheVariants as places
use Rattle.sf_float_read.specs.item.Tests.{is_float, read}
use Rattle.sf_format.specs.declared.directive.Conversion.{Conversion}
use Rattle.sf_format.specs.declared.directive.Directive.TheVariants.{Conv}
use Rattle.sf_format.specs.declared.directive.Lead.TheVariants.{Any}
use Rattle.sf_format.specs.declared.directive.Shape.TheVariants.{Float, Text}
use Rattle.sf_format.specs.Leads.{is_strict}
use Rattle.sf_format.specs.Proper.{IsProper}
use Rattle.sf_item.specs.Columns.{column_width}
use Rattle.sf_item.specs.ColumnTests.{column_text, fills, shape_fills}
use Rattle.sf_report.specs.Machine.{Skipping, column_end, passed_end, real_at, real_end, stored_end}
use Rattle.sf_run.specs.declared.directive.Finished.{Finished}
use Rattle.sf_run.specs.declared.directive.Finished.TheVariants as finish
use Rattle.sf_run.specs.Phases.{end_of, stage_of}
use Rattle.sf_run.specs.Pieces.{EndsIn}
use Rattle.sf_run.proofs.Columns.{column_all, column_finishes, column_is_full, end_front, end_length, filled_column, float_first}
use Rattle.sf_run.proofs.ColumnAnswers.{some_width}
use Rattle.sf_run.proofs.FloatTexts.{float_ink}
use Rattle.sf_run.proofs.Pieces.{ends_in, same_part, stays_full, whole_read}

-- a column ends with its last byte, whatever follows
pub column_ends : (c : Conversion) → c.column ≡ true → IsProper (Conv c) → (n k : ℕ) (piece : List ℕ) → k ≡ column_width c
    → k ≤ length piece → EndsIn (Conv c) Skipping n piece k (column_end c (take k piece))
column_ends c column proper n k piece width within =
    let f : List ℕ = take k piece in
    let long : length f ≡ k = length-take-le k piece within in
    let some = some_width c.width proper.1 in
    ends_in (Conv c) Skipping (stage_of f) n k piece (column_end c f) within (column_all c column [] f (omega (arith, long, width)))
    (λ m z. stays_full (Conv c) (stage_of f) (drop k piece) proper (column_is_full c column f (long ∙ width)) m z
    ∙ same_part refl refl (column_finishes c column f (λ e. (let none = ap length e in omega (arith, none, long, width, some))) m true))

-- ---- white space at both ends

white_all : (xs : List ℕ) → ((k : ℕ) → k < length xs → is_white (get_or xs k 0) ≡ true) → are_white xs ≡ true
white_all [] white = refl
white_all (b ∷ xs) white =
    and_from (is_white b) (are_white xs) (white 0 (omega arith)) (white_all xs (λ k low. white (suc k) (omega (arith, low))))

front_white : (u s : List ℕ) → are_white u ≡ true → trimmed_front (u ++ s) ≡ trimmed_front s
front_white [] s white = refl
front_white (b ∷ u) s white = let both = and_parts (is_white b) (are_white u) white in rw both.0 (front_white u s both.1)

front_ink : (t v : List ℕ) → StartsWithInk t → trimmed_front (t ++ v) ≡ t ++ v
front_ink [] v starts = absurd starts
front_ink (b ∷ t) v starts = rw starts refl

end_none : (v : List ℕ) → are_white v ≡ true → trimmed_end v ≡ []
end_none [] white = refl
end_none (b ∷ v) white =
    let both = and_parts (is_white b) (are_white v) white in
    ap (kept_before b) (end_none v both.1) ∙ ap (λ w. cond w [] (b ∷ [])) both.0

end_white : (s v : List ℕ) → are_white v ≡ true → trimmed_end (s ++ v) ≡ trimmed_end s
end_white [] v white = end_none v white
end_white (b ∷ s) v white = ap (kept_before b) (end_white s v white)

kept_more : (b : ℕ) (s : List ℕ) (last : ℕ) → kept_before b (s ++ last ∷ []) ≡ b ∷ (s ++ last ∷ [])
kept_more b [] last = refl
kept_more b (x ∷ s) last = refl

end_ink : (s : List ℕ) (last : ℕ) → is_white last ≡ false → trimmed_end (s ++ last ∷ []) ≡ s ++ last ∷ []
end_ink [] last ink = ap (λ w. cond w [] (last ∷ [])) ink
end_ink (b ∷ s) last ink = ap (kept_before b) (end_ink s last ink) ∙ kept_more b s last

-- what stands between white space is the text
between : (u t v : List ℕ) → are_white u ≡ true → are_white v ≡ true → StartsWithInk t → EndsWithInk t → trimmed (u ++ (t ++ v)) ≡ t
between u t v before after starts ends =
    ap trimmed_end (front_white u (t ++ v) before ∙ front_ink t v starts) ∙ end_white t v after ∙ ap trimmed_end ends.2
    ∙ end_ink ends.0 ends.1 ends.3 ∙ sym ends.2

ink_between : (u t v : List ℕ) → StartsWithInk t → are_white (u ++ (t ++ v)) ≡ false
ink_between [] [] v starts = absurd starts
ink_between [] (b ∷ t) v starts = and_left (is_white b) (are_white (t ++ v)) starts
ink_between (b ∷ u) t v starts = and_right (is_white b) (are_white (u ++ (t ++ v))) (ink_between u t v starts)

pub starts_at : (t : List ℕ) → 0 < length t → is_white (get_or t 0 0) ≡ false → StartsWithInk t
starts_at [] some ink = absurd (omega (arith, some))
starts_at (b ∷ t) some ink = ink

-- a column gives the text that stands in it between white space, where that matches
module _ (c : Conversion) (column : c.column ≡ true) (loose : is_strict c.shape ≡ false) (piece : List ℕ) (before item after : ℕ)
    (width : before + item + after ≡ column_width c) (within : column_width c ≤ length piece)
    (white_before : (k : ℕ) → k < before → is_white (get_or piece k 0) ≡ true)
    (white_after : (k : ℕ) → k < after → is_white (get_or piece (before + item + k) 0) ≡ true) where
  abbrev text : List ℕ
  text = take item (drop before piece)

  abbrev tail : List ℕ
  tail = take after (drop (before + item) piece)

  parts : take (before + item + after) piece ≡ take before piece ++ (text ++ tail)
  parts =
      take-add (before + item) after piece ∙ ap (λ x. x ++ tail) (take-add before item piece)
      ∙ append_assoc (take before piece) text tail

  front_is : are_white (take before piece) ≡ true
  front_is = let long = length-take-le before piece (omega (arith, width, within)) in
      white_all (take before piece) (λ k low.
      (let less : k < before = omega (arith, low, long) in ap is_white (get_or-take before piece k 0 less) ∙ white_before k less))

  tail_is : are_white tail ≡ true
  tail_is =
      let rest : List ℕ = drop (before + item) piece in
      let long = length-take-le after rest (omega (arith, width, within, length-drop (before + item) piece)) in
      white_all tail (λ k low. (let less : k < after = omega (arith, low, long) in
      ap is_white (get_or-take after rest k 0 less ∙ get_or-drop (before + item) piece k 0) ∙ white_after k less))

  abbrev all_bytes : List ℕ
  all_bytes = take (before + item + after) piece

  pub text_is : StartsWithInk text → EndsWithInk text → column_text c all_bytes ≡ text
  text_is starts ends =
      ap (λ v. cond v all_bytes (trimmed all_bytes)) loose ∙ ap trimmed parts
      ∙ between (take before piece) text tail front_is tail_is starts ends

  pub ink_is : StartsWithInk text → are_white all_bytes ≡ false
  ink_is starts = ap are_white parts ∙ ink_between (take before piece) text tail starts

  pub column_gives : (n : ℕ) → IsProper (Conv c) → StartsWithInk text → EndsWithInk text → fills c text ≡ true
      → EndsIn (Conv c) Skipping n piece (before + item + after) (passed_end c c.slot text)
  column_gives n proper starts ends filled =
      let own = text_is starts ends in
      subst (λ e. EndsIn (Conv c) Skipping n piece (before + item + after) e)
      (sym (filled_column c all_bytes (ink_is starts) (ap (fills c) own ∙ filled)) ∙ ap (passed_end c c.slot) own)
      (column_ends c column proper n (before + item + after) piece width (subst (λ k. k ≤ length piece) (sym width) within))

-- ---- floats

last_of : (t : List ℕ) (n : ℕ) → length t ≡ suc n → t ≡ take n t ++ get_or t n 0 ∷ []
last_of t n long = sym (take_all (n + 1) t (omega (arith, long))) ∙ take_more t n 0 (omega (arith, long))

float_starts : (t : List ℕ) → is_float t ≡ true → StartsWithInk t
float_starts [] is = absurd (true≢false (sym is))
float_starts (b ∷ t) is = float_first places.Start b t is

float_ends : (t : List ℕ) → is_float t ≡ true → EndsWithInk t
float_ends [] is = absurd (true≢false (sym is))
float_ends (b ∷ t) is =
    let n : ℕ = length t in
    let all = last_of (b ∷ t) n refl in
    let front : List ℕ = take n (b ∷ t) in
    let last : ℕ = get_or (b ∷ t) n 0 in (
      front,
      last,
      all,
      float_ink All front last (subst (λ s. is_some (read (Some places.Start) s) ≡ true) all
          (whole_read (read (Some places.Start) (b ∷ t)) is)),
    )

-- a column of a float gives the float that stands in it
pub column_float : (c : Conversion) (slot : ℕ) → c.column ≡ true → c.shape ≡ Float Any → c.slot ≡ Some slot → (piece : List ℕ)
    (before item after : ℕ)
    → before + item + after ≡ column_width c → column_width c ≤ length piece
    → ((k : ℕ) → k < before → is_white (get_or piece k 0) ≡ true)
    → ((k : ℕ) → k < after → is_white (get_or piece (before + item + k) 0) ≡ true) → is_float (take item (drop before piece)) ≡ true
    → (n : ℕ) → IsProper (Conv c)
    → EndsIn (Conv c) Skipping n piece (before + item + after) (real_end slot (real_at c.kind (take item (drop before piece))))
column_float c slot column shape own piece before item after width within white_before white_after is n proper =
    let t : List ℕ = take item (drop before piece) in
    subst (λ e. EndsIn (Conv c) Skipping n piece (before + item + after) e)
    (ap (λ o. passed_end c o t) own ∙ ap (λ s. stored_end c slot s t) shape)
    (column_gives c column (ap is_strict shape) piece before item after width within white_before white_after n proper (float_starts t is)
    (float_ends t is) (ap (λ s. shape_fills s c.width t) shape ∙ is))

-- ---- texts

-- a column of a text gives what the white space at both ends leaves
module _ (c : Conversion) (column : c.column ≡ true) (shape : c.shape ≡ Text Any) (piece f rest t : List ℕ) (before width : ℕ)
    (is : f ≡ take width piece) (size : width ≡ column_width c) (within : width ≤ length piece) (low : before < width)
    (back : rest ≡ drop before f) (white : (k : ℕ) → k < before → is_white (get_or f k 0) ≡ true)
    (ink : is_white (get_or f before 0) ≡ false) (cut : t ≡ trimmed_end rest) where
  long : length f ≡ width
  long = ap length is ∙ length-take-le width piece within

  rest_long : length rest ≡ width - before
  rest_long = ap length back ∙ length-drop before f ∙ ap (λ n. n - before) long

  text_short : length t ≤ width - before
  text_short = let all = rest_long in let less = end_length rest in let same = ap length cut in omega (arith, all, less, same)

  -- its place in the piece
  text_place : take (length t) (drop before piece) ≡ t
  text_place =
      let parts : rest ≡ take (width - before) (drop before piece) =
      back ∙ ap (drop before) (is ∙ ap (λ n. take n piece) (omega (arith, low))) ∙ drop-take before (width - before) piece in
      sym (take-take (length t) (width - before) (drop before piece) text_short) ∙ ap (take (length t)) (sym parts)
      ∙ ap (λ s. take (length s) rest) cut ∙ sym (end_front rest) ∙ sym cut

  front_is_rest : trimmed_front f ≡ rest
  front_is_rest =
      let size_f = long in
      let some = rest_long in
      let first : take before f ++ rest ≡ f = ap (λ y. take before f ++ y) back ∙ take-append-drop before f in
      let blank : are_white (take before f) ≡ true =
      white_all (take before f) (λ k less. (let short : k < before =
      omega (arith, less, low, size_f, length-take-le before f (omega (arith, low, size_f))) in
      ap is_white (get_or-take before f k 0 short) ∙ white k short)) in
      let starts : StartsWithInk rest =
      starts_at rest (omega (arith, some, low)) (ap (λ y. is_white (get_or y 0 0)) back ∙ ap is_white (get_or-drop before f 0 0
      ∙ ap (λ i. get_or f i 0) (add-zero before)) ∙ ink) in
      ap trimmed_front (sym first) ∙ front_white (take before f) rest blank ∙ ap trimmed_front (sym (append-nil rest))
      ∙ front_ink rest [] starts ∙ append-nil rest

  pub column_stored : (n : ℕ) → IsProper (Conv c)
      → EndsIn (Conv c) Skipping n piece width (passed_end c c.slot (take (length t) (drop before piece)))
  column_stored n proper =
      let size_f = long in
      let own : column_text c f ≡ take (length t) (drop before piece) =
      ap (λ v. cond v f (trimmed f)) (ap is_strict shape) ∙ ap trimmed_end front_is_rest ∙ sym cut ∙ sym text_place in
      let some : are_white f ≡ false = list_all_at is_white f before 0 (omega (arith, low, size_f)) ink in
      let filled : fills c (column_text c f) ≡ true = ap (λ s. shape_fills s c.width (column_text c f)) shape in
      subst (λ e. EndsIn (Conv c) Skipping n piece width e) (sym (filled_column c f some filled) ∙ ap (passed_end c c.slot) own)
      (subst (λ y. EndsIn (Conv c) Skipping n piece width (column_end c y)) (sym is)
      (column_ends c column proper n width piece size within))

-- it ends as one of its slot, which is given the text
pub text_given : (c : Conversion) → c.shape ≡ Text Any → (end : Finished) (t : List ℕ) → (c.slot ≡ None → end ≡ finish.Passes)
    → ((slot : ℕ) → c.slot ≡ Some slot → end ≡ finish.Closes slot) → passed_end c c.slot t ≡ end_of t end
text_given c shape end t none some = by c.slot refl
  where
    by : (slot : Option ℕ) → c.slot ≡ slot → passed_end c slot t ≡ end_of t end
    by None e = ap (end_of t) (sym (none e))
    by (Some slot) e = ap (λ s. stored_end c slot s t) shape ∙ ap (end_of t) (sym (some slot e))
