-- What a column makes of a piece.
use Rattle.std.proofs.Common.{◌≡◌, ◌≢◌, ℕ, ◌+◌, ◌<◌, ◌≤◌, min, true, false, List, [], ◌∷◌, ◌++◌, length, take, drop, get_or, append_assoc}
use Rattle.std.proofs.Common.{append-nil, length-append, Option, Some, None, refl, sym, ap, subst, ◌∙◌, arith, inl, inr, eq-zero-or-pos}
use Rattle.std.proofs.Common.{unwrap_or}
use Rattle.std.specs.Prelude.{IfSome}
use Rattle.std.proofs.lemmas.List.{length-drop, length-take-le, take_all, take_more}
use Rattle.sf_base.specs.Blanks.{are_white, trimmed_front}
use Rattle.sf_format.specs.declared.directive.Shape.{Shape}
use Rattle.sf_format.specs.declared.directive.Conversion.{Conversion}
use Rattle.sf_format.specs.declared.directive.Directive.TheVariants.{Conv}
use Rattle.sf_format.specs.Proper.{IsProper, IsProperWidth}
use Rattle.sf_item.specs.declared.column.ColumnScan.{ColumnScan}
use Rattle.sf_item.specs.Scan.{most_bytes}
use Rattle.sf_item.specs.Columns.{column_width}
use Rattle.sf_item.specs.ColumnScans.{HasTakenColumn, column_left, conversion_of}
use Rattle.sf_report.specs.Machine.{Stage, column_end, is_full}
use Rattle.sf_report.specs.Residual.{stepped_all}
use Rattle.sf_run.specs.declared.directive.Finished.{Finished}
use Rattle.sf_run.specs.declared.directive.Phase.{Phase}
use Rattle.sf_run.specs.declared.directive.Phase.TheVariants as phase
use Rattle.sf_run.specs.declared.directive.Run.{Run}
use Rattle.sf_run.specs.Phases.{GrowsBy, Shows, ShowsColumn, end_of, is_in_column, slot_in, stage_of}
use Rattle.sf_run.specs.Holding.{FallsBy, HasLeftAtMost, LeftAfterAll}
use Rattle.sf_run.specs.Pieces.{Answers, AnswersBy, EndsIn, IsEnd, Suits}
use Rattle.sf_run.specs.Texts.{IsInTextBy, IsNextSlot, StoresByte, closing_text, item_of, opened_for, opened_slot, taken_at, text_begun}
use Rattle.sf_run.specs.Texts.{text_slot}
use Rattle.sf_run.proofs.Columns.{column_all, column_finishes, column_is_full, column_item, column_waits, some_begun, stage_begun}
use Rattle.sf_run.proofs.Columns.{stage_bytes, text_ink}
use Rattle.sf_run.proofs.Pieces.{ends_in, same_part, stays_full}
use Rattle.sf_run.proofs.Stages.{conv_is}

-- a column takes so many bytes of the piece, white space before its text and bytes of that
module _ (c : Conversion) (column : c.column ≡ true) (proper : IsProper (Conv c)) (f piece : List ℕ) (n before text : ℕ)
    (within : before + text ≤ length piece) (fits : length f + (before + text) ≤ column_width c)
    (front : trimmed_front (f ++ take (before + text) piece) ≡ trimmed_front f ++ take text (drop before piece)) where
  abbrev all_taken : List ℕ
  all_taken = f ++ take (before + text) piece

  column_goes : stepped_all (Conv c) (stage_of f) (take (before + text) piece) ≡ Some (stage_of all_taken)
  column_goes = let long = length-take-le (before + text) piece within in
      column_all c column f (take (before + text) piece) (omega (arith, fits, long))

  column_grows : GrowsBy (Conv c) (stage_of f) (take text (drop before piece)) (stage_of all_taken)
  column_grows = column_item c column all_taken ∙ front ∙ ap (λ t. t ++ take text (drop before piece)) (sym (column_item c column f))

  column_stores : (slot j : ℕ) → text_slot (Conv c) ≡ Some slot → j < text
      → StoresByte (Conv c) (taken_at (stage_of f) ++ take (before + j) piece) (get_or piece (before + j) 0)
  column_stores slot j own below =
      let next : (taken_at (stage_of f) ++ take (before + j) piece) ++ get_or piece (before + j) 0 ∷ [] ≡ f ++ take (before + j + 1) piece =
      append_assoc (taken_at (stage_of f)) (take (before + j) piece) (get_or piece (before + j) 0 ∷ [])
      ∙ ap (λ t. t ++ (take (before + j) piece ++ get_or piece (before + j) 0 ∷ [])) (stage_bytes f)
      ∙ ap (λ t. f ++ t) (sym (take_more piece (before + j) 0 (omega (arith, within, below)))) in (
        slot,
        own,
        subst (λ v. IsInTextBy v c.shape (taken_at (stage_of f) ++ take (before + j) piece) (get_or piece (before + j) 0)) (sym column)
            (ap are_white next ∙ text_ink f piece before text j within below front),
      )

  pub column_answers : (current : Phase) (ends : Option Finished)
      → ((slot : ℕ) → slot_in current ≡ Some slot → text_slot (Conv c) ≡ Some slot) → all_taken ≢ []
      → (ends ≡ None → (before + text ≡ length piece) × Shows (Conv c) current (stage_of all_taken))
      → IfSome ends (λ end. (length all_taken ≡ column_width c)
      × (end_of (closing_text (Conv c) (trimmed_front all_taken)) end ≡ column_end c all_taken))
      → Answers (Conv c) (stage_of f) n piece (record { before = before; item = text; phase = current; ends = ends })
  column_answers current ends slots some waits over = record {
    goes = by_ends ends waits over;
    stores = λ slot j own below. column_stores slot j (slots slot own) below;
  }
    where
      by_ends : (o : Option Finished) → (o ≡ None → (before + text ≡ length piece) × Shows (Conv c) current (stage_of all_taken))
          → IfSome o (λ end. (length all_taken ≡ column_width c)
          × (end_of (closing_text (Conv c) (trimmed_front all_taken)) end ≡ column_end c all_taken))
          → AnswersBy o (Conv c) (stage_of f) n piece (record { before = before; item = text; phase = current; ends = o })
      by_ends None waits over =
          let (all, shown) = waits refl in
          record {
            stage = stage_of all_taken;
            stepped = ap (stepped_all (Conv c) (stage_of f)) (sym (take_all (before + text) piece (omega (arith, all)))) ∙ column_goes;
            shown = shown;
            grown = column_grows;
          }
      by_ends (Some end) waits over =
          let text_is : item_of (Conv c) (stage_of f) ++ take text (drop before piece) ≡ trimmed_front all_taken =
          ap (λ t. t ++ take text (drop before piece)) (column_item c column f) ∙ sym front in
          subst (λ e. EndsIn (Conv c) (stage_of f) n piece (before + text) e)
          (sym (ap (λ t. end_of (closing_text (Conv c) t) end) text_is ∙ over.1))
          (ends_in (Conv c) (stage_of f) (stage_of all_taken) n (before + text) piece (column_end c all_taken) within column_goes
          (λ m z. stays_full (Conv c) (stage_of all_taken) (drop (before + text) piece) proper (column_is_full c column all_taken over.0) m
          z
          ∙ same_part refl refl (column_finishes c column all_taken some m true)))

-- ---- what a scan of it takes

pub some_width : (width : Option ℕ) → IsProperWidth width → 1 ≤ unwrap_or width 1
some_width None proper = omega arith
some_width (Some w) proper = proper

pub nothing_is : (xs : List ℕ) → length xs ≡ 0 → xs ≡ []
nothing_is [] e = refl
nothing_is (x ∷ xs) e = absurd (omega (arith, e))

-- the scan, which has taken f, takes so many bytes of the piece
module _ (c : Conversion) (column : c.column ≡ true) (proper : IsProper (Conv c)) (scan new : ColumnScan) (f piece : List ℕ)
    (before text : ℕ) (slot next : Option ℕ) (own : c ≡ conversion_of scan) (same : conversion_of new ≡ conversion_of scan)
    (taken : HasTakenColumn scan f) (all : before + text ≡ min (length piece) (column_left scan))
    (left : column_left new + (before + text) ≡ column_left scan)
    (takes : HasTakenColumn new (f ++ take (before + text) piece))
    (front : trimmed_front (f ++ take (before + text) piece) ≡ trimmed_front f ++ take text (drop before piece))
    (began : opened_slot (opened_for (Conv c) (stage_of f)) ≡ slot)
    (none : text ≡ 0 → next ≡ slot) (begun : text ≢ 0 → next ≡ text_slot (Conv c)) where
  abbrev bytes : List ℕ
  bytes = f ++ take (before + text) piece

  within : before + text ≤ length piece
  within = omega (arith, all)

  held : column_left scan + length f ≡ column_width c
  held = taken.left ∙ ap column_width (sym own)

  fits : length f + (before + text) ≤ column_width c
  fits = let h = held in omega (arith, h, left)

  long : length bytes ≡ length f + (before + text)
  long = length-append f (take (before + text) piece) ∙ ap (λ n. length f + n) (length-take-le (before + text) piece within)

  some_taken : f ++ piece ≢ [] → bytes ≢ []
  some_taken some e =
      let h = held in
      let width = some_width c.width proper.1 in
      let size = long in
      let no_bytes = ap length e in
      some (nothing_is (f ++ piece) (omega (arith, h, width, size, no_bytes, all, length-append f piece)))

  begins : opened_slot (text_begun (text_slot (Conv c)) (trimmed_front f)) ≡ slot
  begins = ap (λ t. opened_slot (text_begun (text_slot (Conv c)) t)) (sym (column_item c column f)) ∙ began

  slot_is : opened_slot (text_begun (text_slot (Conv c)) (trimmed_front bytes)) ≡ next
  slot_is = elim (eq-zero-or-pos text) [
    | inl zero ↦ (let same_text : trimmed_front bytes ≡ trimmed_front f =
        front ∙ ap (λ k. trimmed_front f ++ take k (drop before piece)) zero ∙ append-nil (trimmed_front f) in
        ap (λ t. opened_slot (text_begun (text_slot (Conv c)) t)) same_text ∙ begins ∙ sym (none zero))
    | inr some ↦ some_begun (text_slot (Conv c)) (trimmed_front bytes) (λ e.
        let parts = ap length (sym front ∙ e) in
        let w = within in
        let size = length-take-le text (drop before piece) (omega (arith, w, length-drop before piece)) in
        omega (arith, parts, size, some, length-append (trimmed_front f) (take text (drop before piece))))
        ∙ sym (begun (λ zero. omega (arith, zero, some)))
  ]

  shown : bytes ≢ [] → Shows (Conv c) (phase.Column next new) (stage_of bytes)
  shown some = record {
    column = bytes;
    stage = stage_begun bytes some;
    own = ap Conv (own ∙ sym same);
    taken = takes;
    begun = some;
    text = ap (λ t. opened_slot (text_begun (text_slot (Conv c)) t)) (column_item c column bytes) ∙ slot_is;
    placed = column;
  }

  -- it has more bytes left, and waits for them
  pub waiting_column : (n : ℕ) → f ++ piece ≢ [] → (column_left new ≡ 0 → ⊥)
      → IfSome next (λ n. text_slot (Conv c) ≡ Some n)
      → Answers (Conv c) (stage_of f) n piece (record { before = before; item = text; phase = phase.Column next new; ends = None })
  waiting_column n some more texts =
      column_answers c column proper f piece n before text within fits front (phase.Column next new) None (own_slot next texts)
      (some_taken some) (λ e. (used, shown (some_taken some))) tt
    where
      used : before + text ≡ length piece
      used = elim (eq-zero-or-pos (column_left new)) [
        | inl zero ↦ absurd (more zero)
        | inr some ↦ omega (arith, all, left, some)
      ]

      own_slot : (o : Option ℕ) → IfSome o (λ n. text_slot (Conv c) ≡ Some n) → (slot : ℕ) → o ≡ Some slot → text_slot (Conv c) ≡ Some slot
      own_slot o h slot e = subst (λ (o : Option ℕ). IfSome o (λ n. text_slot (Conv c) ≡ Some n)) e h

  -- it has none left, and ends so
  pub full_column : (n : ℕ) (end : Finished) → f ++ piece ≢ [] → column_left new ≡ 0
      → IfSome next (λ n. text_slot (Conv c) ≡ Some n)
      → ((f : List ℕ) → c ≡ conversion_of new → c.column ≡ true → HasTakenColumn new f
      → opened_slot (text_begun (text_slot (Conv c)) (trimmed_front f)) ≡ next
      → end_of (closing_text (Conv c) (trimmed_front f)) end ≡ column_end c f)
      → Answers (Conv c) (stage_of f) n piece (record { before = before; item = text; phase = phase.Column next new; ends = Some end })
  full_column n end some full texts ends =
      let size = takes.left ∙ ap column_width (same ∙ sym own) in
      column_answers c column proper f piece n before text within fits front (phase.Column next new) (Some end) (own_slot next texts)
      (some_taken some) (λ e. absurd cc) (omega (arith, size, full), ends bytes (own ∙ sym same) column takes slot_is)
    where
      own_slot : (o : Option ℕ) → IfSome o (λ n. text_slot (Conv c) ≡ Some n) → (slot : ℕ) → o ≡ Some slot → text_slot (Conv c) ≡ Some slot
      own_slot o h slot e = subst (λ (o : Option ℕ). IfSome o (λ n. text_slot (Conv c) ≡ Some n)) e h

-- a column that has more bytes left takes one more
pub shown_column_waits : (c : Conversion) (slot : Option ℕ) (scan : ColumnScan) (q : Stage) → ShowsColumn (Conv c) slot scan q
    → (column_left scan ≡ 0 → ⊥) → is_full (Conv c) q ≡ false
shown_column_waits c slot scan q shows more =
    let own : c ≡ conversion_of scan = conv_is c (conversion_of scan) shows.own in
    let size : column_left scan + length shows.column ≡ column_width c = shows.taken.left ∙ ap column_width (sym own) in
    let some : 0 < column_left scan = elim (eq-zero-or-pos (column_left scan)) [ inl zero ↦ absurd (more zero) | inr some ↦ some ] in
    ap (is_full (Conv c)) (shows.stage ∙ sym (stage_begun shows.column shows.begun))
    ∙ column_waits c shows.placed shows.column (omega (arith, size, some))

-- ---- what it does to the text under way

-- the width is at least what an item may have
most_first : (shape : Shape) (width : Option ℕ) (left n : ℕ) → left + n ≤ unwrap_or width 1 → HasLeftAtMost (most_bytes shape width) left n
most_first shape width left n low = grind arith

first_left : (c : Conversion) (scan : ColumnScan) (p : Phase) (n : ℕ) → column_left scan ≡ column_width c → is_in_column p ≡ true
    → FallsBy (Some (column_left scan)) p n → LeftAfterAll (Conv c) phase.Skipping p n
first_left c scan phase.Skipping n width column falls = tt
first_left c scan (phase.Item s) n width column falls = tt
first_left c scan (phase.Text slot s) n width column falls = absurd cc
first_left c scan (phase.Column slot s) n width column falls = most_first c.shape c.width (column_left s) n (omega (arith, width, falls))

-- a column that begins fits its directive
pub suits_first : (c : Conversion) (scan : ColumnScan) (piece : List ℕ) (run : Run) → column_left scan ≡ column_width c
    → run.before + run.item ≤ length piece → (run.ends ≡ None → run.before + run.item ≡ length piece)
    → (run.ends ≡ None → (q : Stage) → Shows (Conv c) run.phase q → is_full (Conv c) q ≡ false)
    → IsNextSlot (text_slot (Conv c)) None (slot_in run.phase) → is_in_column run.phase ≡ true
    → FallsBy (Some (column_left scan)) run.phase run.item → IfSome run.ends (IsEnd (Conv c) run.phase)
    → Suits (Conv c) phase.Skipping piece run
suits_first c scan piece run width within all more slot column falls end = record {
  within = within;
  all = all;
  more = λ none q proper. more none q;
  slot = slot;
  left = first_left c scan run.phase run.item width column falls;
  end = end;
}
