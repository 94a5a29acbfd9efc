-- Lines that are taken where they stand.
use Rattle.std.proofs.Common.{◌≡◌, ◌∙◌, ◌≤◌, ◌<◌, ◌+◌, ◌-◌, ◌==◌, ℕ, zero, suc, List, [], ◌∷◌, ◌++◌, Bool, true, false, not, cond}
use Rattle.std.proofs.Common.{length, take, drop, get_or, Option, inl, inr}
use Rattle.std.proofs.Common.{true≢false, refl, sym, ap, subst, arith, append-nil, length-append}
use Rattle.std.proofs.Math.Nat.{eq-or-lt_of_le}
use Rattle.std.proofs.lemmas.Bool.{eqb-true}
use Rattle.std.proofs.lemmas.List.{get_or_append_left, get_or-append_right, take-append-drop, length-take-le}
use Rattle.std.specs.List.{prefix_len}
use Rattle.sf_base.specs.declared.values.Kind.{Kind}
use Rattle.sf_base.specs.Bytes.{is_other}
use Rattle.sf_format.specs.declared.directive.Directive.{Directive}
use Rattle.sf_format.specs.Proper.{AreProper}
use Rattle.sf_run.specs.outcome.Ending.{Ending}
use Rattle.sf_run.specs.outcome.Ending.TheVariants.{End}
use Rattle.sf_run.specs.outcome.Status.TheVariants.{Done}
use Rattle.sf_run.specs.Laws.{EachDoneRunStays}
use Rattle.sf_run.specs.Limits.{RunWithin}
use Rattle.sf_run.specs.Runs.{RunReport}
use Rattle.sf_c.specs.declared.records.SfDone.{SfDone}
use Rattle.sf_c.specs.declared.values.SfValue.{SfValue}
use Rattle.sf_c.specs.Formats.{kinds_to}
use Rattle.sf_c.specs.Lines.{AreAt, IsBehind, IsTextless, IsTextlessLine}
use Rattle.sf_c.specs.Numbers.{slot_number}
use Rattle.sf_c.specs.Scans.{slots_in}
use Rattle.sf_read.specs.line.Reading.{IsHeld}
use Rattle.sf_c.proofs.Cells.{rows_more}
use Rattle.sf_c.proofs.Runs.{records_more}

-- so many kinds
pub count_kinds : (n : ℕ) (kind : ℕ → Option Kind) → length (kinds_to n kind) ≡ n
count_kinds zero kind = refl
count_kinds (suc n) kind =
    omega (arith, length-append (kinds_to n kind) (slot_number (kind (suc n)) ∷ []), count_kinds n kind)

-- the kind of each slot stands at its place
pub kind_there : (n i d : ℕ) (kind : ℕ → Option Kind) → i < n → get_or (kinds_to n kind) i d ≡ slot_number (kind (i + 1))
kind_there zero i d kind below = absurd (omega (arith, below))
kind_there (suc n) i d kind below =
    let last : List ℕ = slot_number (kind (suc n)) ∷ [] in
    let at : i ≤ n = omega (arith, below) in
    elim (eq-or-lt_of_le at) [
      | inl same ↦ get_or-append_right (kinds_to n kind) last n i d (count_kinds n kind) (omega (arith, same))
          ∙ ap (λ k. get_or last k d) (let e : i - n ≡ 0 = omega (arith, same) in e)
          ∙ ap (λ k. slot_number (kind k)) (let e : suc n ≡ i + 1 = omega (arith, same) in e)
      | inr less ↦ get_or_append_left (kinds_to n kind) last d i (omega (arith, less, count_kinds n kind))
          ∙ kind_there n i d kind less
    ]

-- a line with one byte more before it
held_more : (x : ℕ) (xs : List ℕ) (n : ℕ) → (x == 10) ≡ false → IsHeld xs n → IsHeld (x ∷ xs) (suc n)
held_more x xs n other rest =
    let e : suc (n + 1) ≡ suc n + 1 = omega arith in
    let within = rest.within in
    record {
      within = omega (arith, within);
      is_line = (other, rest.is_line);
      ended = ap (λ (ys : List ℕ). x ∷ ys) rest.ended ∙ ap (λ (k : ℕ). x ∷ (take n xs ++ 10 ∷ drop k (x ∷ xs))) e;
    }

-- the bytes before the first newline are the line
pub held_front : (xs : List ℕ) → prefix_len (is_other 10) xs < length xs → IsHeld xs (prefix_len (is_other 10) xs)
held_front [] below = absurd (omega (arith, below))
held_front (x ∷ xs) below = go (x == 10) refl below (held_front xs)
  where
    go : (b : Bool) → (x == 10) ≡ b → cond (not b) (1 + prefix_len (is_other 10) xs) 0 < length (x ∷ xs)
        → (prefix_len (is_other 10) xs < length xs → IsHeld xs (prefix_len (is_other 10) xs))
        → IsHeld (x ∷ xs) (cond (not b) (1 + prefix_len (is_other 10) xs) 0)
    go true is below rest = record {
      within = omega arith;
      is_line = tt;
      ended = ap (λ (b : ℕ). b ∷ xs) (eqb-true x 10 is);
    }
    go false is below rest =
        let n : ℕ = prefix_len (is_other 10) xs in
        let e : suc n ≡ 1 + n = omega arith in
        subst (IsHeld (x ∷ xs)) e (held_more x xs n is (rest (omega (arith, below))))

-- A run over a text that is Done within the text's first line makes a record of that line.
pub line_taken : (ds : List Directive) → AreProper ds → (limit : ℕ) (text : List ℕ) (len : ℕ) (report : RunReport) (row : List SfValue)
    → EachDoneRunStays → ((z : List ℕ) (ending : Ending) → RunWithin ds limit (text ++ z) ending report) → report.status ≡ Done
    → len ≡ prefix_len (is_other 10) text → len < length text → report.used ≤ len → len ≤ limit → IsTextless ds report.values row
    → IsTextlessLine ds limit text (len + 1) row
line_taken ds proper limit text len report row stays run done is below used short cells =
    let line : List ℕ = take len text in
    let whole : text ++ [] ≡ line ++ drop len text = append-nil text ∙ sym (take-append-drop len text) in
    let size : length line ≡ len = length-take-le len text (omega (arith, below)) in
    let own = stays ds proper limit line (drop len text) End End report (subst (λ x. RunWithin ds limit x End report) whole (run [] End))
    done
    (omega (arith, used, size)) in
    record {
      report = record report { met = own.0 };
      run = (
        len,
        inl (subst (IsHeld text) (sym is) (held_front text (omega (arith, is, below))), refl),
        short,
        inl own.1,
      );
      done = done;
      cells = cells;
      some = omega arith;
      within = omega (arith, below);
    }

-- nothing was taken, and no cell before the place has changed
pub stays_at : (lines : Bool) (ds : List Directive) (limit : ℕ) (text : List ℕ) (done : SfDone) (old new : List SfValue) (texts : List ℕ)
    (at : ℕ) → take at new ≡ take at old → AreAt lines ds limit text done old texts at → AreAt lines ds limit text done new texts at
stays_at lines ds limit text done old new texts at same (s, count) = (
  record {
    reports = s.reports;
    are = s.are;
    count = s.count;
    cells = s.cells;
    laid = ap (λ n. take n new) count ∙ same ∙ ap (λ n. take n old) (sym count) ∙ s.laid;
    rows = s.rows;
  },
  count,
)

-- the record of one line more
pub line_more : (lines : Bool) (ds : List Directive) (limit : ℕ) (text : List ℕ) (done : SfDone) (old new : List SfValue) (texts : List ℕ)
    (at slots size : ℕ) (row : List SfValue) → lines ≡ true → slots ≡ slots_in ds → IsTextlessLine ds limit (drop done.used text) size row
    → IsBehind at old new row → AreAt lines ds limit text done old texts at
    → AreAt lines ds limit text (record done { records = done.records + 1; used = done.used + size }) new texts (at + slots)
line_more false ds limit text done old new texts at slots size row is slots_are line behind before = absurd (true≢false (sym is))
line_more true ds limit text done old new texts at slots size row is slots_are line behind (s, count) =
    let wide : length row ≡ slots = (line.cells []).count ∙ sym slots_are in
    let all : length (s.cells ++ row) ≡ at + length row = omega (arith, length-append s.cells row, count) in (
      record {
        reports = s.reports ++ line.report ∷ [];
        are = records_more true ds limit text s.reports line.report done.used size s.are line.run line.done;
        count = omega (arith, s.count, length-append s.reports (line.report ∷ []));
        cells = s.cells ++ row;
        laid = ap (λ n. take n new) all ∙ behind ∙ ap (λ x. x ++ row) (ap (λ n. take n old) (sym count) ∙ s.laid);
        rows = rows_more (take done.filled texts) ds s.reports line.report s.cells row s.rows (line.cells (take done.filled texts));
      },
      omega (arith, all, wide),
    )
