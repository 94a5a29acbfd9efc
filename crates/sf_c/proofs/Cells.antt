-- Cells of a row, one more.
use Rattle.std.proofs.Common.{◌≡◌, ◌∙◌, ◌≤◌, ◌<◌, ◌+◌, ◌-◌, ℕ, zero, suc, List, [], ◌∷◌, ◌++◌, length, take, drop, Option, Some, None}
use Rattle.std.proofs.Common.{sym, ap, subst}
use Rattle.std.proofs.Common.{refl, add-one, add-suc, add-zero, append-nil, append_assoc, arith, length-append, length-drop}
use Rattle.std.proofs.Math.Seq.{drop-append_seam, take-length}
use Rattle.std.proofs.lemmas.List.{drop-append-le, drop-drop, length-take-le, take-append-drop, take-append-le}
use Rattle.sf_base.specs.Data.{Datum, Number, Bytes, Real, Assigned, datum_at}
use Rattle.sf_format.specs.declared.directive.Directive.{Directive}
use Rattle.sf_format.specs.Proper.{kind_at}
use Rattle.sf_run.specs.Runs.{RunReport}
use Rattle.sf_c.specs.declared.values.SfValue.{SfValue}
use Rattle.sf_c.specs.Records.{AreRows}
use Rattle.sf_c.specs.Values.{AreCells, Has, HasText, Holds, IsCell, IsRow, text_given, texts_to}

-- a text stays where more bytes follow
text_longer : (texts more text : List ℕ) (cell : SfValue) → HasText texts text cell → HasText (texts ++ more) text cell
text_longer texts more text cell h = record {
  kind_is = h.kind_is;
  len_is = h.len_is;
  within = omega (arith, h.within, length-append texts more);
  there =
      ap (take cell.len) (drop-append-le cell.bits texts more (omega (arith, h.within)))
      ∙ take-append-le cell.len (drop cell.bits texts) more (omega (arith, h.within, length-drop cell.bits texts)) ∙ h.there;
}

has_longer : (texts more : List ℕ) (datum : Datum) (cell : SfValue) → Has texts datum cell → Has (texts ++ more) datum cell
has_longer texts more (Number kind n) cell h = h
has_longer texts more (Bytes text) cell h = text_longer texts more text cell h
has_longer texts more (Real real) cell h = h

holds_longer : (texts more : List ℕ) (given : Option Datum) (cell : SfValue) → Holds texts given cell → Holds (texts ++ more) given cell
holds_longer texts more None cell h = h
holds_longer texts more (Some datum) cell h = has_longer texts more datum cell h

-- cells stay where more bytes follow the texts
pub cells_longer : (texts more : List ℕ) (ds : List Directive) (values : List Assigned) (slot : ℕ) (cells : List SfValue)
    → AreCells texts ds values slot cells → AreCells (texts ++ more) ds values slot cells
cells_longer texts more ds values slot [] h = tt
cells_longer texts more ds values slot (cell ∷ cells) (is, rest) = (
  record { slot_is = is.slot_is; holds = holds_longer texts more (datum_at slot values) cell is.holds },
  cells_longer texts more ds values (slot + 1) cells rest,
)

-- the cells and the one of the next slot
pub cells_more : (texts : List ℕ) (ds : List Directive) (values : List Assigned) (slot next : ℕ) (cells : List SfValue) (cell : SfValue)
    → next ≡ slot + length cells → AreCells texts ds values slot cells → IsCell texts (kind_at next ds) (datum_at next values) cell
    → AreCells texts ds values slot (cells ++ cell ∷ [])
cells_more texts ds values slot next [] cell at h is =
    let e : next ≡ slot = omega (arith, at) in
    (subst (λ (s : ℕ). IsCell texts (kind_at s ds) (datum_at s values) cell) e is, tt)
cells_more texts ds values slot next (first ∷ cells) cell at (this, rest) is =
    (this, cells_more texts ds values (slot + 1) next cells cell (omega (arith, at)) rest is)

texts_grow : (m k : ℕ) (values : List Assigned) → length (texts_to m values) ≤ length (texts_to (m + k) values)
texts_grow m zero values = rw add-zero (omega arith)
texts_grow m (suc k) values =
    rw add-suc (omega (arith, texts_grow m k values, length-append (texts_to (m + k) values) (text_given (datum_at (suc (m + k)) values))))

-- the texts of fewer slots have no more bytes
pub texts_fewer : (m n : ℕ) (values : List Assigned) → m ≤ n → length (texts_to m values) ≤ length (texts_to n values)
texts_fewer m n values few =
    let e : m + (n - m) ≡ n = omega (arith, few) in
    subst (λ (k : ℕ). length (texts_to m values) ≤ length (texts_to k values)) e (texts_grow m (n - m) values)

-- rows stay where more bytes follow the texts
pub rows_longer : (texts more : List ℕ) (ds : List Directive) (reports : List RunReport) (cells : List SfValue)
    → AreRows texts ds reports cells → AreRows (texts ++ more) ds reports cells
rows_longer texts more ds [] cells h = h
rows_longer texts more ds (report ∷ reports) cells (row, rest, e, is, others) = (
  row,
  rest,
  e,
  record { count = is.count; cells = cells_longer texts more ds report.values 1 row is.cells },
  rows_longer texts more ds reports rest others,
)

-- the rows and one more
pub rows_more : (texts : List ℕ) (ds : List Directive) (reports : List RunReport) (report : RunReport) (cells row : List SfValue)
    → AreRows texts ds reports cells → IsRow texts ds report.values row → AreRows texts ds (reports ++ report ∷ []) (cells ++ row)
rows_more texts ds [] report cells row none is = (
  row,
  [],
  ap (λ (c : List SfValue). c ++ row) none ∙ sym (append-nil row),
  is,
  refl,
)
rows_more texts ds (first ∷ reports) report cells row (this, rest, e, first_is, others) is = (
  this,
  rest ++ row,
  ap (λ (c : List SfValue). c ++ row) e ∙ append_assoc this rest row,
  first_is,
  rows_more texts ds reports report rest row others is,
)

-- the texts of one slot more
pub texts_next : (n : ℕ) (values : List Assigned)
    → length (texts_to (n + 1) values) ≡ length (texts_to n values) + length (text_given (datum_at (n + 1) values))
texts_next n values = rw add-one (length-append (texts_to n values) (text_given (datum_at (suc n) values)))

-- where a text has no room, the texts have none
pub texts_over : (i slots room len more : ℕ) (values : List Assigned) → i < slots → len ≡ length (texts_to i values)
    → more ≡ length (text_given (datum_at (i + 1) values)) → room - len < more → len ≤ room → length (texts_to slots values) ≤ room → ⊥
texts_over i slots room len more values below len_is more_is over few fits =
    omega (arith, below, len_is, more_is, over, few, fits, texts_next i values, texts_fewer (i + 1) slots values (omega (arith, below)))

-- a text of one slot has room where all texts have it
pub text_fits : (i slots : ℕ) (values : List Assigned) (more from filled room : ℕ) → i < slots → filled ≡ from + length (texts_to i values)
    → more ≡ length (text_given (datum_at (i + 1) values)) → from + length (texts_to slots values) ≤ room → filled + more ≤ room
text_fits i slots values more from filled room below filled_is more_is fits =
    omega (arith, below, filled_is, more_is, fits, texts_next i values, texts_fewer (i + 1) slots values (omega (arith, below)))

-- and is no longer than they are
pub text_short : (i slots : ℕ) (values : List Assigned) → i < slots
    → length (text_given (datum_at (i + 1) values)) ≤ length (texts_to slots values)
text_short i slots values below =
    omega (arith, below, texts_next i values, texts_fewer (i + 1) slots values (omega (arith, below)))

pub texts_step : (n : ℕ) (values : List Assigned) → texts_to n values ++ text_given (datum_at (n + 1) values) ≡ texts_to (n + 1) values
texts_step n values = rw add-one refl

-- a text stands where it was laid down
pub placed : (texts text : List ℕ) (n : ℕ) → n ≤ length texts → take (length text) (drop n (take n texts ++ text)) ≡ text
placed texts text n few =
    subst (λ (k : ℕ). take (length text) (drop k (take n texts ++ text)) ≡ text) (length-take-le n texts few)
    (ap (take (length text)) (drop-append_seam (take n texts) text) ∙ take-length text)

-- what is the same from a place on is the same from a later one on
pub dropped_more : (k n : ℕ) (xs ys : List ℕ) → k ≤ n → drop k xs ≡ drop k ys → drop n xs ≡ drop n ys
dropped_more k n xs ys few same =
    let e : k + (n - k) ≡ n = omega (arith, few) in
    subst (λ (m : ℕ). drop m xs ≡ drop m ys) e
    (sym (drop-drop (n - k) k xs) ∙ ap (drop (n - k)) same ∙ drop-drop (n - k) k ys)

-- the row of the first bytes is one of all
pub row_whole : (k : ℕ) (texts : List ℕ) (ds : List Directive) (values : List Assigned) (row : List SfValue)
    → IsRow (take k texts) ds values row → IsRow texts ds values row
row_whole k texts ds values row h = record {
  count = h.count;
  cells = subst (λ (t : List ℕ). AreCells t ds values 1 row) (take-append-drop k texts)
      (cells_longer (take k texts) (drop k texts) ds values 1 row h.cells);
}
