-- What a directive makes of a piece of the input.
use Rattle.std.specs.Prelude.{◌≡◌, ℕ, ◌+◌, ◌<◌, ◌≤◌, Bool, true, false, List, ◌++◌, length, take, drop, get_or}
use Rattle.std.specs.Prelude.{Option, Some, None, IfSome}
use Rattle.sf_format.specs.declared.directive.Numeral.{Numeral}
use Rattle.sf_format.specs.declared.directive.Conversion.{Conversion}
use Rattle.sf_format.specs.declared.directive.Shape.{Shape}
use Rattle.sf_format.specs.declared.directive.Shape.TheVariants.{Count, Float, Int, Set}
use Rattle.sf_format.specs.declared.directive.Directive.{Directive}
use Rattle.sf_format.specs.declared.directive.Directive.TheVariants.{Conv}
use Rattle.sf_format.specs.declared.layout.Row.{Row}
use Rattle.sf_format.specs.Layout.{most_of}
use Rattle.sf_format.specs.Proper.{IsProper}
use Rattle.sf_item.specs.declared.whole.WholeInteger.{WholeInteger}
use Rattle.sf_item.specs.Wholes.{EndsWithin, ItemWithin}
use Rattle.sf_run.specs.declared.directive.Ended.{Ended}
use Rattle.sf_run.specs.declared.directive.EndedColumn.{EndedColumn}
use Rattle.sf_run.specs.declared.directive.Finished.{Finished}
use Rattle.sf_run.specs.declared.directive.Phase.{Phase}
use Rattle.sf_run.specs.declared.directive.Phase.TheVariants as phase
use Rattle.sf_run.specs.declared.directive.Run.{Run}
use Rattle.sf_run.specs.Holding.{LeftAfterAll}
use Rattle.sf_report.specs.Machine.{Stage, Skipping, Item, finished, is_full}
use Rattle.sf_run.specs.Phases.{Brings, IsNumberGiven, Shows, end_of, is_failing, is_missing, is_memory_failure, slot_closed, slot_given}
use Rattle.sf_run.specs.Phases.{slot_in}
use Rattle.sf_report.specs.Residual.{one_from}
use Rattle.sf_report.specs.Steps.{StepEnd}
use Rattle.sf_run.specs.Texts.{IsNextSlot, IsSound, StoresByte, closing_text, item_of, slot_of, taken_at, text_slot}

-- From this stage, n bytes into the run, the directive takes so many bytes of the piece and no more, however the piece goes on, and ends
-- so.
pub record EndsIn (d : Directive) (q : Stage) (n : ℕ) (piece : List ℕ) (taken : ℕ) (end : StepEnd) : Type 0 where
  pub within : taken ≤ length piece
  pub takes : (z : List ℕ) → one_from d q n (piece ++ z) ≡ record { used = n + taken; left = drop taken piece ++ z; end = end }

abbrev pub AnswersBy : Option Finished → Directive → Stage → ℕ → List ℕ → Run → Type 0
AnswersBy None d q n piece run = Brings d q piece (take run.item (drop run.before piece)) run.phase
AnswersBy (Some end) d q n piece run = EndsIn d q n piece (run.before + run.item)
    (end_of (closing_text d (item_of d q ++ take run.item (drop run.before piece))) end)

-- The answer is what the directive, which stands at this stage n bytes into the run, makes of the piece.
pub record Answers (d : Directive) (q : Stage) (n : ℕ) (piece : List ℕ) (run : Run) : Type 0 where
  pub goes : AnswersBy run.ends d q n piece run
  pub stores : (slot j : ℕ) → slot_in run.phase ≡ Some slot → j < run.item
      → StoresByte d (taken_at q ++ take (run.before + j) piece) (get_or piece (run.before + j) 0)

-- the directive, which has come so far, may end so: it closes the text that is under way, and gives its own slot something
pub record IsEnd (d : Directive) (current : Phase) (end : Finished) : Type 0 where
  pub text : is_failing end ≡ false → slot_in current ≡ slot_closed end
  pub given : is_failing end ≡ false → is_missing end ≡ false → slot_given end ≡ slot_of d
  pub number : IsNumberGiven end
  pub memory : is_memory_failure end ≡ false

-- Whatever its stage, the answer fits a directive that has come so far: it uses the piece up where it waits, and would then take one byte
-- more; the text under way goes on.
pub record Suits (d : Directive) (current : Phase) (piece : List ℕ) (run : Run) : Type 0 where
  pub within : run.before + run.item ≤ length piece
  pub all : run.ends ≡ None → run.before + run.item ≡ length piece
  pub more : run.ends ≡ None → (q : Stage) → IsProper d → Shows d run.phase q → is_full d q ≡ false
  pub slot : IsNextSlot (text_slot d) (slot_in current) (slot_in run.phase)
  pub left : LeftAfterAll d current run.phase run.item
  pub end : IfSome run.ends (IsEnd d run.phase)

-- at this stage the directive takes nothing of the rest, however that goes on
abbrev pub StaysAt : Directive → Stage → List ℕ → Type 0
StaysAt d q rest = (n : ℕ) (z : List ℕ) → one_from d q n (rest ++ z) ≡ record { used = n; left = rest ++ z; end = finished d q n true }

-- after the item f it takes nothing of the rest, however that goes on, and ends so
abbrev pub EndsAt : Directive → List ℕ → List ℕ → Finished → Type 0
EndsAt d f rest end = (n : ℕ) (z : List ℕ) → one_from d (Item f) n (rest ++ z) ≡ record { used = n; left = rest ++ z; end = end_of f end }

-- an integer that ends before a byte of the piece is the item of each conversion with this shape and width
pub record IsWhole (shape : Shape) (width : Option ℕ) (piece : List ℕ) (whole : WholeInteger) : Type 0 where
  pub numeral : Numeral
  pub is : shape ≡ Int numeral
  pub ends : EndsWithin numeral width piece whole

-- ---- directives that end within the piece

-- the answer on the piece is that the directive ends so
pub record IsEndOf (d : Directive) (piece : List ℕ) (e : EndedColumn) (run : Run) : Type 0 where
  pub before : e.ended.before ≡ run.before
  pub all : e.ended.item + e.after ≡ run.item
  pub text : take e.ended.item (drop e.ended.before piece) ≡ closing_text d (take run.item (drop run.before piece))
  pub finished : run.ends ≡ Some e.ended.finished

-- as an answer
abbrev pub run_of : Ended → Run
run_of e = record { before = e.before; item = e.item; phase = phase.Skipping; ends = Some e.finished }

-- Such an end fits the directive: it stays within the piece, and gives the directive's own slot something.
pub record IsEndIn (d : Directive) (piece : List ℕ) (e : Ended) : Type 0 where
  pub within : e.before + e.item ≤ length piece
  pub given : is_failing e.finished ≡ false → is_missing e.finished ≡ false → slot_given e.finished ≡ slot_of d
  pub number : IsNumberGiven e.finished
  pub memory : is_memory_failure e.finished ≡ false

-- The directive, which took nothing yet, n bytes into the run, ends so within the piece, whatever follows that.
pub record EndsAtOnce (d : Directive) (n : ℕ) (piece : List ℕ) (e : Ended) : Type 0 where
  pub ends : IsSound d → EndsIn d Skipping n piece (e.before + e.item) (end_of (take e.item (drop e.before piece)) e.finished)
  pub fits : IsEndIn d piece e

-- the same, where bytes that are no part of its item may follow that
pub record EndsWithAll (d : Directive) (n : ℕ) (piece : List ℕ) (e : EndedColumn) : Type 0 where
  pub ends : IsSound d → EndsIn d Skipping n piece (e.ended.before + e.ended.item + e.after)
      (end_of (take e.ended.item (drop e.ended.before piece)) e.ended.finished)
  pub within : e.ended.before + e.ended.item + e.after ≤ length piece
  pub fits : IsEndIn d piece e.ended

-- it is the row of this conversion of an integer so written, as far as its numbers go
pub record IsNumberRow (row : Row) (numeral : Numeral) (c : Conversion) : Type 0 where
  pub plain : c.column ≡ false
  pub shape : c.shape ≡ Int numeral
  pub kind : c.kind ≡ row.kind
  pub slot : c.slot ≡ row.slot
  pub width : row.width ≡ most_of c.width

-- the shape is that of an item that is stored as it stands
abbrev pub IsTextShape : Shape → Type 0
IsTextShape (Int numeral) = ⊥
IsTextShape Count = ⊥
IsTextShape (Float lead) = ⊥
IsTextShape _ = Unit {0}

-- it is the row of this conversion, whose item is stored as it stands
pub record IsTextRow (row : Row) (c : Conversion) : Type 0 where
  pub plain : c.column ≡ false
  pub shape : IsTextShape c.shape
  pub slot : c.slot ≡ row.slot
  pub width : row.width ≡ most_of c.width

-- the directive is a conversion by a set, and has an item of n bytes that ends within the piece, where its width
-- allows so many bytes at most
pub record IsSetItem (d : Directive) (most : ℕ) (piece : List ℕ) (n : ℕ) : Type 0 where
  pub conversion : Conversion
  pub members : List Bool
  pub is : d ≡ Conv conversion
  pub shape : conversion.shape ≡ Set members
  pub item : (width : Option ℕ) → most ≡ most_of width → ItemWithin (Set members) width piece n
