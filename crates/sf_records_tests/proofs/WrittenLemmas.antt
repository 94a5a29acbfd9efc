-- What loops over slices wrote, by the laws, with texts in the place of what sinks show.
use Rattle.std.proofs.Common.{◌≡◌, ℕ, suc, Bool, true, false, List, [], ◌∷◌, ◌++◌, codes, get_or, length, map, pos, Fits, w8}
use Rattle.std.proofs.Common.{Option, Some, None, Result, Ok, Err, ◌⊎◌, inl, inr, refl, sym, ap, subst, ◌∙◌, arith}
use Rattle.std.proofs.Common.{append_assoc, true≢false}
use Rattle.std.specs.List.{AllByRecursion, count_by, join_with_byte}
use Rattle.std.specs.Prelude.{is_err, take}
use Rattle.sf_forms.specs.declared.makers.maker.Unwritten.{Unwritten}
use Rattle.sf_forms.specs.makers.Works.{Writes}
use Rattle.sf_read.specs.line.Cut.{lines_by}
use Rattle.sf_read.specs.source.Ahead.{Ahead}
use Rattle.sf_base.specs.Bytes.{AreBytes}
use Rattle.sf_base.specs.Data.{Datum, Number}
use Rattle.sf_base.specs.declared.values.Kind.TheVariants.{U64}
use Rattle.sf_format.specs.declared.directive.Directive.{Directive}
use Rattle.sf_format.specs.Proper.{destinations_of}
use Rattle.sf_forms.specs.declared.form.OutputForm.TheVariants.{Csv, Json}
use Rattle.sf_forms.specs.Csv.{csv_rows}
use Rattle.sf_forms.specs.Heads.{Heading, header_text}
use Rattle.sf_forms.specs.JsonReading.{element_given, json_objects, json_rows}
use Rattle.sf_forms.specs.ReadingBack.{text_given, with_names}
use Rattle.sf_run.specs.outcome.Ending.{Ending}
use Rattle.sf_run.specs.outcome.Ending.TheVariants as endings
use Rattle.sf_records.specs.declared.end.ToolEnd.{ToolEnd}
use Rattle.sf_records.specs.Judging.{is_write}
use Rattle.sf_records.specs.ReadingBack.{ReadsAsRows, records_of}
use Rattle.sf_records.specs.by_lines.Loops as lines
use Rattle.sf_records.specs.by_lines.Loops.{AllGoOn, AreTaken, Concludes, IsCutShort, Loops, is_written, lines_for, texts}
use Rattle.sf_records.specs.declared.by_lines.end.LinesEnd.{LinesEnd}
use Rattle.sf_records.specs.by_lines.ReadingBack.{LineRow, LinesReadAsRows}
use Rattle.sf_records.specs.by_lines.Turns.{LineWork, Turn}

-- what a slice holds is bytes
pub are_bytes : (text : List ℕ) → ((k : ℕ) → Fits w8 (get_or text k 0)) → AreBytes text
are_bytes [] fits = tt
are_bytes (b ∷ text) fits = ((fits 0).fits, are_bytes text (λ k. fits (suc k)))

pub same_rows : {A : Type 0} (rows : List A) → map (λ row. row) rows ≡ rows
same_rows [] = refl
same_rows {A} (row ∷ rows) = ap (λ (rest : List A). row ∷ rest) (same_rows rows)

pub mapped_length : {A B : Type 0} (f : A → B) (xs : List A) → length (map f xs) ≡ length xs
mapped_length f [] = refl
mapped_length f (x ∷ xs) = ap suc (mapped_length f xs)

mapped_twice : {A B C : Type 0} (f : A → B) (g : B → C) (xs : List A) → map g (map f xs) ≡ map (λ x. g (f x)) xs
mapped_twice f g [] = refl
mapped_twice {A} {B} {C} f g (x ∷ xs) = ap (λ (rest : List C). g (f x) ∷ rest) (mapped_twice f g xs)

-- ---- under names

-- a first column with the number of the format, and these names after it
abbrev pub numbered : List (List ℕ) → Heading
numbered names = record { form = Csv; names = Some names; tagged = true }

abbrev pub tagged_first : List (Option Datum) → List (Option Datum)
tagged_first row = Some (Number U64 (pos 1)) ∷ row

pub record NamedRead (names : List (List ℕ)) (after : List ℕ) (answer : ToolEnd) : Type 0 where
  pub rows : List (List (Option Datum))
  pub records : List ℕ
  pub part : List ℕ
  pub text : after ≡ records ++ part
  pub whole : is_write answer.fault ≡ false → part ≡ []
  pub count : length rows ≡ answer.records
  pub read : csv_rows records ≡ Some ((codes "format" ∷ names) ∷ map (λ row. map text_given (tagged_first row)) rows)

word_bytes : AreBytes (codes "format")
word_bytes = (omega arith, (omega arith, (omega arith, (omega arith, (omega arith, (omega arith, tt))))))

named_rows : (names : List (List ℕ)) (ds : List Directive) (m : ℕ) (x : List ℕ) (ending : Ending) (text : List ℕ) (answer : ToolEnd)
    → ReadsAsRows (numbered names) ds m x ending text answer → AllByRecursion AreBytes names
    → (before after : List ℕ) → before ≡ header_text (numbered names) → after ≡ before ++ text → NamedRead names after answer
named_rows names ds m x ending text answer back bytes before after head is =
    let records = records_of Csv (Some (codes "format" ∷ names)) back.columns in
    record {
      rows = back.rows;
      records = header_text (numbered names) ++ records;
      part = back.part;
      text = is ∙ ap (λ (t : List ℕ). t ++ text) head ∙ ap (λ (t : List ℕ). header_text (numbered names) ++ t) back.text_is
          ∙ sym (append_assoc (header_text (numbered names)) records back.part);
      whole = back.whole;
      count = back.count;
      read = back.reads (word_bytes, bytes)
          ∙ ap (λ (rows : List (List (Option Datum))). Some ((codes "format" ∷ names) ∷ map (map text_given) rows)) back.columns_are
          ∙ ap (λ (rows : List (List (List ℕ))). Some ((codes "format" ∷ names) ∷ rows))
          (mapped_twice tagged_first (map text_given) back.rows);
    }

pub named_read : (h : Heading) (names : List (List ℕ)) → h ≡ numbered names → (ds : List Directive) (m : ℕ) (x : List ℕ) (ending : Ending)
    (text : List ℕ) (answer : ToolEnd) → ReadsAsRows h ds m x ending text answer → AllByRecursion AreBytes names
    → (before after : List ℕ) → before ≡ header_text h → after ≡ before ++ text → NamedRead names after answer
named_read h names is ds m x ending text answer back bytes before after head all =
    named_rows names ds m x ending text answer (subst (λ (k : Heading). ReadsAsRows k ds m x ending text answer) is back) bytes before after
    (head ∙ ap header_text is) all

-- ---- objects

abbrev pub as_objects : List (List ℕ) → Heading
as_objects names = record { form = Json; names = Some names; tagged = false }

pub record ObjectsRead (names : List (List ℕ)) (text : List ℕ) (answer : ToolEnd) : Type 0 where
  pub rows : List (List (Option Datum))
  pub records : List ℕ
  pub part : List ℕ
  pub text_is : text ≡ records ++ part
  pub whole : is_write answer.fault ≡ false → part ≡ []
  pub count : length rows ≡ answer.records
  pub read : json_objects records ≡ Some (map (λ row. with_names names (map element_given row)) rows)

longer : (n k : ℕ) (rows : List (List (Option Datum))) → n ≡ k → AllByRecursion (λ row. length row ≡ n) rows
    → AllByRecursion (λ row. length row ≡ k) rows
longer n k [] e are = tt
longer n k (row ∷ rows) e are = (are.0 ∙ e, longer n k rows e are.1)

object_rows : (names : List (List ℕ)) (ds : List Directive) (m : ℕ) (x : List ℕ) (ending : Ending) (text : List ℕ) (answer : ToolEnd)
    → ReadsAsRows (as_objects names) ds m x ending text answer → AllByRecursion AreBytes names
    → length (destinations_of ds) ≡ length names → ObjectsRead names text answer
object_rows names ds m x ending text answer back bytes even =
    let same : back.columns ≡ back.rows = back.columns_are ∙ same_rows back.rows in
    record {
      rows = back.columns;
      records = records_of Json (Some names) back.columns;
      part = back.part;
      text_is = back.text_is;
      whole = back.whole;
      count = ap (λ (rows : List (List (Option Datum))). length rows) same ∙ back.count;
      read = back.reads bytes (subst (AllByRecursion (λ row. length row ≡ length names)) (sym same)
          (longer (length (destinations_of ds)) (length names) back.rows even back.lengths));
    }

pub objects_read : (h : Heading) (names : List (List ℕ)) → h ≡ as_objects names → (ds : List Directive) (m : ℕ) (x : List ℕ)
    (ending : Ending) (text : List ℕ) (answer : ToolEnd) → ReadsAsRows h ds m x ending text answer → AllByRecursion AreBytes names
    → length (destinations_of ds) ≡ length names → (before after : List ℕ) → before ≡ [] → after ≡ before ++ text
    → ObjectsRead names after answer
objects_read h names is ds m x ending text answer back bytes even before after empty all =
    subst (λ (t : List ℕ). ObjectsRead names t answer) (sym (all ∙ ap (λ (b : List ℕ). b ++ text) empty))
    (object_rows names ds m x ending text answer (subst (λ (k : Heading). ReadsAsRows k ds m x ending text answer) is back) bytes even)

-- what a maker wrote without an error
pub made_whole : (text a b : List ℕ) (r : Result (Unit {0}) Unwritten) → is_err r ≡ false → Writes true text (Some a) (Some b) r
    → b ≡ a ++ text
made_whole text a b (Ok done) ok wrote = wrote.1
made_whole text a b (Err why) ok wrote = absurd cc

-- ---- lines

abbrev pub as_arrays : Heading
as_arrays = record { form = Json; names = None; tagged = true }

abbrev pub tagged_row : LineRow → List (Option Datum)
tagged_row row = Some (Number U64 (pos row.0)) ∷ row.1

pub record ArraysRead (after : List ℕ) (answer : LinesEnd) : Type 0 where
  pub rows : List LineRow
  pub records : List ℕ
  pub part : List ℕ
  pub text : after ≡ records ++ part
  pub whole : lines.is_write answer.fault ≡ false → part ≡ []
  pub count : length rows ≡ answer.written
  pub read : json_rows records ≡ Some (map (λ row. map element_given (tagged_row row)) rows)

-- what the end says of the lines
ends_so : (w : LineWork) (failed : Bool) (done later : List Turn) (part : List ℕ) (t : List ℕ) (consumed : ℕ) (answer : LinesEnd)
    → ((later ≡ []) × (part ≡ []) × Concludes w failed (length (lines_by endings.Fault (take consumed t))) done answer
    × (failed ≡ false → AreTaken w t consumed done))
    ⊎ ((failed ≡ false) × AllGoOn w done × IsCutShort w done part later t consumed answer)
    → (lines.is_write answer.fault ≡ false → part ≡ []) × (answer.written ≡ count_by is_written done)
ends_so w true done later part t consumed answer (inl (none, empty, concludes, are)) =
    ((λ e. empty), ap (λ (e : LinesEnd). e.written) concludes.1)
ends_so w false done later part t consumed answer (inl (none, empty, concludes, are)) =
    ((λ e. empty), ap (λ (e : LinesEnd). e.written) concludes)
ends_so w failed done later part t consumed answer (inr (ok, goes, inl (is, begun, lines_are))) = (
  (λ e. absurd (true≢false (sym (ap (λ (a : LinesEnd). lines.is_write a.fault) is) ∙ e))),
  ap (λ (e : LinesEnd). e.written) is,
)
ends_so w failed done later part t consumed answer (inr (ok, goes, inr (inl (is, empty, at)))) =
    ((λ e. empty), ap (λ (e : LinesEnd). e.written) is)
ends_so w failed done later part t consumed answer (inr (ok, goes, inr (inr (is, empty, many)))) =
    ((λ e. empty), ap (λ (e : LinesEnd). e.written) is)

pub arrays_read : {S : Type 0} {to_come : S → Option (List ℕ)} (h : Heading) → h ≡ as_arrays → (w : LineWork) (t : List ℕ) {now : Ahead S}
    {failures failures' : ℕ} (before after : List ℕ) → before ≡ [] → {silent : Bool} {told told' : Option (List ℕ)} (answer : LinesEnd)
    (loop : Loops w to_come t now failures failures' (Some before) (Some after) silent told told' answer)
    → LinesReadAsRows h w (lines_for w.options.limit loop.failed loop.consumed t) loop.done → ArraysRead after answer
arrays_read h is w t before after empty answer loop rows =
    let lines_are = lines_for w.options.limit loop.failed loop.consumed t in
    let back = subst (λ (k : Heading). LinesReadAsRows k w lines_are loop.done) is rows in
    let end = ends_so w loop.failed loop.done loop.later loop.part t loop.consumed answer loop.ends in
    record {
      rows = back.rows;
      records = texts loop.done;
      part = loop.part;
      text = loop.appends ∙ ap (λ (b : List ℕ). b ++ (texts loop.done ++ loop.part)) empty;
      whole = end.0;
      count = back.count ∙ sym end.1;
      read = ap json_rows back.text_is ∙ back.reads
          ∙ ap (λ (rows : List (List (Option Datum))). Some (map (map element_given) rows)) back.columns_are
          ∙ ap Some (mapped_twice tagged_row (map element_given) back.rows);
    }

-- ---- the parts of a text

left_bytes : (a b : List ℕ) → AreBytes (a ++ b) → AreBytes a
left_bytes [] b are = tt
left_bytes (x ∷ a) b are = (are.0, left_bytes a b are.1)

right_bytes : (a b : List ℕ) → AreBytes (a ++ b) → AreBytes b
right_bytes [] b are = are
right_bytes (x ∷ a) b are = right_bytes a b are.1

pub parts_bytes : (c : ℕ) (parts : List (List ℕ)) → AreBytes (join_with_byte c parts) → AllByRecursion AreBytes parts
parts_bytes c [] are = tt
parts_bytes c (x ∷ []) are = (are, tt)
parts_bytes c (x ∷ y ∷ parts) are = (
  left_bytes x (c ∷ join_with_byte c (y ∷ parts)) are,
  parts_bytes c (y ∷ parts) (right_bytes x (c ∷ join_with_byte c (y ∷ parts)) are).1,
)
