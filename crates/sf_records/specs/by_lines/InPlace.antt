-- Lines whose records are written as they are read.
use Rattle.std.specs.Prelude.{◌≡◌, ◌+◌, ◌≤◌, ℕ, true, List, [], ◌∷◌, length, drop, Option}
use Rattle.std.specs.List.{flat_map}
use Rattle.std.specs.Io.KnownBytes.{Appends}
use Rattle.sf_format.specs.declared.directive.Directive.{Directive}
use Rattle.sf_forms.specs.declared.form.OutputForm.{OutputForm}
use Rattle.sf_run.specs.Written.{CanFollow, IsPart, Part}
use Rattle.sf_read.specs.line.Reading.{IsHeld}
use Rattle.sf_read.specs.source.Ahead.{Ahead}
use Rattle.sf_records.specs.InPlace.{line_in, value_in}
use Rattle.sf_records.specs.declared.by_lines.options.LinesOptions.{LinesOptions}

-- a line of so many bytes, without its newline, and what a run on it used and gave
pub record LinePart : Type 0 where
  pub len : ℕ
  pub part : Part

-- The piece begins with such a line and its newline, which the limit allows. The run on the piece is Done within the line, and uses
-- all of it, where it has to.
pub record IsLinePart (ds : List Directive) (o : LinesOptions) (piece : List ℕ) (line : LinePart) : Type 0 where
  pub held : IsHeld piece line.len
  pub short : line.len ≤ o.limit
  pub is : IsPart ds o.limit piece line.part
  pub within : line.part.used ≤ line.len
  pub whole : o.whole ≡ true → line.len ≤ line.part.used

-- The piece begins with a line and its newline, which the limit allows. The run on the piece is Done within the line, and uses all of
-- it, where it has to; and there is room for its record.
pub record CanFollowLine (form : OutputForm) (ds : List Directive) (o : LinesOptions) (piece : List ℕ) (room : ℕ) : Type 0 where
  pub len : ℕ
  pub held : IsHeld piece len
  pub short : len ≤ o.limit
  pub follows : CanFollow (value_in form) 22 ds o.limit piece room
  pub within : follows.run.report.used ≤ len
  pub whole : o.whole ≡ true → len ≤ follows.run.report.used

-- such lines, one after the other
abbrev pub AreLineParts : List Directive → LinesOptions → List ℕ → List LinePart → Type 0
AreLineParts ds o piece [] = Unit {0}
AreLineParts ds o piece (line ∷ lines) = IsLinePart ds o piece line × AreLineParts ds o (drop (line.len + 1) piece) lines

-- their bytes, with the newlines
abbrev pub bytes_of : List LinePart → ℕ
bytes_of [] = 0
bytes_of (line ∷ lines) = line.len + 1 + bytes_of lines

-- the records of their values, in this form
abbrev pub texts_of : OutputForm → List LinePart → List ℕ
texts_of form lines = flat_map (λ line. line_in form line.part.values) lines

-- such a line, which has so many bytes with its newline, and the bytes are the record of its values
pub record IsLineRecord (form : OutputForm) (ds : List Directive) (o : LinesOptions) (piece : List ℕ) (size : ℕ) (bytes : List ℕ) : Type 0
  where
    pub line : LinePart
    pub is : IsLinePart ds o piece line
    pub size_is : size ≡ line.len + 1
    pub written : bytes ≡ line_in form line.part.values

-- so many such lines, which have so many bytes with their newlines, and the bytes are the records of their values
pub record AreLineRecords (form : OutputForm) (ds : List Directive) (o : LinesOptions) (piece : List ℕ) (count used : ℕ) (bytes : List ℕ)
    : Type 0 where
  pub lines : List LinePart
  pub are : AreLineParts ds o piece lines
  pub count_is : count ≡ length lines
  pub used_is : used ≡ bytes_of lines
  pub written : bytes ≡ texts_of form lines

-- So many such lines were held, one after the other. What is left after them is held, and the sink took their records.
pub record WritesLines {S : Type 0} (form : OutputForm) (ds : List Directive) (o : LinesOptions) (old new : Ahead S)
    (before after : Option (List ℕ)) (count : ℕ) : Type 0 where
  pub lines : List LinePart
  pub are : AreLineParts ds o old.held lines
  pub count_is : count ≡ length lines
  pub held : new.held ≡ drop (bytes_of lines) old.held
  pub source : new.source ≡ old.source
  pub at_end : new.at_end ≡ old.at_end
  pub appends : Appends before after (texts_of form lines)
