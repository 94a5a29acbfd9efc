-- Runs whose values are written as they are read.
use Rattle.std.specs.Prelude.{◌≡◌, ◌≢◌, ℕ, ◌+◌, ◌<◌, ◌≤◌, true, false, List, [], ◌∷◌, ◌++◌, length, drop}
use Rattle.std.specs.List.{flat_map}
use Rattle.sf_base.specs.Data.{Assigned, Datum}
use Rattle.sf_format.specs.declared.directive.Directive.{Directive}
use Rattle.sf_format.specs.Proper.{has_group, slots_of}
use Rattle.sf_report.specs.declared.outcome.Ending.{Ending}
use Rattle.sf_report.specs.Limits.{RunWithin}
use Rattle.sf_report.specs.Machine.{Skipping}
use Rattle.sf_report.specs.Residual.{one_from}
use Rattle.sf_report.specs.Runs.{passed}
use Rattle.sf_report.specs.Steps.{StepEnd, Stores}
use Rattle.sf_run.specs.Pieces.{EndsIn}
use Rattle.sf_run.specs.Quick.{IsDoneWithin, done_by, slot_stored}
use Rattle.sf_run.specs.Texts.{slot_of, slots_in}

-- what is written of a directive that ends so
abbrev pub text_given : (Datum → List ℕ) → StepEnd → List ℕ
text_given text (Stores slot v) = text v
text_given text _ = []

-- the texts of the values, one after the other
abbrev pub texts_by : (Datum → List ℕ) → List Assigned → List ℕ
texts_by text values = flat_map (λ a. text a.datum) values

-- the directive has passed within the piece, and what it gave was written after the old bytes
pub record PassesWriting (text : Datum → List ℕ) (d : Directive) (n : ℕ) (piece : List ℕ) (taken : ℕ) (old new : List ℕ) : Type 0 where
  pub end : StepEnd
  pub takes : EndsIn d Skipping n piece taken end
  pub passes : passed end ≡ true
  pub own : slot_stored end ≡ slot_of d
  pub written : new ≡ old ++ text_given text end

-- The run on each input that begins with the piece is Done after so many bytes, and met no end; the bytes are the texts of
-- its values, in the order of their directives.
pub record IsWritten (text : Datum → List ℕ) (ds : List Directive) (limit : ℕ) (piece : List ℕ) (used : ℕ) (bytes : List ℕ) : Type 0 where
  pub values : List Assigned
  pub run : (z : List ℕ) (ending : Ending) → RunWithin ds limit (piece ++ z) ending (done_by ds used values)
  pub slots : slots_in values ≡ slots_of ds
  pub written : bytes ≡ texts_by text values

-- the values of a run that is Done, and how many bytes it used
pub record Part : Type 0 where
  pub used : ℕ
  pub values : List Assigned

-- The run on each input that begins with the piece is Done after so many bytes, one at least, and met no end; these are its
-- values, in the order of their directives.
pub record IsPart (ds : List Directive) (limit : ℕ) (piece : List ℕ) (part : Part) : Type 0 where
  pub run : (z : List ℕ) (ending : Ending) → RunWithin ds limit (piece ++ z) ending (done_by ds part.used part.values)
  pub slots : slots_in part.values ≡ slots_of ds
  pub some : 0 < part.used
  pub within : part.used ≤ length piece

-- such a run, and the bytes are the record of its values
pub record IsRecord (text : List Assigned → List ℕ) (ds : List Directive) (limit : ℕ) (piece : List ℕ) (used : ℕ) (bytes : List ℕ) : Type 0
  where
    pub values : List Assigned
    pub part : IsPart ds limit piece (record { used = used; values = values })
    pub written : bytes ≡ text values

-- such runs, each on what those before it left of the piece
abbrev pub AreParts : List Directive → ℕ → List ℕ → List Part → Type 0
AreParts ds limit piece [] = Unit {0}
AreParts ds limit piece (p ∷ ps) = IsPart ds limit piece p × AreParts ds limit (drop p.used piece) ps

-- the bytes that they used
abbrev pub used_by : List Part → ℕ
used_by [] = 0
used_by (p ∷ ps) = p.used + used_by ps

-- the records of their values
abbrev pub records_by : (List Assigned → List ℕ) → List Part → List ℕ
records_by text parts = flat_map (λ p. text p.values) parts

-- so many such runs, which used so many bytes, and the bytes are the records of their values, one after the other
pub record AreRecords (text : List Assigned → List ℕ) (ds : List Directive) (limit : ℕ) (piece : List ℕ) (count used : ℕ)
    (bytes : List ℕ) : Type 0 where
  pub parts : List Part
  pub are : AreParts ds limit piece parts
  pub count_is : count ≡ length parts
  pub used_is : used ≡ used_by parts
  pub written : bytes ≡ records_by text parts

-- On the piece and what follows it, the directive passes before a byte of the piece is lacking, and what is written of it has so many
-- bytes at most.
pub record IsWrittenSurely (text : Datum → List ℕ) (d : Directive) (n : ℕ) (piece : List ℕ) (room : ℕ) : Type 0 where
  pub after : List ℕ
  pub passes : passed (one_from d Skipping n (piece ++ after)).end ≡ true
  pub early : (one_from d Skipping n (piece ++ after)).used < n + length piece
  pub fits : length (text_given text (one_from d Skipping n (piece ++ after)).end) ≤ room

-- The run on the rest is Done before a byte of it, or one that the limit allows, is lacking, and no item of it is missing. It used a
-- byte and has a value, and the room has the texts of its values, and so many bytes more. The format has no group.
pub record CanFollow (text : Datum → List ℕ) (spare : ℕ) (ds : List Directive) (limit : ℕ) (rest : List ℕ) (room : ℕ) : Type 0 where
  pub capacity : ℕ
  pub apart : has_group ds ≡ false
  pub run : IsDoneWithin ds limit rest capacity
  pub some : 0 < run.report.used
  pub valued : run.report.values ≢ []
  pub fits : length (texts_by text run.report.values) + spare ≤ room
