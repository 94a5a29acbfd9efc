-- Records that are written as they are read.
use Rattle.std.specs.Prelude.{◌≡◌, ℕ, List, length, map, drop, Option}
use Rattle.std.specs.Io.KnownBytes.{Appends}
use Rattle.sf_base.specs.Data.{Assigned, Datum}
use Rattle.sf_format.specs.declared.directive.Directive.{Directive}
use Rattle.sf_forms.specs.declared.form.OutputForm.{OutputForm}
use Rattle.sf_forms.specs.Forms.{framed, value_text}
use Rattle.sf_forms.specs.InPlace.{parted}
use Rattle.sf_run.specs.Written.{AreParts, Part, records_by, used_by}
use Rattle.sf_read.specs.source.Ahead.{Ahead}

-- the record of values, in their order, in this form
abbrev pub line_in : OutputForm → List Assigned → List ℕ
line_in form values = framed form (map (λ a. value_text form a.datum) values)

-- what is written of a value before the record is made: its text with its separator
abbrev pub value_in : OutputForm → Datum → List ℕ
value_in form datum = parted form (value_text form datum)

-- So many runs on what was held are Done, one after the other, and used a byte each. What they left is held, and the sink
-- took the records of their values, in this form.
pub record WritesRecords {S : Type 0} (form : OutputForm) (ds : List Directive) (m : ℕ) (old new : Ahead S) (before after : Option (List ℕ))
    (count : ℕ) : Type 0 where
  pub parts : List Part
  pub are : AreParts ds m old.held parts
  pub count_is : count ≡ length parts
  pub held : new.held ≡ drop (used_by parts) old.held
  pub source : new.source ≡ old.source
  pub at_end : new.at_end ≡ old.at_end
  pub appends : Appends before after (records_by (line_in form) parts)
