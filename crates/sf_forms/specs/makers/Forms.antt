-- What a scan writes of each report: its record, in a form.
use Rattle.std.specs.Prelude.{◌≡◌, ℕ, true, if◌then◌else◌, List, length, Option, Some, None}
use Rattle.sf_format.specs.declared.directive.Directive.{Directive}
use Rattle.sf_format.specs.Proper.{destinations_of}
use Rattle.sf_report.specs.Runs.{RunReport}
use Rattle.sf_forms.specs.declared.form.OutputForm.{OutputForm}
pub use Rattle.sf_forms.specs.Forms.{record_text, row_text}
pub use Rattle.sf_forms.specs.Heads.{Heading, bare, headed_text, header_text}
pub use Rattle.sf_forms.specs.Lines.{line_of}
use Rattle.sf_forms.specs.makers.Works.{Work}

-- the record of the values, in this form
abbrev pub writing : OutputForm → List Directive → Work
writing form ds = record { fits = λ r. true; text = record_text form (length (destinations_of ds)) }

-- the line of the values
abbrev pub scanning : List Directive → Work
scanning ds = record { fits = λ r. true; text = line_of (length (destinations_of ds)) }

-- the record of the values under this heading, by the format with this number
abbrev pub writing_under : Heading → ℕ → List Directive → Work
writing_under h number ds = record { fits = λ r. true; text = headed_text h number (length (destinations_of ds)) }

-- what is made of the report is its record in this form
pub record IsBare (form : OutputForm) (w : Work) (ds : List Directive) (report : RunReport) : Type 0 where
  pub fits : w.fits report ≡ true
  pub text : w.text report ≡ record_text form (length (destinations_of ds)) report

-- the form of records that have no heading
abbrev pub bare_form_of : Heading → Option OutputForm
bare_form_of h = if h.tagged then None else (elim h.names [ None ↦ Some h.form | Some names ↦ None ])
