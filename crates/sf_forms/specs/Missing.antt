-- What stands for a slot without a value.
use Rattle.std.specs.Prelude.{ℕ, List, [], codes}
use Rattle.sf_forms.specs.declared.form.OutputForm.{OutputForm}
use Rattle.sf_forms.specs.declared.form.OutputForm.TheVariants.{Plain, Tsv, Json, Csv}

-- The text of a slot that was given nothing, as that of a conversion that may be missing. In tables and rows of CSV it is an empty
-- column, as that of an empty text is.
abbrev pub missing_text : OutputForm → List ℕ
missing_text Plain = codes "-"
missing_text Tsv = []
missing_text Json = codes "null"
missing_text Csv = []
