-- Values that are written in place one by one, each with its separator.
use Rattle.std.specs.Prelude.{ℕ, List, [], ◌∷◌, ◌++◌}
use Rattle.sf_forms.specs.declared.form.OutputForm.{OutputForm}
use Rattle.sf_forms.specs.declared.form.OutputForm.TheVariants.{Plain, Tsv, Json, Csv}
use Rattle.sf_forms.specs.Forms.{separator}

-- In JSON a separator stands before each value: the bracket takes the place of the first. In the other forms one stands after
-- each: the line end takes the place of the last.
abbrev pub lead : OutputForm → List ℕ
lead Plain = []
lead Tsv = []
lead Json = separator Json ∷ []
lead Csv = []

abbrev pub trail : OutputForm → List ℕ
trail Plain = separator Plain ∷ []
trail Tsv = separator Tsv ∷ []
trail Json = []
trail Csv = separator Csv ∷ []

-- the text of a value with its separator
abbrev pub parted : OutputForm → List ℕ → List ℕ
parted form text = lead form ++ (text ++ trail form)

-- what stands before and after a text whose bytes stay as they are
abbrev pub quote : OutputForm → List ℕ
quote Plain = 34 ∷ []
quote Tsv = []
quote Json = 34 ∷ []
quote Csv = []

-- bytes that stay as they are in this form do so in a text of the other, whatever stands before and after it
abbrev pub looked_in : OutputForm → OutputForm
looked_in Plain = Plain
looked_in Tsv = Tsv
looked_in Json = Plain
looked_in Csv = Csv
