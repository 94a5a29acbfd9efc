-- Records of one column that is empty, by the count of their columns and how long their texts are.
use Rattle.std.specs.Prelude.{ℕ, Bool, false, ◌&&◌, nat_eq}
use Rattle.sf_forms.specs.declared.form.OutputForm.{OutputForm}
use Rattle.sf_forms.specs.declared.form.OutputForm.TheVariants.{Csv}

abbrev pub is_lone_in : OutputForm → ℕ → ℕ → Bool
is_lone_in Csv columns len = nat_eq columns 1 && nat_eq len 0
is_lone_in form columns len = false
