-- How floats are written.
use Rattle.std.specs.Prelude.{ℕ, Bool, false, not, if◌then◌else◌, List}
use Rattle.std.specs.Float.{float_is_finite}
use Rattle.sf_base.specs.declared.real.Real as real
use Rattle.sf_float.specs.fewest.Digits.{number_of}
use Rattle.sf_float.specs.fewest.Laid.{shortest_text}
use Rattle.sf_forms.specs.declared.form.OutputForm.{OutputForm}
use Rattle.sf_forms.specs.declared.form.OutputForm.TheVariants.{Json}
use Rattle.sf_forms.specs.JsonStrings.{json_string}

-- no infinity and no NaN
abbrev pub is_finite : real.Real → Bool
is_finite r = float_is_finite (number_of r)

-- in JSON no number stands for a float that isn't finite (RFC 8259, 6)
abbrev pub is_string : OutputForm → real.Real → Bool
is_string Json r = not (is_finite r)
is_string form r = false

-- the shortest text that reads as the float; in JSON, where it is no number, as a string
abbrev pub real_text : OutputForm → real.Real → List ℕ
real_text form r = if is_string form r then json_string (shortest_text r) else shortest_text r
