-- What each byte of a text is written as, in each form.
use Rattle.std.specs.Prelude.{ℕ, Bool, ◌&&◌, not, nat_eq, nat_le, List}
use Rattle.sf_forms.specs.declared.form.OutputForm.{OutputForm}
use Rattle.sf_forms.specs.declared.form.OutputForm.TheVariants.{Plain, Tsv, Json, Csv}
use Rattle.sf_forms.specs.Csv.{csv_escaped, is_bare}
use Rattle.sf_forms.specs.JsonStrings.{json_escaped}
use Rattle.sf_forms.specs.Quotes.{escaped, is_plain}
use Rattle.sf_forms.specs.Tables.{tsv_escaped}

-- a byte of a text; in JSON one that is known to be UTF-8, in CSV one between quotes
abbrev pub escaped_in : OutputForm → ℕ → List ℕ
escaped_in Plain = escaped
escaped_in Tsv = tsv_escaped
escaped_in Json = json_escaped
escaped_in Csv = csv_escaped

-- bytes that stand as they are
abbrev pub stays_in_table : ℕ → Bool
stays_in_table b = not (nat_eq b 92) && (not (nat_eq b 9) && (not (nat_eq b 10) && not (nat_eq b 13)))

abbrev pub stays_in_string : ℕ → Bool
stays_in_string b = not (nat_eq b 34) && (not (nat_eq b 92) && nat_le 32 b)

abbrev pub stays : OutputForm → ℕ → Bool
stays Plain = is_plain
stays Tsv = stays_in_table
stays Json = stays_in_string
stays Csv = is_bare
