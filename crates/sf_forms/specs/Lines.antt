-- The line of a record.
use Rattle.std.specs.Prelude.{ℕ, List, [], ◌∷◌, ◌++◌, map}
use Rattle.std.specs.Option.{option_map_or}
use Rattle.std.specs.List.{join_with_byte, range_with_len}
use Rattle.std.specs.Fmt.{signed_decimal}
use Rattle.sf_base.specs.Data.{Datum, Number, Bytes, Real, datum_at}
use Rattle.sf_report.specs.Runs.{RunReport}
use Rattle.sf_forms.specs.declared.form.OutputForm.TheVariants.{Plain}
use Rattle.sf_forms.specs.Missing.{missing_text}
use Rattle.sf_forms.specs.Quotes.{quoted}
use Rattle.sf_forms.specs.Reals.{real_text}

-- the text of a value: a number in decimal, bytes between quotes, a float
abbrev pub text_of : Datum → List ℕ
text_of (Number kind n) = signed_decimal n
text_of (Bytes bytes) = quoted bytes
text_of (Real r) = real_text Plain r

-- the text of what a slot was given, or what stands for it where it was given nothing
abbrev pub text_at : RunReport → ℕ → List ℕ
text_at report slot = option_map_or text_of (datum_at slot report.values) (missing_text Plain)

-- the texts of the slots 1 to n, with a blank between each two, and a line end
abbrev pub line_of : ℕ → RunReport → List ℕ
line_of n report = join_with_byte 32 (map (text_at report) (range_with_len 1 n)) ++ 10 ∷ []
