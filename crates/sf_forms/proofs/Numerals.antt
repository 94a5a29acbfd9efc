-- A number's text is its minus and its digits.
use Rattle.std.proofs.Common.{◌≡◌, ℕ, zero, suc, ◌^◌, ◌<◌, Bool, true, false, ◌&&◌, nat_lt, nat_le, ◌++◌, List, Option, Some, Result, OnOk}
use Rattle.std.proofs.Common.{subst, refl, sym, ap, ◌∙◌, arith, true≢false}
use Rattle.std.proofs.lemmas.Bool.{ltb-true}
use Rattle.std.specs.Fmt.{decimal, signed_decimal}
use Rattle.std.specs.Option.{option_map_or}
use Rattle.sf_base.specs.Data.{Datum, datum_of_number}
use Rattle.sf_base.specs.Kinds.{is_held, with_sign}
use Rattle.sf_base.specs.declared.number.Number.{Number}
use Rattle.sf_base.specs.declared.values.Kind.{Kind}
use Rattle.sf_base.specs.declared.values.Kind.TheVariants.{I8, I16, I32, I64, U8, U16, U32, U64, Text, F32, F64}
use Rattle.sf_print.specs.texts.Plain.{minus}
use Rattle.sf_forms.specs.declared.form.OutputForm.{OutputForm}
use Rattle.sf_forms.specs.declared.form.OutputForm.TheVariants.{Plain, Tsv, Json, Csv}
use Rattle.sf_forms.specs.Forms.{missing_text, value_text}

first_of : (m : ℕ) (b : Bool) → nat_lt 0 m && b ≡ true → 0 < m
first_of m b e = by (nat_lt 0 m) refl e
  where
    by : (t : Bool) → nat_lt 0 m ≡ t → t && b ≡ true → 0 < m
    by true h e = ltb-true 0 m h
    by false h e = absurd (true≢false (sym e))

some_below : (kind : Kind) (negative : Bool) (m : ℕ) → is_held kind negative m ≡ true → negative ≡ true → 0 < m
some_below kind false m held e = absurd (true≢false (sym e))
some_below I8 true m held e = first_of m (nat_le m (2 ^ 7)) held
some_below I16 true m held e = first_of m (nat_le m (2 ^ 15)) held
some_below I32 true m held e = first_of m (nat_le m (2 ^ 31)) held
some_below I64 true m held e = first_of m (nat_le m (2 ^ 63)) held
some_below U8 true m held e = absurd (true≢false (sym held))
some_below U16 true m held e = absurd (true≢false (sym held))
some_below U32 true m held e = absurd (true≢false (sym held))
some_below U64 true m held e = absurd (true≢false (sym held))
some_below Text true m held e = absurd (true≢false (sym held))
some_below F32 true m held e = absurd (true≢false (sym held))
some_below F64 true m held e = absurd (true≢false (sym held))

signed_text : (negative : Bool) (m : ℕ) → (negative ≡ true → 0 < m) → signed_decimal (with_sign negative m) ≡ minus negative ++ decimal m
signed_text true zero some = let lt : 0 < 0 = some refl in absurd (omega arith)
signed_text true (suc n) some = refl
signed_text false m some = refl

text_of_number : (form : OutputForm) (n : Number) → value_text form (datum_of_number n) ≡ minus n.negative ++ decimal n.magnitude
text_of_number Plain n = signed_text n.negative n.magnitude (some_below n.kind n.negative n.magnitude n.held)
text_of_number Tsv n = signed_text n.negative n.magnitude (some_below n.kind n.negative n.magnitude n.held)
text_of_number Json n = signed_text n.negative n.magnitude (some_below n.kind n.negative n.magnitude n.held)
text_of_number Csv n = signed_text n.negative n.magnitude (some_below n.kind n.negative n.magnitude n.held)

-- what is written of a slot that was given a number, in every form
pub number_at : (form : OutputForm) (given : Option Datum) (n : Number) → Some (datum_of_number n) ≡ given
    → minus n.negative ++ decimal n.magnitude ≡ option_map_or (value_text form) given (missing_text form)
number_at form given n is =
    sym (text_of_number form n) ∙ ap (λ (d : Option Datum). option_map_or (value_text form) d (missing_text form)) is

-- what was appended, by another name
pub appended_as : {A E : Type 0} (r : Result A E) (new old text same : List ℕ) → text ≡ same → OnOk r (new ≡ old ++ text)
    → OnOk r (new ≡ old ++ same)
appended_as r new old text same e written = subst (λ (t : List ℕ). OnOk r (new ≡ old ++ t)) e written
