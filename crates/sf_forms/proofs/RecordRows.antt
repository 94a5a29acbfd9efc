-- The record of a report is that of what its slots were given, and of its row.
use Rattle.std.proofs.Common.{◌≡◌, ℕ, zero, suc, ◌+◌, List, [], ◌∷◌, map, Option, Some, None, pos, refl, sym, ap, ◌∙◌}
use Rattle.std.specs.List.{range_with_len}
use Rattle.std.specs.Fmt.{decimal}
use Rattle.sf_base.specs.Data.{Datum, Number, datum_at}
use Rattle.sf_base.specs.declared.values.Kind.TheVariants.{U64}
use Rattle.sf_format.specs.Slots.{slots_from}
use Rattle.sf_report.specs.Rows.{AreRowOf, given_to}
use Rattle.sf_report.specs.Runs.{RunReport}
use Rattle.sf_forms.specs.declared.form.OutputForm.{OutputForm}
use Rattle.sf_forms.specs.Forms.{framed, given_text, slot_text, value_text}
use Rattle.sf_forms.specs.declared.form.OutputForm.TheVariants.{Plain, Tsv, Json, Csv}
use Rattle.sf_forms.specs.Heads.{columns, headed, names_over, tag_of}
use Rattle.sf_forms.specs.ReadingBack.{HeadedRecordsAreGiven, HeadedRecordsAreRows, RecordsAreGiven, RecordsAreRows}
use Rattle.sf_forms.specs.ReadingBack.{tagged_given, tagged_row}
use Rattle.sf_forms.proofs.Givens.{values_given}

abbrev given_at : RunReport → ℕ → Option Datum
given_at r slot = datum_at slot r.values

same_slots : (f : ℕ → List ℕ) (place n : ℕ) → map f (range_with_len place n) ≡ map f (slots_from place n)
same_slots f place zero = refl
same_slots f place (suc n) = ap (λ (t : List (List ℕ)). f place ∷ t) (same_slots f (place + 1) n)

through : (form : OutputForm) (r : RunReport) (slots : List ℕ) → map (slot_text form r) slots ≡ map (given_text form)
    (map (given_at r) slots)
through form r [] = refl
through form r (slot ∷ slots) = ap (λ (t : List (List ℕ)). slot_text form r slot ∷ t) (through form r slots)

texts_given : (form : OutputForm) (n : ℕ) (r : RunReport)
    → map (slot_text form r) (range_with_len 1 n) ≡ map (given_text form) (given_to n r.values)
texts_given form n r = same_slots (slot_text form r) 1 n ∙ through form r (slots_from 1 n)

pub record_is_given : RecordsAreGiven
record_is_given form n r = ap (framed form) (texts_given form n r)

texts_are : (form : OutputForm) (n : ℕ) (row : List Datum) (r : RunReport) → AreRowOf n row r.values
    → map (slot_text form r) (range_with_len 1 n) ≡ map (value_text form) row
texts_are form n row r is = texts_given form n r ∙ ap (map (given_text form)) (sym is) ∙ values_given form row

pub record_is_row : RecordsAreRows
record_is_row form n row r is = ap (framed form) (texts_are form n row r is)

-- ---- under heads

number_text : (form : OutputForm) (number : ℕ) → decimal number ≡ value_text form (Number U64 (pos number))
number_text Plain number = refl
number_text Tsv number = refl
number_text Json number = refl
number_text Csv number = refl

columns_are : (form : OutputForm) (tag : Option ℕ) (n : ℕ) (row : List Datum) (r : RunReport) → AreRowOf n row r.values
    → columns form tag n r ≡ map (value_text form) (tagged_row tag row)
columns_are form None n row r is = texts_are form n row r is
columns_are form (Some number) n row r is =
    ap (λ (t : List ℕ). t ∷ map (slot_text form r) (range_with_len 1 n)) (number_text form number)
    ∙ ap (λ (ts : List (List ℕ)). value_text form (Number U64 (pos number)) ∷ ts) (texts_are form n row r is)

columns_given : (form : OutputForm) (tag : Option ℕ) (n : ℕ) (r : RunReport)
    → columns form tag n r ≡ map (given_text form) (tagged_given tag (given_to n r.values))
columns_given form None n r = texts_given form n r
columns_given form (Some number) n r =
    ap (λ (t : List ℕ). t ∷ map (slot_text form r) (range_with_len 1 n)) (number_text form number)
    ∙ ap (λ (ts : List (List ℕ)). value_text form (Number U64 (pos number)) ∷ ts) (texts_given form n r)

pub headed_is_given : HeadedRecordsAreGiven
headed_is_given h number n r = ap (headed (names_over h) h.form) (columns_given h.form (tag_of h.tagged number) n r)

pub headed_is_row : HeadedRecordsAreRows
headed_is_row h number n row r is =
    ap (headed (names_over h) h.form) (columns_are h.form (tag_of h.tagged number) n row r is)
