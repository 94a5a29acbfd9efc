-- Rows of values as rows of which none is missing.
use Rattle.std.proofs.Common.{◌≡◌, ◌++◌, ℕ, List, [], ◌∷◌, map, Option, Some, refl, sym, ap, ◌∙◌}
use Rattle.std.specs.List.{AllByRecursion, flat_map}
use Rattle.sf_base.specs.Data.{Datum}
use Rattle.sf_forms.specs.declared.form.OutputForm.{OutputForm}
use Rattle.sf_forms.specs.Forms.{framed, given_row_text, given_text, row_text, value_text}
use Rattle.sf_forms.specs.ReadingBack.{AreGivenRows, AreRows, IsGivenValue, IsValue}

-- what is made of each value
pub through_some : {B : Type 0} (f : Option Datum → B) (g : Datum → B) → ((d : Datum) → f (Some d) ≡ g d) → (row : List Datum)
    → map f (map Some row) ≡ map g row
through_some f g same [] = refl
through_some {B} f g same (d ∷ row) =
    ap (λ (b : B). b ∷ map f (map Some row)) (same d) ∙ ap (λ (bs : List B). g d ∷ bs) (through_some f g same row)

-- of each row
pub through_rows : {B : Type 0} (f : Option Datum → B) (g : Datum → B) → ((d : Datum) → f (Some d) ≡ g d) → (rows : List (List Datum))
    → map (map f) (map (map Some) rows) ≡ map (map g) rows
through_rows f g same [] = refl
through_rows {B} f g same (row ∷ rows) =
    ap (λ (b : List B). b ∷ map (map f) (map (map Some) rows)) (through_some f g same row)
    ∙ ap (λ (bs : List (List B)). map g row ∷ bs) (through_rows f g same rows)

pub values_given : (form : OutputForm) (row : List Datum) → map (given_text form) (map Some row) ≡ map (value_text form) row
values_given form row = through_some (given_text form) (value_text form) (λ d. refl) row

pub row_given : (form : OutputForm) (row : List Datum) → row_text form row ≡ given_row_text form (map Some row)
row_given form row = ap (framed form) (sym (values_given form row))

-- the texts of all rows, each by another function
pub texts_given : (of_row : List Datum → List ℕ) (of_given : List (Option Datum) → List ℕ)
    → ((row : List Datum) → of_row row ≡ of_given (map Some row)) → (rows : List (List Datum))
    → flat_map of_row rows ≡ flat_map of_given (map (map Some) rows)
texts_given of_row of_given same [] = refl
texts_given of_row of_given same (row ∷ rows) =
    ap (λ (t : List ℕ). t ++ flat_map of_row rows) (same row)
    ∙ ap (λ (t : List ℕ). of_given (map Some row) ++ t) (texts_given of_row of_given same rows)

pub rows_given : (form : OutputForm) (rows : List (List Datum))
    → flat_map (row_text form) rows ≡ flat_map (given_row_text form) (map (map Some) rows)
rows_given form rows = texts_given (row_text form) (given_row_text form) (row_given form) rows

pub are_given : (row : List Datum) → AllByRecursion IsValue row → AllByRecursion IsGivenValue (map Some row)
are_given [] are = tt
are_given (d ∷ row) are = (are.0, are_given row are.1)

pub rows_are_given : (rows : List (List Datum)) → AreRows rows → AreGivenRows (map (map Some) rows)
rows_are_given [] are = tt
rows_are_given (row ∷ rows) are = (are_given row are.0, rows_are_given rows are.1)
