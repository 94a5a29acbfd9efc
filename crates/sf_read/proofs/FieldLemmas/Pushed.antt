-- The values of a row that are there, pushed one after the other.
use Rattle.std.proofs.Common.{◌≡◌, List, [], ◌∷◌, ◌++◌, Option, Some, None, refl, sym, ap, ◌∙◌}
use Rattle.sf_base.specs.Data.{Datum}
use Rattle.sf_read.specs.field.Rows.{present}

present_append : (front back : List (Option Datum)) → present (front ++ back) ≡ present front ++ present back
present_append [] back = refl
present_append (None ∷ front) back = present_append front back
present_append (Some v ∷ front) back = ap (λ (vs : List Datum). v ∷ vs) (present_append front back)

-- one value more, or none where it is missing
pub pushed : (front : List (Option Datum)) (given own : Option Datum) (before after : List Datum) → given ≡ own → before ≡ present front
    → after ≡ before ++ present (given ∷ []) → after ≡ present (front ++ own ∷ [])
pushed front given own before after same is more =
    more ∙ ap (λ (vs : List Datum). vs ++ present (given ∷ [])) is
    ∙ ap (λ (o : Option Datum). present front ++ present (o ∷ [])) same ∙ sym (present_append front (own ∷ []))
