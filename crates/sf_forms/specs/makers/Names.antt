-- Names of columns, and what is wrong with them.
use Rattle.std.specs.Prelude.{◌≡◌, ◌<◌, ◌≤◌, ◌-◌, ◌++◌, ℕ, Bool, List, [], ◌∷◌, length, take}
use Rattle.std.specs.List.{AllByRecursion, Contains}
use Rattle.sf_format.specs.declared.directive.Directive.{Directive}
use Rattle.sf_format.specs.Proper.{destinations_of}
use Rattle.sf_forms.specs.Columns.{name_at}
use Rattle.sf_forms.specs.Heads.{column_names}
use Rattle.sf_forms.specs.declared.makers.names.NamesFault.{NamesFault}
use Rattle.sf_forms.specs.declared.makers.names.NamesFault.TheVariants as fault

-- the format gives as many values as there are names
abbrev pub IsCounted : List (List ℕ) → List Directive → Type 0
IsCounted names ds = length (destinations_of ds) ≡ length names

-- What stands before the name with this number, counted from 1. Where a first column has the number of the format, that is
-- also the column's name.
abbrev pub names_before : Bool → List (List ℕ) → ℕ → List (List ℕ)
names_before tagged names number = column_names tagged (take (number - 1) names)

-- the name with this number isn't empty, and is none of those before it
pub record IsGood (tagged : Bool) (names : List (List ℕ)) (number : ℕ) : Type 0 where
  pub some : name_at names number ≡ [] → ⊥
  pub once : Contains (names_before tagged names number) (name_at names number) → ⊥

-- those with a lower number are good
abbrev pub AreGoodBelow : Bool → List (List ℕ) → ℕ → Type 0
AreGoodBelow tagged names number = (lower : ℕ) → 1 ≤ lower → lower < number → IsGood tagged names lower

-- each format gives as many values as there are names, and each name is good
pub record AreNames (tagged : Bool) (names : List (List ℕ)) (formats : List (List Directive)) : Type 0 where
  pub counted : AllByRecursion (IsCounted names) formats
  pub good : (number : ℕ) → 1 ≤ number → number ≤ length names → IsGood tagged names number

-- this is the first format that doesn't
pub record IsFirstUncounted (names : List (List ℕ)) (formats : List (List Directive)) (expected : ℕ) : Type 0 where
  pub before : List (List Directive)
  pub ds : List Directive
  pub after : List (List Directive)
  pub among : formats ≡ before ++ ds ∷ after
  pub counted : AllByRecursion (IsCounted names) before
  pub expected_is : expected ≡ length (destinations_of ds)
  pub other : expected ≡ length names → ⊥

-- What is wrong with the names: the first format gives another number of values; or, where none does, the first name, from the
-- left, that isn't good is empty, or stands before as well.
abbrev pub IsNamesFault : Bool → List (List ℕ) → List (List Directive) → NamesFault → Type 0
IsNamesFault tagged names formats (fault.Count expected got) = IsFirstUncounted names formats expected × (got ≡ length names)
IsNamesFault tagged names formats (fault.Empty number) =
    AllByRecursion (IsCounted names) formats × (1 ≤ number) × (number ≤ length names) × AreGoodBelow tagged names number
    × (name_at names number ≡ [])
IsNamesFault tagged names formats (fault.Twice number) =
    AllByRecursion (IsCounted names) formats × (1 ≤ number) × (number ≤ length names) × AreGoodBelow tagged names number
    × (name_at names number ≡ [] → ⊥) × Contains (names_before tagged names number) (name_at names number)
