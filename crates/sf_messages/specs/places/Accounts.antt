-- What a source with an account of its lines keeps.
use Rattle.std.specs.Prelude.{◌≡◌, ℕ, List, ◌++◌, Option, Some, None, refl}
use Rattle.std.specs.Coded.{Coded, code_by, coded×, coded_ℕ, coded_list}
use Rattle.sf_messages.specs.declared.places.place.Place.{Place}
use Rattle.sf_messages.specs.places.Behind.{IsBehind}

-- the source, the bytes of its last read, and the place before them
pub record Account (S : Type 0) : Type 0 where
  pub source : S
  pub last : List ℕ
  pub place : Place

abbrev pub account_code : {S : Type 0} → Coded S → Coded (Account S)
account_code {S} code =
    code_by (S × (List ℕ × (ℕ × ℕ))) (coded× code (coded× (coded_list coded_ℕ) (coded× coded_ℕ coded_ℕ)))
    (λ a. (a.source, (a.last, (a.place.line, a.place.column))))
    (λ p. record { source = p.0; last = p.1.0; place = record { line = p.1.1.0; column = p.1.1.1 } }) (λ _. refl)

-- The input, where it is known, is what was given before the last read, what that gave, and what is to come; and the
-- place is that after the first of these.
abbrev pub IsKept : Option (List ℕ) → Option (List ℕ) → List ℕ → Place → Type 0
IsKept None to_come last place = Unit {0}
IsKept (Some t) None last place = ⊥
IsKept (Some t) (Some z) last place = (c : List ℕ) × (t ≡ c ++ (last ++ z)) × IsBehind c place
