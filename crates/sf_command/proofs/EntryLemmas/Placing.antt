-- The place where a run stopped, by the bytes that are held and to come then.
use Rattle.std.proofs.Common.{◌≡◌, ◌∙◌, ◌++◌, ℕ, List, Option, None, Some, refl, sym, ap}
use Rattle.std.specs.Prelude.{IfSome}
use Rattle.std.specs.Io.KnownBytes.{prepend_known}
use Rattle.sf_messages.specs.declared.places.place.Place.{Place}
use Rattle.sf_messages.specs.places.Behind.{IsBehind}

pub placed_on : (place : Option Place) (input tells to_come : Option (List ℕ)) (held : List ℕ) → input ≡ tells
    → IfSome place (λ p. (c z : List ℕ) → input ≡ Some (c ++ (held ++ z)) → to_come ≡ Some z → IsBehind c p)
    → IfSome place (λ p. (c z : List ℕ) → tells ≡ Some (c ++ z) → prepend_known held to_come ≡ Some z → IsBehind c p)
placed_on None input tells to_come held same h = tt
placed_on (Some p) input tells None held same h = λ c z is left. absurd cc
placed_on (Some p) input tells (Some y) held same h = λ c z is left.
    let all : held ++ y ≡ z = cc in
    h c y (same ∙ is ∙ ap (λ w. Some (c ++ w)) (sym all)) refl
