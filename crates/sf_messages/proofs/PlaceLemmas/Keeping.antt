-- What a source with an account of its lines keeps, before and after a read.
use Rattle.std.proofs.Common.{◌≡◌, ◌∙◌, ◌+◌, ℕ, List, [], ◌++◌, length, take, drop, length-append, length-drop, append_assoc}
use Rattle.std.proofs.Common.{take-append-drop, Option, None, Some, sym, ap, subst, arith}
use Rattle.std.specs.Io.KnownBytes.{Consumes}
use Rattle.sf_messages.specs.declared.places.place.Place.{Place}
use Rattle.sf_messages.specs.places.Behind.{IsBehind}
use Rattle.sf_messages.specs.places.Accounts.{IsKept}
use Rattle.sf_messages.proofs.PlaceLemmas.Splitting.{same_front}

-- the place before the end of the last read is that after what stands before this end
pub behind_front : (input to_come : Option (List ℕ)) (last : List ℕ) (place after : Place) (count : ℕ) (c held z : List ℕ)
    → IsKept input to_come last place
    → count + length held ≡ length last → input ≡ Some (c ++ (held ++ z)) → to_come ≡ Some z
    → ((before : List ℕ) → IsBehind before place → IsBehind (before ++ take count last) after) → IsBehind c after
behind_front None to_come last place after count c held z kept long is left moves = absurd cc
behind_front (Some t) None last place after count c held z kept long is left moves = absurd kept
behind_front (Some t) (Some y) last place after count c held z (before, split, at) long is left moves =
    let first = take count last in
    let end = drop count last in
    let same_left : y ≡ z = cc in
    let whole : t ≡ c ++ (held ++ z) = cc in
    let parts : (before ++ first) ++ (end ++ z) ≡ before ++ (last ++ z) =
    append_assoc before first (end ++ z) ∙ ap (λ w. before ++ w) (sym (append_assoc first end z)
    ∙ ap (λ w. w ++ z) (take-append-drop count last)) in
    let both : (before ++ first) ++ (end ++ z) ≡ c ++ (held ++ z) =
    parts ∙ ap (λ w. before ++ (last ++ w)) (sym same_left) ∙ sym split ∙ whole in
    let lengths : length (end ++ z) ≡ length (held ++ z) = omega (
      arith,
      long,
      length-append end z,
      length-append held z,
      length-drop count last,
    ) in
    subst (λ b. IsBehind b after) (same_front (before ++ first) c (end ++ z) (held ++ z) both lengths) (moves before at)

-- the last read is passed
pub passed : (input to_come : Option (List ℕ)) (last : List ℕ) (place after : Place) → IsKept input to_come last place
    → ((before : List ℕ) → IsBehind before place → IsBehind (before ++ last) after) → IsKept input to_come [] after
passed None to_come last place after kept moves = tt
passed (Some t) None last place after kept moves = kept
passed (Some t) (Some z) last place after (before, split, at) moves =
    (before ++ last, split ∙ sym (append_assoc before last z), moves before at)

-- another read gave these bytes
pub given : (input to_come left : Option (List ℕ)) (bytes : List ℕ) (place : Place) → IsKept input to_come [] place
    → Consumes to_come left bytes → IsKept input left bytes place
given None to_come left bytes place kept took = tt
given (Some t) None left bytes place kept took = absurd kept
given (Some t) (Some z) None bytes place kept took = took
given (Some t) (Some z) (Some y) bytes place (before, split, at) took = (before, split ∙ ap (λ w. before ++ w) took, at)
