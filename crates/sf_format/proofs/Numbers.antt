-- The numbers of the destinations of a whole format.
use Rattle.std.proofs.Common.{◌≡◌, ◌≢◌, ℕ, ◌+◌, ◌≤◌, ◌⊎◌, inl, inr, Bool, true, false, List, [], ◌∷◌, ◌++◌, length, map, None, refl, arith}
use Rattle.std.proofs.lemmas.Bool.Decides.{nat_tests}
use Rattle.std.proofs.lemmas.List.{map-append}
use Rattle.std.specs.List.{AllByRecursion, list_all}
use Rattle.sf_base.specs.Bytes.{magnitude}
use Rattle.sf_format.specs.Lists.{is_any_of, is_written}
use Rattle.sf_format.specs.Pieces.{Opening, Piece, piece_text}
use Rattle.sf_format.specs.Slots.{AreDistinct}
use Rattle.sf_format.specs.Grammar.{destinations, ArePlaced, AreAlike, AreNumbered}
use Rattle.sf_format.specs.Rules.{Rule, first_of}
use Rattle.sf_format.specs.Faults.{numbered, repeated, beyond, number_rules}
use Rattle.sf_format.proofs.Rules.{Quiet, quiet_is, quiet_from, all_append, all_front, all_back, all_map}
use Rattle.sf_format.proofs.Destinations.{destinations_cons}

abbrev pub number_of : Opening → ℕ
number_of o = magnitude 10 o.number

abbrev pub AreWritten : List Opening → Type 0
AreWritten os = AllByRecursion (λ o. o.number ≢ []) os

-- ---- the list of numbers with places

abbrev pub numbers : List (ℕ × ℕ) → List ℕ
numbers ns = map (λ n. n.0) ns

numbers_placed : (p : ℕ) (os : List Opening) → numbers (map (λ o. (number_of o, p)) os) ≡ map number_of os
numbers_placed p [] = refl
numbers_placed p (o ∷ os) = rw (numbers_placed p os)

numbered_is : (p : ℕ) (pieces : List Piece) → numbers (numbered p pieces) ≡ map number_of (destinations pieces)
numbered_is p [] = refl
numbered_is p (piece ∷ pieces) =
    simp (
      destinations_cons piece pieces,
      map-append (λ (n : ℕ × ℕ). n.0),
      map-append number_of,
      numbers_placed p,
      numbered_is (p + length (piece_text piece)) pieces,
    )

-- ---- numbers that stand twice

abbrev AreNew : List ℕ → List ℕ → Type 0
AreNew earlier ns = AllByRecursion (λ m. is_any_of earlier m ≡ false) ns

new_is : (n : ℕ) (earlier ns : List ℕ) → AreNew (n ∷ earlier) ns → AllByRecursion (λ m. m ≢ n) ns × AreNew earlier ns
new_is n earlier [] h = (tt, tt)
new_is n earlier (m ∷ ns) h = grind (arith, nat_tests, new_is n earlier ns h.1)

new_from : (n : ℕ) (earlier ns : List ℕ) → AllByRecursion (λ m. m ≢ n) ns → AreNew earlier ns → AreNew (n ∷ earlier) ns
new_from n earlier [] h k = tt
new_from n earlier (m ∷ ns) h k = grind (arith, nat_tests, new_from n earlier ns h.1 k.1)

distinct_is : (earlier : List ℕ) (ns : List (ℕ × ℕ)) → Quiet (repeated earlier ns) → AreDistinct (numbers ns) × AreNew earlier (numbers ns)
distinct_is earlier [] h = (tt, tt)
distinct_is earlier (n ∷ ns) h =
    let rest = distinct_is (n.0 ∷ earlier) ns h.1 in
    let split = new_is n.0 earlier (numbers ns) rest.1 in
    ((split.0, rest.0), (h.0, split.1))

distinct_quiet : (earlier : List ℕ) (ns : List (ℕ × ℕ)) → AreDistinct (numbers ns) → AreNew earlier (numbers ns)
    → Quiet (repeated earlier ns)
distinct_quiet earlier [] distinct fresh = tt
distinct_quiet earlier (n ∷ ns) distinct fresh =
    (fresh.0, distinct_quiet (n.0 ∷ earlier) ns distinct.1 (new_from n.0 earlier (numbers ns) distinct.0 fresh.1))

all_new : (ns : List ℕ) → AreNew [] ns
all_new [] = tt
all_new (n ∷ ns) = (refl, all_new ns)

-- ---- numbers above the count

low_is : (count : ℕ) (ns : List (ℕ × ℕ)) → Quiet (beyond count ns) → AllByRecursion (λ m. m ≤ count) (numbers ns)
low_is count [] h = tt
low_is count (n ∷ ns) h = grind (arith, nat_tests, low_is count ns h.1)

low_quiet : (count : ℕ) (ns : List (ℕ × ℕ)) → AllByRecursion (λ m. m ≤ count) (numbers ns) → Quiet (beyond count ns)
low_quiet count [] h = tt
low_quiet count (n ∷ ns) h = grind (arith, nat_tests, low_quiet count ns h.1)

low_numbered : (count : ℕ) (os : List Opening) → AreWritten os → AllByRecursion (λ m. m ≤ count) (map number_of os)
    → AllByRecursion (λ o. (o.number ≢ []) × (number_of o ≤ count)) os
low_numbered count [] h k = tt
low_numbered count (o ∷ os) h k = ((h.0, k.0), low_numbered count os h.1 k.1)

pub numbered_low : (count : ℕ) (os : List Opening) → AllByRecursion (λ o. (o.number ≢ []) × (number_of o ≤ count)) os
    → AreWritten os × AllByRecursion (λ m. m ≤ count) (map number_of os)
numbered_low count [] h = (tt, tt)
numbered_low count (o ∷ os) h = let rest = numbered_low count os h.1 in ((h.0.0, rest.0), (h.0.1, rest.1))

-- ---- all written, or none

pub all_written : (os : List Opening) → AreWritten os → list_all (λ o. is_written o.number) os ≡ true
all_written [] h = refl
all_written (o ∷ os) h = grind (arith, all_written os h.1)

not_both : (os : List Opening) → AllByRecursion (λ o. is_written o.number ≡ false) os → list_all (λ o. is_written o.number) os ≡ true
    → os ≡ []
not_both [] h e = refl
not_both (o ∷ os) h e = absurd (grind arith)

-- ---- the rules

-- the rules where each destination has a number
abbrev written_rules : List Piece → List Rule
written_rules pieces = repeated [] (numbered 0 pieces) ++ beyond (length (destinations pieces)) (numbered 0 pieces)

numbered_from : (pieces : List Piece) → AreWritten (destinations pieces) → Quiet (written_rules pieces) → AreNumbered (destinations pieces)
numbered_from pieces written quiet =
    let os = destinations pieces in
    let ns = numbered 0 pieces in
    let same = numbered_is 0 pieces in
    let twice = distinct_is [] ns (all_front (λ r. r.applies ≡ false) (repeated [] ns) _ quiet) in
    let low = low_is (length os) ns (all_back (λ r. r.applies ≡ false) (repeated [] ns) _ quiet) in
    (low_numbered (length os) os written (rw same at low), rw same at twice.0)

numbered_quiet : (pieces : List Piece) → AreNumbered (destinations pieces) → Quiet (written_rules pieces)
numbered_quiet pieces h =
    let os = destinations pieces in
    let ns = numbered 0 pieces in
    all_append (λ r. r.applies ≡ false) (repeated [] ns) (beyond (length os) ns)
    (distinct_quiet [] ns (rw (numbered_is 0 pieces) h.1) (all_new (numbers ns)))
    (low_quiet (length os) ns (rw (numbered_is 0 pieces) (numbered_low (length os) os h.0).1))

pub slots_from : (pieces : List Piece) → AreAlike (destinations pieces) → first_of (number_rules pieces) ≡ None
    → ArePlaced (destinations pieces) ⊎ AreNumbered (destinations pieces)
slots_from pieces alike e =
    elim alike [
      | inl placed ↦ inl placed
      | inr written ↦ inr (numbered_from pieces written (quiet_is (written_rules pieces)
          (rw (all_written (destinations pieces) written) at e)))
    ]

pub slots_alike : (pieces : List Piece) → ArePlaced (destinations pieces) ⊎ AreNumbered (destinations pieces)
    → AreAlike (destinations pieces)
slots_alike pieces slots =
    elim slots [
      | inl placed ↦ inl placed
      | inr h ↦ inr (numbered_low (length (destinations pieces)) (destinations pieces) h.0).0
    ]

-- destinations without numbers have no fault in them
pub unnumbered_rules : (pieces : List Piece) → AllByRecursion (λ o. is_written o.number ≡ false) (destinations pieces)
    → first_of (number_rules pieces) ≡ None
unnumbered_rules pieces none = by_written (list_all (λ o. is_written o.number) (destinations pieces)) refl
  where
    no_numbers : (ns : List (ℕ × ℕ)) → numbers ns ≡ [] → ns ≡ []
    no_numbers [] e = refl
    no_numbers (n ∷ ns) e = absurd (cc)

    by_written : (v : Bool) → list_all (λ o. is_written o.number) (destinations pieces) ≡ v → first_of (number_rules pieces) ≡ None
    by_written false e = rw e
    by_written true e =
        let empty = not_both (destinations pieces) none e in
        rw (e, no_numbers (numbered 0 pieces) (rw empty at (numbered_is 0 pieces)))

pub slots_quiet : (pieces : List Piece) → ArePlaced (destinations pieces) ⊎ AreNumbered (destinations pieces)
    → first_of (number_rules pieces) ≡ None
slots_quiet pieces slots =
    elim slots [
      | inl placed ↦
          unnumbered_rules pieces (all_map (λ o. o.number ≡ []) (λ o. is_written o.number ≡ false) (λ o e. rw e refl)
          (destinations pieces) placed.0)
      | inr h ↦
          rw (all_written (destinations pieces) (numbered_low (length (destinations pieces)) (destinations pieces) h.0).0)
          (quiet_from (written_rules pieces) (numbered_quiet pieces h))
    ]
