-- Destinations without a fault so far, and one more.
use Rattle.std.proofs.Common.{◌≡◌, ◌≢◌, ℕ, ◌≤◌, inl, inr, Bool, true, false, cond, not, List, [], ◌∷◌, ◌++◌, length, refl, ◌∙◌, arith}
use Rattle.std.proofs.Common.{length-append, append_assoc, append-nil, ◌+◌, ◌<◌, ◌&&◌, None, sym, subst}
use Rattle.std.proofs.lemmas.Bool.Decides.{nat_tests}
use Rattle.std.specs.List.{AllByRecursion, list_any}
use Rattle.sf_format.specs.Lists.{is_written}
use Rattle.sf_format.specs.Pieces.{Opening, Piece, Plain, Bracket}
use Rattle.sf_format.specs.Slots.{slot_of}
use Rattle.sf_format.specs.Grammar.{AreAlike, assigned_opening, destinations}
use Rattle.sf_format.specs.Passing.{slot_at, Holds}
use Rattle.sf_format.specs.Rules.{alike, slot_rules, first_of}
use Rattle.sf_format.proofs.Outcomes.{by_test}
use Rattle.sf_format.proofs.Rules.{Quiet, all_front, all_back, all_map, quiet_is, all_append}
use mathlib.Core.Bool.{beq}
use Rattle.std.specs.Prelude.{◌==◌}
use Rattle.sf_format.specs.declared.slots.Slots.{Slots}

-- ---- alike

-- those that are alike with o have a number if it has one
are_now : (o : Opening) (es : List Opening) → list_any (λ a. not (alike a o)) es ≡ false
    → AllByRecursion (λ a. is_written a.number ≡ is_written o.number) es
are_now o [] e = tt
are_now o (a ∷ es) e = grind (arith, are_now o es)

with_one : (P : Opening → Type 0) (o : Opening) (es : List Opening) → ((a : Opening) → is_written a.number ≡ is_written o.number → P a)
    → list_any (λ e. not (alike e o)) es ≡ false → AllByRecursion P (es ++ o ∷ [])
with_one P o es all same = all_append P es (o ∷ []) (all_map (λ a. is_written a.number ≡ is_written o.number) P all es (are_now o es same))
    (all o refl, tt)

none_differs : (P : Opening → Type 0) (o : Opening) (es : List Opening) → ((a : Opening) → P a → is_written a.number ≡ is_written o.number)
    → AllByRecursion P es → list_any (λ e. not (alike e o)) es ≡ false
none_differs P o [] same all = refl
none_differs P o (e ∷ es) same all = grind (arith, same e all.0, none_differs P o es same all.1)

-- one more destination, if it is assigned
pub assigned_alike : (earlier : List Opening) (p : ℕ) (o : Opening) → AreAlike earlier → Quiet (slot_rules earlier p o)
    → AreAlike (earlier ++ assigned_opening o [])
assigned_alike earlier p o before quiet =
    by_test o.star (λ v. AreAlike (earlier ++ cond v [] (o ∷ []))) (λ t. rw append-nil before)
    (λ plain. by_number plain (is_written o.number) refl)
  where
    by_number : o.star ≡ false → (v : Bool) → is_written o.number ≡ v → AreAlike (earlier ++ o ∷ [])
    by_number plain true e = inr (with_one (λ a. a.number ≢ []) o earlier (λ a same. grind arith) (grind arith))
    by_number plain false e =
        inl (
          with_one (λ a. a.number ≡ []) o earlier (λ a same. grind arith) (grind arith),
          grind (arith, nat_tests, length-append earlier (o ∷ [])),
        )

pub slot_quiet : (earlier : List Opening) (p : ℕ) (o : Opening) → AreAlike (earlier ++ assigned_opening o [])
    → Quiet (slot_rules earlier p o)
slot_quiet earlier p o h = by_star o.star refl h
  where
    tests : AreAlike (earlier ++ o ∷ []) → Quiet (slot_rules earlier p o)
    tests h =
        elim h [
          | inl placed ↦
              let here = (all_back (λ a. a.number ≡ []) earlier (o ∷ []) placed.0).0 in
              let same = none_differs (λ a. a.number ≡ []) o earlier (λ a none. rw (none, here) refl)
              (all_front (λ a. a.number ≡ []) earlier (o ∷ []) placed.0) in
              let room = length-append earlier (o ∷ []) in
              grind (arith, nat_tests)
          | inr others ↦
              let here = (all_back (λ a. a.number ≢ []) earlier (o ∷ []) others).0 in
              let same = none_differs (λ a. a.number ≢ []) o earlier (λ a some. grind arith)
              (all_front (λ a. a.number ≢ []) earlier (o ∷ []) others) in
              grind (arith, nat_tests)
        ]

    by_star : (star : Bool) → o.star ≡ star → AreAlike (earlier ++ cond star [] (o ∷ [])) → Quiet (slot_rules earlier p o)
    by_star true e h = rw e (refl, (refl, tt))
    by_star false e h = tests h

-- destinations before a later one are alike too
pub alike_front : (earlier later : List Opening) → AreAlike (earlier ++ later) → AreAlike earlier
alike_front earlier later h =
    elim h [
      | inl placed ↦ inl (all_front (λ a. a.number ≡ []) earlier later placed.0, omega (arith, length-append earlier later, placed.1))
      | inr others ↦ inr (all_front (λ a. a.number ≢ []) earlier later others)
    ]

-- ---- destinations of parts

pub destinations_cons : (piece : Piece) (pieces : List Piece) → destinations (piece ∷ pieces)
    ≡ destinations (piece ∷ []) ++ destinations pieces
destinations_cons (Plain o letter) pieces = grind arith
destinations_cons (Bracket o list) pieces = grind arith
destinations_cons _ pieces = refl

pub regroup : (earlier : List Opening) (piece : Piece) (pieces : List Piece)
    → earlier ++ destinations (piece ∷ pieces) ≡ (earlier ++ destinations (piece ∷ [])) ++ destinations pieces
regroup earlier piece pieces = rw (destinations_cons piece pieces, append_assoc)

pub destinations_push : (done : List Piece) (piece : Piece) → destinations (done ++ piece ∷ [])
    ≡ destinations done ++ destinations (piece ∷ [])
destinations_push [] piece = refl
destinations_push (first ∷ done) piece =
    destinations_cons first (done ++ piece ∷ []) ∙ simp (destinations_push done piece, destinations_cons first done, append_assoc)

pub destinations_join : (done pieces : List Piece) → destinations (done ++ pieces) ≡ destinations done ++ destinations pieces
destinations_join [] pieces = refl
destinations_join (first ∷ done) pieces =
    destinations_cons first (done ++ pieces) ∙ simp (destinations_join done pieces, destinations_cons first done, append_assoc)

-- what holds of no destination, and of each that is assigned, holds of those of a part
pub by_destination : (P : List Opening → Type 0) (piece : Piece) → P [] → ((o : Opening) → o.star ≡ false → P (o ∷ []))
    → P (destinations (piece ∷ []))
by_destination P (Plain o letter) none one = by_test o.star (λ v. P (cond v [] (o ∷ []))) (λ t. none) (one o)
by_destination P (Bracket o list) none one = by_test o.star (λ v. P (cond v [] (o ∷ []))) (λ t. none) (one o)
by_destination P _ none one = none

pub at_most_one : (piece : Piece) → length (destinations (piece ∷ [])) ≤ 1
at_most_one piece = by_destination (λ os. length os ≤ 1) piece (omega arith) (λ o plain. omega arith)

-- the slot of a part with one destination, or with a suppressed one
pub slot_there : (place : ℕ) (o : Opening) → slot_of place o ≡ slot_at place (assigned_opening o [])
slot_there place o = grind arith

-- one destination tells for all of them
any_differs : (v : Bool) (o e : Opening) (es : List Opening) → AllByRecursion (λ a. is_written a.number ≡ v) (e ∷ es)
    → list_any (λ a. not (alike a o)) (e ∷ es) ≡ not (beq v (is_written o.number))
any_differs v o e [] h = grind arith
any_differs v o e (a ∷ es) h = grind (arith, any_differs v o a es h.1)

-- before the first part
pub none_held : Holds (record { count = 0; numbered = false }) []
none_held = record { count = refl; same = tt }

-- ---- what the code computes

written_from_empty : (number : List ℕ) (empty : Bool) → empty ≡ (length number == 0) → not empty ≡ is_written number
written_from_empty [] empty e = grind (arith, nat_tests)
written_from_empty (d ∷ ds) empty e = grind (arith, nat_tests)

pub held_more : (slots : Slots) (o : Opening) (empty : Bool) (earlier : List Opening) (p : ℕ) → o.star ≡ false
    → empty ≡ (length o.number == 0)
    → Holds slots earlier → None ≡ first_of (slot_rules earlier p o)
    → (first_of (slot_rules earlier p o) ≡ None)
    × Holds (record { count = slots.count + 1; numbered = not empty }) (earlier ++ assigned_opening o [])
held_more slots o empty earlier p plain is holds none =
    let same = are_now o earlier (rw plain at (quiet_is (slot_rules earlier p o) (sym none)).0) in
    let after : List Opening → Type 0 =
    λ os. Holds (record { count = slots.count + 1; numbered = is_written o.number }) (earlier ++ os) in (
      sym none,
      rw (written_from_empty o.number empty is)
          (subst (λ v. after (cond v [] (o ∷ []))) (sym plain)
          (record {
            count = omega (arith, length-append earlier (o ∷ []), holds.count);
            same = all_append (λ a. is_written a.number ≡ is_written o.number) earlier (o ∷ []) same (refl, tt);
          })),
    )

pub mixed_result : (slots : Slots) (o : Opening) (empty : Bool) (earlier : List Opening) → o.star ≡ false → 0 < slots.count
    → empty ≡ (length o.number == 0) → Holds slots earlier
    → beq slots.numbered empty ≡ (not o.star && list_any (λ e. not (alike e o)) earlier)
mixed_result slots o empty [] plain some e holds = absurd (omega (arith, some, holds.count))
mixed_result slots o empty (first ∷ earlier) plain some e holds =
    let written = written_from_empty o.number empty e in
    rw (plain, any_differs slots.numbered o first earlier holds.same, ← written) (grind arith)
