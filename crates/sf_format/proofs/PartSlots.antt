-- The slots of the destinations of a whole format.
use Rattle.std.proofs.Common.{◌≡◌, ◌≢◌, ℕ, zero, suc, ◌+◌, ◌<◌, ◌≤◌, inl, inr, Bool, true, false, List, [], ◌∷◌, ◌++◌, length, map, Option}
use Rattle.std.proofs.Common.{Some, None, refl, sym, ap, ◌∙◌, arith, length-append}
use Rattle.std.proofs.lemmas.List.{length-map}
use Rattle.std.specs.List.{AllByRecursion, cons_option, filter_map}
use Rattle.std.specs.Option.{option_map}
use Rattle.sf_base.specs.Bytes.{magnitude}
use Rattle.sf_format.specs.Language.{Language, Scan, Print}
use Rattle.sf_format.specs.Digits.{IsOptionalNumber, optional_number}
use Rattle.sf_format.specs.Slots.{Slotted, slots_from, AreDistinct, AreSlots}
use Rattle.sf_format.specs.Pieces.{Opening, Piece, Plain, Bracket, GroupStart, GroupEnd, piece_text, text_of}
use Rattle.sf_format.specs.Groups.{opened_by}
use Rattle.sf_format.specs.Grammar.{IsPiece, IsFormat, ArePlaced, assigned_opening, destinations, MeanAll}
use Rattle.sf_format.specs.Passing.{slot_at}
use Rattle.sf_format.proofs.Numbers.{number_of, numbered_low, AreWritten}
use Rattle.sf_format.proofs.Destinations.{destinations_cons, by_destination}
use Rattle.sf_format.proofs.SlotLookups.{AreWithin, pigeonhole, numbers}
use Rattle.sf_format.proofs.Parts.{empty_text}
use Rattle.sf_format.proofs.Meanings.{HasSlots}

-- ---- slots

-- the slots of destinations, where place is that of the first without a number
abbrev pub slots_named : ℕ → List Opening → List ℕ
slots_named place [] = []
slots_named place (o ∷ os) = elim (optional_number o.number) [ None ↦ place | Some n ↦ n ] ∷ slots_named (place + 1) os

part_slot : (place : ℕ) (piece : Piece) (os : List Opening)
    → cons_option (slot_at place (destinations (piece ∷ []))) (slots_named (place + length (destinations (piece ∷ []))) os)
    ≡ slots_named place (destinations (piece ∷ []) ++ os)
part_slot place piece os =
    by_destination (λ here. cons_option (slot_at place here) (slots_named (place + length here) os) ≡ slots_named place (here ++ os)) piece
    (let same : place + 0 ≡ place = omega arith in ap (λ n. slots_named n os) same) (λ o plain. grind arith)

numbers_cons : (o : Option Slotted) (entries : List Slotted) → numbers (cons_option o entries)
    ≡ cons_option (option_map (λ e. e.0) o) (numbers entries)
numbers_cons o entries = grind arith

slots_all : {D : Type 0} {means : Option ℕ → ℕ → Piece → D → Type 0} {slotted : D → Option Slotted} → HasSlots D means slotted
    → (first : Bool) (place : ℕ) (pieces : List Piece) (ds : List D) → MeanAll means first place pieces ds
    → numbers (filter_map slotted ds) ≡ slots_named place (destinations pieces)
slots_all m first place [] [] h = refl
slots_all m first place (GroupStart ∷ pieces) ds h = slots_all m true place pieces ds h
slots_all m first place (GroupEnd ∷ pieces) ds h = slots_all m false place pieces ds h
slots_all {slotted = slotted} m first place (piece ∷ pieces) (d ∷ ds) h =
    let later = slots_all m false (place + length (destinations (piece ∷ []))) pieces ds h.1 in
    rw (numbers_cons (slotted d) (filter_map slotted ds), m.slot (opened_by first pieces) place piece d h.0, later)
    (part_slot place piece (destinations pieces) ∙ ap (slots_named place) (sym (destinations_cons piece pieces)))
slots_all m first place _ _ h = absurd h

-- something for each part but the marks of groups, of which none is empty
pub all_short : {D : Type 0} (language : Language) (means : Option ℕ → ℕ → Piece → D → Type 0) (first : Bool) (place : ℕ)
    (pieces : List Piece) (ds : List D)
    → AllByRecursion (IsPiece language) pieces → MeanAll means first place pieces ds → length ds ≤ length (text_of pieces)
all_short language means first place [] [] each h = omega arith
all_short language means first place (GroupStart ∷ pieces) ds each h =
    omega (arith, all_short language means true place pieces ds each.1 h, length-append (piece_text GroupStart) (text_of pieces))
all_short language means first place (GroupEnd ∷ pieces) ds each h =
    omega (arith, all_short language means false place pieces ds each.1 h, length-append (piece_text GroupEnd) (text_of pieces))
all_short language means first place (piece ∷ pieces) (d ∷ ds) each h =
    let later = all_short language means false (place + length (destinations (piece ∷ []))) pieces ds each.1 h.1 in
    omega (arith, empty_text language piece each.0, later, length-append (piece_text piece) (text_of pieces))
all_short language means first place _ _ each h = absurd h

-- ---- with numbers

slots_numbered : (place : ℕ) (os : List Opening) → AreWritten os → slots_named place os ≡ map number_of os
slots_numbered place [] h = refl
slots_numbered place (o ∷ os) h = grind (arith, slots_numbered (place + 1) os h.1)

-- the numbers of parts are at least 1 and at most 32
abbrev HaveNumbers : List Opening → Type 0
HaveNumbers os = AllByRecursion (λ o. IsOptionalNumber 32 o.number) os

assigned_number : (o : Opening) (os : List Opening) → IsOptionalNumber 32 o.number → HaveNumbers os → HaveNumbers (assigned_opening o os)
assigned_number o os h k = grind arith

have_numbers : (language : Language) (pieces : List Piece) → AllByRecursion (IsPiece language) pieces → HaveNumbers (destinations pieces)
have_numbers language [] each = tt
have_numbers (Scan profile) (Plain o b ∷ pieces) each = assigned_number o _ each.0.1.2.number (have_numbers (Scan profile) pieces each.1)
have_numbers (Scan profile) (Bracket o list ∷ pieces) each = assigned_number o _ each.0.0.number (have_numbers (Scan profile) pieces each.1)
have_numbers (Print profile) (Plain o b ∷ pieces) each = assigned_number o _ each.0.2.number (have_numbers (Print profile) pieces each.1)
have_numbers (Print profile) (Bracket o list ∷ pieces) each = absurd each.0
have_numbers language (_ ∷ pieces) each = have_numbers language pieces each.1

within : (count : ℕ) (os : List Opening) → AllByRecursion (λ o. (o.number ≢ []) × (number_of o ≤ count)) os → HaveNumbers os
    → AreWithin count (map number_of os) × AreWithin 32 (map number_of os)
within count [] h k = (tt, tt)
within count (o ∷ os) h k = let rest = within count os h.1 k.1 in (((low.0, h.0.1), rest.0), (low, rest.1))
  where
    of_number : (ds : List ℕ) → ds ≢ [] → IsOptionalNumber 32 ds → (1 ≤ magnitude 10 ds) × (magnitude 10 ds ≤ 32)
    of_number [] some is = absurd (some refl)
    of_number (d ∷ ds) some is = (omega (arith, is.1), is.2)

    low : (1 ≤ number_of o) × (number_of o ≤ 32)
    low = of_number o.number h.0.0 k.0

-- ---- without numbers

slots_placed : (place : ℕ) (os : List Opening) → AllByRecursion (λ o. o.number ≡ []) os
    → slots_named place os ≡ slots_from place (length os)
slots_placed place [] h = refl
slots_placed place (o ∷ os) h = rw (h.0, slots_placed (place + 1) os h.1)

from_within : (place n limit : ℕ) → 1 ≤ place → place + n ≤ limit + 1 → AreWithin limit (slots_from place n)
from_within place zero limit low high = tt
from_within place (suc n) limit low high =
    ((low, omega (arith, high)), from_within (place + 1) n limit (omega arith) (omega (arith, high)))

from_above : (place n m : ℕ) → m < place → AllByRecursion (λ k. k ≢ m) (slots_from place n)
from_above place zero m below = tt
from_above place (suc n) m below = ((λ e. absurd (omega (arith, e, below))), from_above (place + 1) n m (omega (arith, below)))

from_distinct : (place n : ℕ) → AreDistinct (slots_from place n)
from_distinct place zero = tt
from_distinct place (suc n) = (from_above (place + 1) n place (omega arith), from_distinct (place + 1) n)

-- ---- both

named_length : (place : ℕ) (os : List Opening) → length (slots_named place os) ≡ length os
named_length place [] = refl
named_length place (o ∷ os) = ap suc (named_length (place + 1) os)

-- a format has 32 destinations at most
pub format_few : (language : Language) (pieces : List Piece) → IsFormat language pieces → length (destinations pieces) ≤ 32
format_few language pieces is =
    let os = destinations pieces in
    elim is.slots [
      | inl placed ↦ placed.1
      | inr numbered ↦
          let low = (within (length os) os numbered.0 (have_numbers language pieces is.each)).1 in
          omega (arith, length-map os number_of, pigeonhole 32 (map number_of os) numbered.1 low)
    ]

named_good : (language : Language) (pieces : List Piece) → IsFormat language pieces
    → AreWithin (length (destinations pieces)) (slots_named 1 (destinations pieces)) × AreDistinct (slots_named 1 (destinations pieces))
named_good language pieces is =
    let os = destinations pieces in
    elim is.slots [
      | inl placed ↦
          rw (slots_placed 1 os placed.0) (from_within 1 (length os) (length os) (omega arith) (omega arith), from_distinct 1 (length os))
      | inr numbered ↦
          rw (slots_numbered 1 os (numbered_low (length os) os numbered.0).0)
          ((within (length os) os numbered.0 (have_numbers language pieces is.each)).0, numbered.1)
    ]

-- as many slots as destinations
pub slots_count : {D : Type 0} {means : Option ℕ → ℕ → Piece → D → Type 0} {slotted : D → Option Slotted} → HasSlots D means slotted
    → (pieces : List Piece) (ds : List D) → MeanAll means false 1 pieces ds → length (filter_map slotted ds) ≡ length (destinations pieces)
slots_count {slotted = slotted} m pieces ds h =
    sym (length-map (filter_map slotted ds) (λ (e : Slotted). e.0)) ∙ ap length (slots_all m false 1 pieces ds h)
    ∙ named_length 1 (destinations pieces)

pub slots_good : {D : Type 0} {language : Language} {means : Option ℕ → ℕ → Piece → D → Type 0} {slotted : D → Option Slotted}
    → HasSlots D means slotted
    → (pieces : List Piece) (ds : List D) → IsFormat language pieces → MeanAll means false 1 pieces ds → AreSlots (filter_map slotted ds)
slots_good {language = language} m pieces ds is h =
    let good = rw (← slots_all m false 1 pieces ds h, ← slots_count m pieces ds h) at (named_good language pieces is) in
    record { each = good.0; distinct = good.1 }

pub slots_in_order : {D : Type 0} {means : Option ℕ → ℕ → Piece → D → Type 0} {slotted : D → Option Slotted} → HasSlots D means slotted
    → (pieces : List Piece) (ds : List D) → ArePlaced (destinations pieces) → MeanAll means false 1 pieces ds
    → numbers (filter_map slotted ds) ≡ slots_from 1 (length (filter_map slotted ds))
slots_in_order m pieces ds placed h =
    rw (slots_count m pieces ds h) (slots_all m false 1 pieces ds h ∙ slots_placed 1 (destinations pieces) placed.0)
