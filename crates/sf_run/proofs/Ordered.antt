-- Formats whose values come in the order of their slots.
use Rattle.std.proofs.Common.{◌≡◌, ◌<◌, ◌≤◌, ◌+◌, ◌-◌, [], ◌∷◌, ◌++◌, ◌∙◌, ℕ, zero}
use Rattle.std.proofs.Common.{suc, List, length, map, drop, take, refl, sym, ap, subst, Option, Some}
use Rattle.std.proofs.Common.{append_assoc, arith}
use Rattle.std.proofs.lemmas.List.{length-append, length-map, take_all}
use Rattle.std.proofs.lemmas.Option.{none-some}
use Rattle.std.specs.List.{AllByRecursion}
use Rattle.std.specs.Prelude.{get_or, slice_get}
use Rattle.sf_format.specs.declared.directive.Directive.{Directive}
use Rattle.sf_format.specs.declared.layout.Row.{Row}
use Rattle.sf_format.specs.Layout.{row_of}
use Rattle.sf_format.specs.Proper.{AreInOrder, destinations_of, slots_of}
use Rattle.sf_format.specs.Slots.{slots_from}
use Rattle.sf_run.specs.Texts.{slot_of}
use Rattle.sf_run.proofs.Slots.{slots_after_some, slots_split}

from_more : (place n : ℕ) → slots_from place n ++ (place + n) ∷ [] ≡ slots_from place (n + 1)
from_more place zero = ap (λ (k : ℕ). k ∷ []) {x = place + 0} {y = place} (omega arith)
from_more place (suc n) =
    ap (λ (l : List ℕ). place ∷ l)
    (ap (λ (k : ℕ). slots_from (place + 1) n ++ k ∷ []) {x = place + suc n} {y = place + 1 + n} (omega arith) ∙ from_more (place + 1) n)
    ∙ ap (slots_from place) {x = suc (n + 1)} {y = suc n + 1} (omega arith)

nil_cons : (a : ℕ) (xs : List ℕ) → [] ≡ a ∷ xs → ⊥
nil_cons a xs is = cc

head_is : (a b : ℕ) (xs ys : List ℕ) → a ∷ xs ≡ b ∷ ys → a ≡ b
head_is a b xs ys is = cc

tail_is : (a b : ℕ) (xs ys : List ℕ) → a ∷ xs ≡ b ∷ ys → xs ≡ ys
tail_is a b xs ys is = cc

some_is : (a b : Directive) → Some a ≡ Some b → a ≡ b
some_is a b is = cc

from_length : (place n : ℕ) → length (slots_from place n) ≡ n
from_length place zero = refl
from_length place (suc n) = ap suc (from_length (place + 1) n)

-- the slot of a row is that of its directive
row_slot : (d : Directive) → (row_of d).slot ≡ slot_of d
row_slot d = grind arith

row_of_place : (ds : List Directive) (i : ℕ) (default : Row) → i < length (map row_of ds)
    → (d : Directive) × (slice_get ds i ≡ Some d) × (get_or (map row_of ds) i default ≡ row_of d)
row_of_place [] i default low = absurd (omega (arith, low))
row_of_place (d ∷ ds) zero default low = (d, refl, refl)
row_of_place (d ∷ ds) (suc i) default low = row_of_place ds i default (omega (arith, low))

-- a row is that of the directive in its place
pub row_at : (rows : List Row) (ds : List Directive) (i : ℕ) (default : Row) → rows ≡ map row_of ds → i < length rows
    → (d : Directive) × (slice_get ds i ≡ Some d) × (get_or rows i default ≡ row_of d)
row_at rows ds i default is low =
    let place = row_of_place ds i default (subst (λ (l : List Row). i < length l) is low) in
    (place.0, place.1, ap (λ (l : List Row). get_or l i default) is ∙ place.2)

pub slot_at : (row : Row) (d : Directive) (slot : Option ℕ) → row ≡ row_of d → row.slot ≡ slot → slot_of d ≡ slot
slot_at row d slot of own = sym (row_slot d) ∙ ap (λ (r : Row). r.slot) (sym of) ∙ own

-- the slots so far with the next one, which is the next number
pub order_more : (ds : List Directive) (p : ℕ) (d : Directive) (slot next new : ℕ) → slice_get ds p ≡ Some d
    → slot_of d ≡ Some slot → slot ≡ next → 1 ≤ next → new ≡ slot + 1
    → slots_of (take p ds) ≡ slots_from 1 (next - 1) → slots_of (take (p + 1) ds) ≡ slots_from 1 (new - 1)
order_more ds p d slot next new at own same some is so_far =
    slots_after_some ds p d slot at own ∙ ap (λ (l : List ℕ). l ++ slot ∷ []) so_far
    ∙ ap (λ (k : ℕ). slots_from 1 (next - 1) ++ k ∷ []) {x = slot} {y = 1 + (next - 1)} (omega (arith, same, some))
    ∙ from_more 1 (next - 1) ∙ ap (slots_from 1) {x = next - 1 + 1} {y = new - 1} (omega (arith, same, some, is))

-- there are no more slots so far than destinations
pub order_few : (ds : List Directive) (p next : ℕ) → length (destinations_of ds) ≤ 32 → slots_of (take p ds) ≡ slots_from 1 (next - 1)
    → next ≤ 33
order_few ds p next few so_far =
    let many : length (slots_of ds) ≡ length (slots_of (take p ds)) + length (slots_of (drop p ds)) =
    ap length (slots_split ds p) ∙ length-append (slots_of (take p ds)) (slots_of (drop p ds)) in
    let here : length (slots_of (take p ds)) ≡ next - 1 = ap length so_far ∙ from_length 1 (next - 1) in
    let all : length (slots_of ds) ≡ length (destinations_of ds) = length-map (destinations_of ds) (λ s. s.0) in
    omega (arith, many, here, all, few)

-- where all slots are the first ones, the format is in order
pub in_order : (ds : List Directive) (p next : ℕ) → length ds ≤ p → slots_of (take p ds) ≡ slots_from 1 (next - 1) → AreInOrder ds
in_order ds p next all so_far =
    let whole : slots_of ds ≡ slots_from 1 (next - 1) = ap slots_of (sym (take_all p ds all)) ∙ so_far in
    let many : length (destinations_of ds) ≡ next - 1 =
    sym (length-map (destinations_of ds) (λ s. s.0)) ∙ ap length whole ∙ from_length 1 (next - 1) in
    whole ∙ ap (slots_from 1) (sym many)

-- what holds of the directives so far, and of the next one
pub all_more : (P : Directive → Type 0) (ds : List Directive) (i : ℕ) (d : Directive) → slice_get ds i ≡ Some d
    → AllByRecursion P (take i ds) → P d → AllByRecursion P (take (i + 1) ds)
all_more P ds i d at all this = subst (λ n. AllByRecursion P (take n ds)) {x = suc i} {y = i + 1} (omega arith) (go ds i at all)
  where
    go : (es : List Directive) (k : ℕ) → slice_get es k ≡ Some d → AllByRecursion P (take k es) → AllByRecursion P (take (suc k) es)
    go [] k at all = absurd (none-some d at)
    go (e ∷ es) zero at all = (subst P (sym (some_is e d at)) this, tt)
    go (e ∷ es) (suc k) at all = (all.0, go es k at all.1)

-- what holds of each directive holds of this one
pub all_at : (P : Directive → Type 0) (ds : List Directive) (i : ℕ) (d : Directive) → slice_get ds i ≡ Some d → AllByRecursion P ds → P d
all_at P [] i d at all = absurd (none-some d at)
all_at P (e ∷ es) zero d at all = subst P (some_is e d at) all.0
all_at P (e ∷ es) (suc i) d at all = all_at P es i d at all.1

-- the number at a place of numbers in order
from_at : (place n k slot : ℕ) (rest : List ℕ) → slots_from place n ≡ slots_from place k ++ slot ∷ rest → slot ≡ place + k
from_at place zero zero slot rest is = absurd (nil_cons slot rest is)
from_at place (suc n) zero slot rest is = sym (head_is place slot (slots_from (place + 1) n) rest is) ∙ omega arith
from_at place zero (suc k) slot rest is = absurd (nil_cons place (slots_from (place + 1) k ++ slot ∷ rest) is)
from_at place (suc n) (suc k) slot rest is =
    from_at (place + 1) n k slot rest
    (tail_is place place (slots_from (place + 1) n) (slots_from (place + 1) k ++ slot ∷ rest) is) ∙ omega arith

-- where the format is in order, the next slot is the next number
pub next_slot : (ds : List Directive) (p : ℕ) (d : Directive) (slot next : ℕ) → slice_get ds p ≡ Some d → slot_of d ≡ Some slot
    → 1 ≤ next → AreInOrder ds → slots_of (take p ds) ≡ slots_from 1 (next - 1) → slot ≡ next
next_slot ds p d slot next at own some order so_far =
    let whole : slots_of ds ≡ slots_of (take (p + 1) ds) ++ slots_of (drop (p + 1) ds) = slots_split ds (p + 1) in
    let front : slots_of (take (p + 1) ds) ≡ slots_from 1 (next - 1) ++ slot ∷ [] =
    slots_after_some ds p d slot at own ∙ ap (λ (l : List ℕ). l ++ slot ∷ []) so_far in
    let here : slots_from 1 (length (destinations_of ds)) ≡ slots_from 1 (next - 1) ++ slot ∷ slots_of (drop (p + 1) ds) =
    sym order ∙ whole ∙ ap (λ (l : List ℕ). l ++ slots_of (drop (p + 1) ds)) front
    ∙ append_assoc (slots_from 1 (next - 1)) (slot ∷ []) (slots_of (drop (p + 1) ds)) in
    let is = from_at 1 (length (destinations_of ds)) (next - 1) slot (slots_of (drop (p + 1) ds)) here in
    omega (arith, is, some)
