-- The bytes that a conversion takes one by one are its item.
use Rattle.std.proofs.Common.{◌≡◌, ℕ, zero, suc, ◌≤◌, Bool, true, false, cond, List, [], ◌∷◌, ◌++◌, length, take, refl, sym, ap, ◌∙◌, arith}
use Rattle.std.proofs.Common.{append_assoc, append-nil, true≢false}
use Rattle.std.proofs.lemmas.List.{length-take-le}
use Rattle.sf_base.specs.Greatest.{IsGreatest}
use Rattle.sf_format.specs.declared.directive.Conversion.{Conversion}
use Rattle.sf_format.specs.Proper.{IsProperShape}
use Rattle.sf_item.specs.Matching.{BeginsMatch, IsWithin, IsItem}
use Rattle.sf_item.specs.Tests.{can_take}
use Rattle.sf_item.proofs.Deciding.{tests_can_take}
use Rattle.sf_item.proofs.Fronts.{HasItem, can_take_front, item_can_take_nothing}
use Rattle.sf_report.specs.Computed.{len}
use Rattle.sf_report.proofs.Skips.{greatest_only, one_more-le}

pub can_take_prefix : (c : Conversion) (f t : List ℕ) → can_take c (f ++ t) ≡ true → can_take c f ≡ true
can_take_prefix c f [] h = grind (arith, append-nil)
can_take_prefix c f (b ∷ t) h = grind (arith, can_take_front, append_assoc, can_take_prefix c (f ++ b ∷ []) t)

-- ---- how many bytes are taken

pub len-le : (c : Conversion) (f y : List ℕ) → len c f y ≤ length y
len-le c f [] = omega arith
len-le c f (b ∷ y) = one_more-le (can_take c (f ++ b ∷ [])) (len c (f ++ b ∷ []) y) (length y) (len-le c (f ++ b ∷ []) y)

-- k more bytes of y can be taken after the front f, and no more
abbrev IsMost : Conversion → List ℕ → List ℕ → ℕ → Type 0
IsMost c f y k = IsGreatest (λ j. (j ≤ length y) × (can_take c (f ++ take j y) ≡ true)) k

nothing_more : (c : Conversion) (f : List ℕ) (b : ℕ) (y : List ℕ) → can_take c (f ++ b ∷ []) ≡ false
    → (j : ℕ) → can_take c (f ++ take j (b ∷ y)) ≡ true → j ≤ 0
nothing_more c f b y e zero h = omega arith
nothing_more c f b y e (suc j) h =
    let longer : can_take c ((f ++ b ∷ []) ++ take j y) ≡ true = ap (can_take c) (append_assoc f (b ∷ []) (take j y)) ∙ h in
    absurd (true≢false (sym (can_take_prefix c (f ++ b ∷ []) (take j y) longer) ∙ e))

one_more : (c : Conversion) (f : List ℕ) (b : ℕ) (y : List ℕ) (k : ℕ) → IsMost c (f ++ b ∷ []) y k
    → (j : ℕ) → (j ≤ length (b ∷ y)) × (can_take c (f ++ take j (b ∷ y)) ≡ true) → j ≤ suc k
one_more c f b y k most j h = grind (arith, append_assoc)

most_step : (c : Conversion) (f : List ℕ) (b : ℕ) (y : List ℕ) (k : ℕ) (v : Bool) → can_take c f ≡ true → can_take c (f ++ b ∷ []) ≡ v
    → (can_take c (f ++ b ∷ []) ≡ true → IsMost c (f ++ b ∷ []) y k) → IsMost c f (b ∷ y) (cond v (suc k) 0)
most_step c f b y k v start e h = grind (arith, append_assoc, one_more, append-nil, nothing_more)

len_most : (c : Conversion) (f y : List ℕ) → can_take c f ≡ true → IsMost c f y (len c f y)
len_most c f [] start = record { holds = (omega arith, ap (can_take c) (append-nil f) ∙ start); above = λ j h. h.0 }
len_most c f (b ∷ y) start =
    most_step c f b y (len c (f ++ b ∷ []) y) (can_take c (f ++ b ∷ [])) start refl (λ e. len_most c (f ++ b ∷ []) y e)

-- ---- the item

front_from : (c : Conversion) → IsProperShape c.shape → (x : List ℕ) (j : ℕ) → j ≤ length x → can_take c (take j x) ≡ true
    → IsWithin c j × BeginsMatch c (take j x)
front_from c proper x j fits e = grind (arith, (tests_can_take c proper (take j x)), (length-take-le j x fits))

front_to : (c : Conversion) → IsProperShape c.shape → (x : List ℕ) (j : ℕ) → j ≤ length x → IsWithin c j × BeginsMatch c (take j x)
    → can_take c (take j x) ≡ true
front_to c proper x j fits h = grind (arith, (tests_can_take c proper (take j x)), (length-take-le j x fits))

pub item_is : (c : Conversion) → IsProperShape c.shape → HasItem c.shape → (x : List ℕ) → IsItem c x (len c [] x)
item_is c proper takes x =
    let most = len_most c [] x (item_can_take_nothing c takes) in
    let front = front_from c proper x (len c [] x) most.holds.0 most.holds.1 in
    record {
      holds = (most.holds.0, front.0, front.1);
      above = λ j h. most.above j (h.0, front_to c proper x j h.0 (h.1, h.2));
    }

pub item_only : (c : Conversion) → IsProperShape c.shape → HasItem c.shape → (x : List ℕ) (k : ℕ) → IsItem c x k → k ≡ len c [] x
item_only c proper takes x k h = greatest_only h (item_is c proper takes x)
