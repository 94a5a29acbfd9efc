-- Items of longer inputs, under widths, and for each input.
use Rattle.std.proofs.Common.{◌≡◌, ◌≢◌, ℕ, zero, suc, ◌+◌, ◌<◌, ◌≤◌, min, Bool, true, false, nat_lt, List, [], ◌∷◌, ◌++◌, length, take}
use Rattle.std.proofs.Common.{drop, Option, Some, None, refl, sym, ap, ◌∙◌, subst, arith, true≢false, append_assoc, append-nil}
use Rattle.std.proofs.Common.{length-append, take-append-drop}
use Rattle.std.specs.Prelude.{IfSome}
use Rattle.std.proofs.lemmas.List.{length-take-le, take-append-le, take-take}
use Rattle.std.proofs.lemmas.Bool.Decides.{nat_tests}
use Rattle.sf_base.specs.Greatest.{IsGreatest}
use Rattle.sf_format.specs.declared.directive.Shape.{Shape}
use Rattle.sf_format.specs.declared.directive.Shape.TheVariants.{Int, Text, Set, Chars, Float, Count}
use Rattle.sf_format.specs.declared.directive.Conversion.{Conversion}
use Rattle.sf_format.specs.Proper.{IsProperShape}
use Rattle.sf_item.specs.Matching.{BeginsMatch, IsWithin, IsItem}
use Rattle.sf_item.specs.Tests.{has_item, shape_begins, can_take}
use Rattle.sf_item.specs.Laws.{HasOneItem}
use Rattle.sf_item.proofs.Deciding.{ShapeBegins, tests_begins, tests_can_take}
use Rattle.sf_item.proofs.Fronts.{tests_item, shape_front, item_can_take_nothing}

-- ---- fronts

pub front_begins : (shape : Shape) (width : Option ℕ) (f t : List ℕ) → shape_begins shape width (f ++ t) ≡ true
    → shape_begins shape width f ≡ true
front_begins shape width f [] h = ap (shape_begins shape width) (sym (append-nil f)) ∙ h
front_begins shape width f (b ∷ t) h =
    shape_front shape width f b (front_begins shape width (f ++ b ∷ []) t (ap (shape_begins shape width) (append_assoc f (b ∷ []) t) ∙ h))

-- the first j bytes of x are within the width and begin a matching sequence
abbrev IsFrontOf : Conversion → List ℕ → ℕ → Type 0
IsFrontOf c x j = (j ≤ length x) × IsWithin c j × BeginsMatch c (take j x)

shorter_begins : (c : Conversion) → IsProperShape c.shape → (x : List ℕ) (i j : ℕ) → i ≤ j
    → BeginsMatch c (take j x) → BeginsMatch c (take i x)
shorter_begins c proper x i j small h =
    let tests = tests_begins c.shape c.width proper in
    let whole = ap (shape_begins c.shape c.width) (take-append-drop i (take j x)) ∙ (tests (take j x)).to h in
    subst (BeginsMatch c) (take-take i j x small) ((tests (take i (take j x))).from
    (front_begins c.shape c.width (take i (take j x)) (drop i (take j x)) whole))

shorter_within : (width : Option ℕ) (i j : ℕ) → i ≤ j → IfSome width (λ w. j ≤ w) → IfSome width (λ w. i ≤ w)
shorter_within None i j small h = tt
shorter_within (Some w) i j small h = omega (arith, small, h)

not_above : (j k : ℕ) → (k < j → ⊥) → j ≤ k
not_above j k none = elim (nat_lt k j) as (λ v. nat_lt k j ≡ v → j ≤ k) [
  | true ↦ λ e. absurd (none (grind (arith, nat_tests)))
  | false ↦ λ e. grind (arith, nat_tests)
] refl

-- the item of an input in which the first k bytes can be taken, and those with the next one can't
pub item_ends : (c : Conversion) → IsProperShape c.shape → (x : List ℕ) (k : ℕ) → k < length x → can_take c (take k x) ≡ true
    → can_take c (take (k + 1) x) ≡ false → IsItem c x k
item_ends c proper x k inside can cannot =
    let front = (tests_can_take c proper (take k x)).from can in
    record {
      holds = (omega (arith, inside), subst (IsWithin c) (length-take-le k x (omega (arith, inside))) front.0, front.1);
      above = λ j m. not_above j k (too_long j m);
    }
  where
    too_long : (j : ℕ) → IsFrontOf c x j → k < j → ⊥
    too_long j m longer =
        let fits : IsWithin c (k + 1) = shorter_within c.width (k + 1) j (omega (arith, longer)) m.1 in
        let begins : BeginsMatch c (take (k + 1) x) = shorter_begins c proper x (k + 1) j (omega (arith, longer)) m.2 in
        let taken = (tests_can_take c proper (take (k + 1) x)).to (
          subst (IsWithin c)
              (sym (length-take-le (k + 1) x (omega (arith, inside)))) fits,
          begins,
        ) in
        true≢false (sym taken ∙ cannot)

-- the item of an input all of which can be taken
pub item_whole : (c : Conversion) → IsProperShape c.shape → (x : List ℕ) (k : ℕ) → k ≡ length x → can_take c (take k x) ≡ true
    → IsItem c x k
item_whole c proper x k all can =
    let front = (tests_can_take c proper (take k x)).from can in
    let fits : k ≤ length x = omega (arith, all) in
    record {
      holds = (fits, subst (IsWithin c) (length-take-le k x fits) front.0, front.1);
      above = λ j m. let inside = m.0 in omega (arith, all, inside);
    }

-- ---- a longer input

pub item_stays : (c : Conversion) → IsProperShape c.shape → (x z : List ℕ) (k : ℕ) → IsItem c x k → k < length x → IsItem c (x ++ z) k
item_stays c proper x z k h inside = record {
  holds = (omega (arith, length-append x z), h.holds.1, subst (BeginsMatch c) (sym (take-append-le k x z (omega arith))) h.holds.2);
  above = λ j m. not_above j k (too_long j m);
}
  where
    too_long : (j : ℕ) → IsFrontOf c (x ++ z) j → k < j → ⊥
    too_long j m longer =
        let more : BeginsMatch c (take (k + 1) (x ++ z)) = shorter_begins c proper (x ++ z) (k + 1) j (omega arith) m.2 in
        let begins : BeginsMatch c (take (k + 1) x) = subst (BeginsMatch c) (take-append-le (k + 1) x z (omega arith)) more in
        let least = h.above (k + 1) (omega arith, shorter_within c.width (k + 1) j (omega arith) m.1, begins) in
        absurd (omega (arith, least))

-- ---- a width

-- what begins an item is the same under each width, of characters alone not
any_width : (shape : Shape) (width other : Option ℕ) (f : List ℕ) → shape ≢ Chars → ShapeBegins shape width f → ShapeBegins shape other f
any_width (Int numeral) width other f counted h = h
any_width (Text lead) width other f counted h = h
any_width (Set members) width other f counted h = h
any_width Chars width other f counted h = absurd (counted refl)
any_width (Float lead) width other f counted h = h
any_width Count width other f counted h = h

module _ (c : Conversion) (proper : IsProperShape c.shape) (counted : c.shape ≢ Chars) (w : ℕ) (is : c.width ≡ Some w) (x : List ℕ) (k : ℕ)
    (h : IsItem (record c { width = None }) x k) where
  cut_begins : BeginsMatch c (take (min k w) x)
  cut_begins =
      any_width c.shape None c.width (take (min k w) x) counted
      (shorter_begins (record c { width = None }) proper x (min k w) k (omega arith) h.holds.2)

  least : (j : ℕ) → IsFrontOf c x j → j ≤ min k w
  least j m =
      let unbounded = h.above j (m.0, tt, any_width c.shape c.width None (take j x) counted m.2) in
      let bounded : j ≤ w = subst (λ width. IfSome width (λ w. j ≤ w)) is m.1 in
      omega (arith, unbounded, bounded)

  pub width_cuts : IsItem c x (min k w)
  width_cuts =
      let fits = h.holds.0 in
      let cut : min k w ≤ w = omega arith in
      record { holds = (omega (arith, fits), subst (λ width. IfSome width (λ w'. min k w ≤ w')) (sym is) cut, cut_begins); above = least }

-- ---- each input

-- the greatest number up to n that passes
abbrev IsLast : (ℕ → Bool) → ℕ → ℕ → Type 0
IsLast p n k = IsGreatest (λ j. (j ≤ n) × (p j ≡ true)) k

last_up_to : (p : ℕ → Bool) → p 0 ≡ true → (n : ℕ) → (k : ℕ) × IsLast p n k
last_up_to p start zero = (0, record { holds = (omega arith, start); above = λ j h. h.0 })
last_up_to p start (suc n) = by_case (p (suc n)) refl (last_up_to p start n)
  where
    by_case : (v : Bool) → p (suc n) ≡ v → (k : ℕ) × IsLast p n k → (k : ℕ) × IsLast p (suc n) k
    by_case true e before = (suc n, record { holds = (omega arith, e); above = λ j h. h.0 })
    by_case false e (k, most) =
        let fits = most.holds.0 in (
          k,
          record {
            holds = (omega (arith, fits), most.holds.1);
            above = λ j h. most.above j (
              let other : j ≢ suc n = λ is. true≢false (sym h.1 ∙ ap p is ∙ e) in let fits' = h.0 in
                  omega (arith, fits', other),
              h.1,
            );
          },
        )

greatest_only : {P : ℕ → Type 0} {j k : ℕ} → IsGreatest P j → IsGreatest P k → j ≡ k
greatest_only {P} {j} {k} g h =
    let up = h.above j g.holds in
    let down = g.above k h.holds in
    omega (arith, up, down)

pub one_item : (c : Conversion) → has_item c.shape ≡ true → IsProperShape c.shape → (x : List ℕ) → HasOneItem c x
one_item c takes proper x =
    let (k, most) = last_up_to (λ j. can_take c (take j x)) (item_can_take_nothing c ((tests_item c.shape).from takes)) (length x) in
    let is = item k most in
    record { count = k; is = is; only = λ other h. greatest_only h is }
  where
    item : (k : ℕ) → IsLast (λ j. can_take c (take j x)) (length x) k → IsItem c x k
    item k most =
        let front = (tests_can_take c proper (take k x)).from most.holds.1 in
        record {
          holds = (most.holds.0, subst (IsWithin c) (length-take-le k x most.holds.0) front.0, front.1);
          above = λ j h. most.above j (
            h.0,
            (tests_can_take c proper (take j x)).to
                (subst (IsWithin c) (sym (length-take-le j x h.0)) h.1, h.2),
          );
        }

pub same_item : (c : Conversion) → has_item c.shape ≡ true → IsProperShape c.shape → (x : List ℕ) (j k : ℕ) → IsItem c x j → IsItem c x k
    → j ≡ k
same_item c takes proper x j k first second = let one = one_item c takes proper x in one.only j first ∙ sym (one.only k second)
