-- Directives that are missing with the first of their group.
use Rattle.std.proofs.Common.{◌≡◌, ℕ, zero, suc, ◌+◌, ◌≤◌, List, [], ◌∷◌, ◌++◌, length, take, drop, map, Option, Some}
use Rattle.std.proofs.Common.{min, refl, sym, ap, ap₂, subst, ◌∙◌, arith, length-drop, cond, Bool, inl, inr}
use Rattle.std.specs.Prelude.{slice_get}
use Rattle.std.specs.List.{count_by}
use Rattle.std.proofs.lemmas.Bool.{cases_lt}
use Rattle.std.proofs.lemmas.List.{drop-drop, drop_more, take_all}
use Rattle.std.proofs.lemmas.List.Sums.{sum_by-append, sum_by-cons}
use Rattle.std.proofs.lemmas.Option.{slice_get_within, slice_get_cases, get_or_from_slice_get}
use Rattle.std.proofs.Math.Seq.{take-add}
use Rattle.sf_format.specs.declared.directive.Directive.{Directive}
use Rattle.sf_format.specs.Proper.{more_of}
use Rattle.sf_report.specs.Computed.{ran_of, ran_past}
use Rattle.sf_report.specs.Residual.{Tally, run_of, run_past}
use Rattle.sf_report.specs.Runs.{Ran, left_out, over, bytes_used}
use Rattle.sf_report.specs.Steps.{StepEnd, Passes, Stores, Misses, Fails}
use Rattle.sf_run.specs.Standing.{passed_with}

-- ---- the directive at a place

-- the rest of a list from an element on
pub drop_at : {A : Type 0} (xs : List A) (i : ℕ) (x : A) → slice_get xs i ≡ Some x → drop i xs ≡ x ∷ drop (i + 1) xs
drop_at xs i x h = drop_more xs i x (slice_get_within xs i x h) ∙ ap (λ y. y ∷ drop (i + 1) xs) (get_or_from_slice_get xs i x x h)

-- ---- the rest of a run after them

-- those of the directives that are missing with one before them
abbrev pub gone : ℕ → List Directive → List Directive
gone k ds = take k ds

past_is : (m : Option ℕ) (k : ℕ) (ds : List Directive) (at : ℕ) (t : Tally) (x : List ℕ)
    → run_past m ds at k t x ≡ run_of m (drop k ds) (at + length (gone k ds)) t x
past_is m zero [] at t x = refl
past_is m (suc k) [] at t x = refl
past_is m zero (d ∷ ds) at t x = ap (λ n. run_of m (d ∷ ds) n t x) {x = at} {y = at + 0} (omega arith)
past_is m (suc k) (d ∷ ds) at t x =
    past_is m k ds (at + 1) t x
    ∙ ap (λ n. run_of m (drop k ds) n t x) {x = at + 1 + length (gone k ds)} {y = at + suc (length (gone k ds))} (omega arith)

ran_is : (k : ℕ) (ds : List Directive) (x : List ℕ) (n : ℕ) → ran_past k ds x n ≡ map left_out (gone k ds) ++ ran_of (drop k ds) x n
ran_is zero [] x n = refl
ran_is (suc k) [] x n = refl
ran_is zero (d ∷ ds) x n = refl
ran_is (suc k) (d ∷ ds) x n = ap (λ (l : List Ran). left_out d ∷ l) (ran_is k ds x n)

pub drop_gone : {A : Type 0} (k : ℕ) (xs : List A) → drop (length (take k xs)) xs ≡ drop k xs
drop_gone zero [] = refl
drop_gone (suc k) [] = refl
drop_gone zero (x ∷ xs) = refl
drop_gone (suc k) (x ∷ xs) = drop_gone k xs

pub gone_most : {A : Type 0} (k : ℕ) (xs : List A) → length (take k xs) ≡ min k (length xs)
gone_most zero xs = grind arith
gone_most (suc k) [] = grind arith
gone_most (suc k) (x ∷ xs) = let rest = gone_most k xs in grind arith

-- a front of no more than there is
pub take_most : {A : Type 0} (n k : ℕ) (xs : List A) → n ≡ min (length xs) k → take n xs ≡ take k xs
take_most n k xs is = elim (cases_lt k (length xs)) [
  | inl less ↦ ap (λ m. take m xs) {x = n} {y = k} (omega (arith, is, less))
  | inr all ↦ take_all n xs (omega (arith, is, all)) ∙ sym (take_all k xs all)
]

-- a front of so many is one of as many as it has
pub own_front : {A : Type 0} (front : List A) (k : ℕ) (xs : List A) → front ≡ take k xs → front ≡ take (length front) xs
own_front {A} front k xs is = is ∙ ends k xs ∙ ap (λ (l : List A). take (length l) xs) (sym is)
  where
    ends : (k : ℕ) (xs : List A) → take k xs ≡ take (length (take k xs)) xs
    ends zero xs = refl
    ends (suc k) [] = refl
    ends (suc k) (x ∷ xs) = ap (λ (l : List A). x ∷ l) (ends k xs)

-- ---- the place after them

module _ (ds : List Directive) (p : ℕ) (d : Directive) (at : slice_get ds p ≡ Some d) where
  -- those that are missing where the directive at the place ends so
  abbrev pub others : StepEnd → List Directive
  others f = gone (over d f) (drop (p + 1) ds)

  pub others_within : (f : StepEnd) → p + 1 + length (others f) ≤ length ds
  others_within f =
      let low = slice_get_within ds p d at in
      let few = gone_most (over d f) (drop (p + 1) ds) in
      let rest = length-drop (p + 1) ds in
      grind arith

  pub place_is : (f : StepEnd) → passed_with ds p d f ≡ p + 1 + length (others f)
  place_is Passes = omega arith
  place_is (Stores slot v) = omega arith
  place_is (Fails status) = omega arith
  place_is Misses =
      let low = slice_get_within ds p d at in
      let few = gone_most (more_of d) (drop (p + 1) ds) in
      let rest = length-drop (p + 1) ds in
      grind arith

  rest_is : (f : StepEnd) → drop (over d f) (drop (p + 1) ds) ≡ drop (passed_with ds p d f) ds
  rest_is f = sym (drop_gone (over d f) (drop (p + 1) ds)) ∙ drop-drop (length (others f)) (p + 1) ds
      ∙ ap (λ n. drop n ds) (sym (place_is f))

  -- the run goes on after them
  pub past_from : (m : Option ℕ) (f : StepEnd) (t : Tally) (x : List ℕ)
      → run_past m (drop (p + 1) ds) (p + 1 + 1) (over d f) t x
      ≡ run_of m (drop (passed_with ds p d f) ds) (passed_with ds p d f + 1) t x
  past_from m f t x =
      let place = place_is f in
      past_is m (over d f) (drop (p + 1) ds) (p + 1 + 1) t x
      ∙ ap₂ (λ (l : List Directive) (n : ℕ). run_of m l n t x) (rest_is f) (omega (arith, place))

  pub ran_from : (f : StepEnd) (x : List ℕ) (n : ℕ)
      → ran_past (over d f) (drop (p + 1) ds) x n ≡ map left_out (others f) ++ ran_of (drop (passed_with ds p d f) ds) x n
  ran_from f x n =
      ran_is (over d f) (drop (p + 1) ds) x n
      ∙ ap (λ (l : List Directive). map left_out (others f) ++ ran_of l x n) (rest_is f)

-- they take nothing
pub used_nothing : (ds : List Directive) → bytes_used (map left_out ds) ≡ 0
used_nothing [] = refl
used_nothing (d ∷ ds) =
    let all = sum_by-cons (λ (r : Ran). r.bytes) (left_out d) (map left_out ds) in
    omega (arith, all, used_nothing ds)

pub as_many : (ds : List Directive) → length (map left_out ds) ≡ length ds
as_many [] = refl
as_many (d ∷ ds) = ap suc (as_many ds)

-- ---- what holds after each directive

-- what each directive keeps, so many keep
pub kept_on : (P : ℕ → Type 0) (ds : List Directive) → ((p : ℕ) (d : Directive) → slice_get ds p ≡ Some d → P p → P (p + 1))
    → (n p : ℕ) → p + n ≤ length ds → P p → P (p + n)
kept_on P ds one zero p within h = subst P {x = p} {y = p + 0} (omega arith) h
kept_on P ds one (suc n) p within h = elim (slice_get_cases ds p).1 [
  | inl w ↦ subst P {x = p + 1 + n} {y = p + suc n} (omega arith)
      (kept_on P ds one n (p + 1) (omega (arith, within)) (one p w.0 w.2 h))
  | inr w ↦ absurd (let past = w.0 in omega (arith, within, past))
]

-- all that are missing with one
pub passed_on : (P : ℕ → Type 0) (ds : List Directive) (p q : ℕ) (d : Directive) → slice_get ds p ≡ Some d
    → ((p : ℕ) (d : Directive) → slice_get ds p ≡ Some d → P p → P (p + 1)) → q ≡ passed_with ds p d Misses → P (p + 1) → P q
passed_on P ds p q d at one is h =
    subst P (sym (is ∙ place_is ds p d at Misses)) (kept_on P ds one (length (others ds p d at Misses)) (p + 1)
    (others_within ds p d at Misses) h)

-- what so many directives count
pub count_on : (q : Directive → Bool) (ds : List Directive) (p n : ℕ)
    → count_by q (take (p + n) ds) ≡ count_by q (take p ds) + count_by q (take n (drop p ds))
count_on q ds p n = ap (count_by q) (take-add p n ds) ∙ sum_by-append (λ e. cond (q e) 1 0) (take p ds) (take n (drop p ds))
