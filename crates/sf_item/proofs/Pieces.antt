-- What is taken of a piece.
use Rattle.std.proofs.Common.{◌≡◌, ℕ, ◌+◌, ◌<◌, ◌≤◌, Bool, true, ◌||◌, ◌⊎◌, inl, inr, nat_lt, List, [], ◌∷◌, ◌++◌, length, take, drop}
use Rattle.std.proofs.Common.{slice_index_or, Option, Some, None, refl, sym, ap, ◌∙◌, subst, arith}
use Rattle.std.proofs.lemmas.Bool.Decides.{nat_tests}
use Rattle.std.proofs.lemmas.Grind.{common_steps}
use Rattle.std.proofs.lemmas.List.{append_assoc, take-append-drop, length-take, length-take-le, take-take}
use Rattle.sf_item.specs.declared.item.ItemScan.{ItemScan}
use Rattle.sf_item.specs.declared.reading.Reading.{Reading}
use Rattle.sf_item.specs.Scan.{shape_of, HasRead, ReadsNext, HasLeft, most_bytes}
use Rattle.sf_item.specs.Taking.{CanTake, conversion_of, HasTaken}
use Rattle.sf_item.specs.Tests.{shape_begins, can_take}
use Rattle.sf_item.proofs.Deciding.{tests_can_take_more}
use Rattle.sf_item.proofs.Integers.{by_lt}
use Rattle.sf_item.proofs.Fronts.{one_more, can_take_fronts}
use Rattle.sf_item.proofs.Scanning.{taken_fits, cannot_take, cannot_go_on}

begun_more : (begun : Bool) (n k : ℕ) → begun ≡ nat_lt 0 n → (begun || nat_lt 0 k) ≡ nat_lt 0 (n + k)
begun_more begun n k is = grind (arith, nat_tests, is)

left_more : (most left after : Option ℕ) (n k : ℕ) → HasLeft most left n → HasLeft left after k → HasLeft most after (n + k)
left_more None None after n k h less = less
left_more None (Some l) after n k h less = cc
left_more (Some w) None after n k h less = absurd h
left_more (Some w) (Some l) None n k h less = absurd less
left_more (Some w) (Some l) (Some m) n k h less = omega (arith, h, less)

length_both : (f t : List ℕ) → length (f ++ t) ≡ length f + length t
length_both f t = grind (arith, common_steps)

-- the bytes f and those that were read
pub all_taken : (scan : ItemScan) (f t : List ℕ) (r : Reading) (after : Option ℕ) (n : ℕ) → HasTaken scan f → length t ≡ n
    → ReadsNext scan.reading (Some r) (f ++ t) → HasLeft scan.left after n
    → HasTaken (record scan { begun = scan.begun || nat_lt 0 n; left = after; reading = r }) (f ++ t)
all_taken scan f t r after n h is next less =
    let longer = length_both f t ∙ ap (λ k. length f + k) is in
    record {
      shape = next.0 ∙ h.shape;
      begun = begun_more scan.begun (length f) n h.begun ∙ ap (nat_lt 0) (sym longer);
      left = subst (HasLeft (most_bytes (conversion_of scan).shape (conversion_of scan).width) after) (sym longer)
          (left_more (most_bytes (conversion_of scan).shape (conversion_of scan).width) scan.left after (length f) n h.left less);
      read = next.1;
    }

front_of_front : (piece : List ℕ) (k n : ℕ) → k ≤ n → take k (take n piece) ≡ take k piece
front_of_front piece k n below = take-take k n piece below

module _ (old new : ItemScan) (piece : List ℕ) (n : ℕ) (within : n ≤ length piece) (same : conversion_of new ≡ conversion_of old)
    (taken : (f : List ℕ) → HasTaken old f → HasTaken new (f ++ take n piece)) (f : List ℕ) (h : HasTaken old f) where
  -- each byte can be taken
  pub each_taken : (k : ℕ) → k < n → CanTake (conversion_of old) (f ++ take (k + 1) piece)
  each_taken k below =
      let more = one_more f piece k 0 (omega (arith, below, within)) in
      subst (CanTake (conversion_of old)) more
      ((tests_can_take_more (conversion_of old) (f ++ take k piece) (slice_index_or piece k 0)).from
      (subst (λ g. can_take (conversion_of old) g ≡ true) (sym more)
      (can_take_fronts (conversion_of old) (f ++ take (k + 1) piece) (drop (k + 1) (take n piece))
      (subst (λ g. can_take (conversion_of old) g ≡ true) (sym (cut k below))
      (subst (λ c. can_take c (f ++ take n piece) ≡ true) same (taken_fits new (f ++ take n piece) (taken f h)))))))
    where
      cut : (k : ℕ) → k < n → (f ++ take (k + 1) piece) ++ drop (k + 1) (take n piece) ≡ f ++ take n piece
      cut k below =
          append_assoc f (take (k + 1) piece) (drop (k + 1) (take n piece))
          ∙ ap (λ t. f ++ (t ++ drop (k + 1) (take n piece))) (sym (front_of_front piece (k + 1) n (omega (arith, below))))
          ∙ ap (λ t. f ++ t) (take-append-drop (k + 1) (take n piece))

  -- the next cannot, if it does not go on with the reading, or nothing is left
  pub next_refused : shape_of new.reading ≡ shape_of old.reading → n < length piece
      → ReadsNext old.reading None (f ++ take (n + 1) piece) ⊎ (new.left ≡ Some 0)
      → CanTake (conversion_of old) (f ++ take (n + 1) piece) → ⊥
  next_refused shape below why can =
      by_case why (subst (λ c. CanTake c ((f ++ take n piece) ++ slice_index_or piece n 0 ∷ [])) (sym same)
      (subst (CanTake (conversion_of old)) (sym more) can))
    where
      more : (f ++ take n piece) ++ slice_index_or piece n 0 ∷ [] ≡ f ++ take (n + 1) piece
      more = one_more f piece n 0 below

      by_case : ReadsNext old.reading None (f ++ take (n + 1) piece) ⊎ (new.left ≡ Some 0)
          → CanTake (conversion_of new) ((f ++ take n piece) ++ slice_index_or piece n 0 ∷ []) → ⊥
      by_case (inl next) =
          cannot_take new (f ++ take n piece) (slice_index_or piece n 0) (taken f h)
          (λ width. ap (λ s. shape_begins s width ((f ++ take n piece) ++ slice_index_or piece n 0 ∷ [])) shape
          ∙ ap (shape_begins (shape_of old.reading) width) more ∙ next width)
      by_case (inr full) = cannot_go_on new (f ++ take n piece) (slice_index_or piece n 0) (taken f h) full

-- the scan reads the first n bytes of a part, which is a front of the piece
module _ (scan : ItemScan) (piece part : List ℕ) (n : ℕ) (r : Reading) (after : Option ℕ)
    (front : part ≡ take (length part) piece) (most : n ≤ length part) (less : HasLeft scan.left after n)
    (read : (f : List ℕ) → HasRead scan.reading f → ReadsNext scan.reading (Some r) (f ++ take n part)) where
  abbrev pub new : ItemScan
  new = record scan { begun = scan.begun || nat_lt 0 n; left = after; reading = r }

  same_front : (k : ℕ) → k ≤ length part → take k part ≡ take k piece
  same_front k below = ap (take k) front ∙ take-take k (length part) piece below

  within : n ≤ length piece
  within = let cut = ap length front ∙ length-take (length part) piece in omega (arith, cut, most)

  pub part_taken : (f : List ℕ) → HasTaken scan f → HasTaken new (f ++ take n piece)
  part_taken f h =
      subst (λ t. HasTaken new (f ++ t)) (same_front n most)
      (all_taken scan f (take n part) r after n h (length-take-le n part most) (read f h.read) less)

  pub part_each : (f : List ℕ) → HasTaken scan f → (k : ℕ) → k < n → CanTake (conversion_of scan) (f ++ take (k + 1) piece)
  part_each f h = each_taken scan new piece n within refl part_taken f h

  pub part_stops : ((f : List ℕ) → HasRead scan.reading f → n < length part → ReadsNext scan.reading None (f ++ take (n + 1) part))
      → (length part < length piece → scan.left ≡ Some (length part))
      → (f : List ℕ) → HasTaken scan f → n < length piece → CanTake (conversion_of scan) (f ++ take (n + 1) piece) → ⊥
  part_stops stops whole f h below =
      next_refused scan new piece n within refl part_taken f h (read f h.read).0 below
      (by_lt n (length part) (λ v. ReadsNext scan.reading None (f ++ take (n + 1) piece) ⊎ (after ≡ Some 0)) stopped full)
    where
      stopped : n < length part → ReadsNext scan.reading None (f ++ take (n + 1) piece) ⊎ (after ≡ Some 0)
      stopped lt = inl (subst (λ t. ReadsNext scan.reading None (f ++ t)) (same_front (n + 1) (omega (arith, lt))) (stops f h.read lt))

      none_left : (left after : Option ℕ) → left ≡ Some n → HasLeft left after n → after ≡ Some 0
      none_left left None is less = absurd (subst (λ l. HasLeft l None n) is less)
      none_left left (Some m) is less = let sum = subst (λ l. HasLeft l (Some m) n) is less in let none : m ≡ 0 = omega (arith, sum) in
          ap Some none

      full : length part ≤ n → ReadsNext scan.reading None (f ++ take (n + 1) piece) ⊎ (after ≡ Some 0)
      full above =
          let all : length part ≡ n = omega (arith, above, most) in
          inr (none_left scan.left after (subst (λ k. scan.left ≡ Some k) all (whole (omega (arith, all, below)))) less)
