-- Short texts that were written as they are, by the mask of their white space.
use Rattle.std.proofs.Common.{◌≡◌, ℕ, zero, suc, ◌+◌, ◌-◌, ◌≤◌, Bool, true, false, ◌&&◌, cond, eqb, leb, List, [], ◌∷◌, map, length, take}
use Rattle.std.proofs.Common.{drop, refl, sym, ap, ◌∙◌, arith, true≢false}
use Rattle.std.proofs.lemmas.Bool.{eq-eqb, eqb-true, le-leb, leb-true}
use Rattle.std.proofs.lemmas.List.{length-drop}
use Rattle.std.specs.List.{list_all, prefix_len, slice_range}
use lib.Count.{count_trailing_zeros}
use lib.Lanes.{chunk, mask_l}
use Rattle.sf_base.specs.Bytes.{is_ink, is_white}
use Rattle.sf_base.proofs.Lanes.{ends_at, goes_on}

same_bool : (a b : Bool) → (a ≡ true → b ≡ true) → (b ≡ true → a ≡ true) → a ≡ b
same_bool true b f g = sym (f refl)
same_bool false true f g = g refl
same_bool false false f g = refl

-- a front passes that is within the longest one, and no other
passes_within : (q : ℕ → Bool) (xs : List ℕ) (n : ℕ) → n ≤ prefix_len q xs → list_all q (take n xs) ≡ true
passes_within q xs zero few = refl
passes_within q [] (suc n) few = refl
passes_within q (x ∷ xs) (suc n) few = by (q x) few (passes_within q xs n)
  where
    by : (t : Bool) → suc n ≤ cond t (1 + prefix_len q xs) 0 → (n ≤ prefix_len q xs → list_all q (take n xs) ≡ true)
        → (t && list_all q (take n xs)) ≡ true
    by true few h = h (omega (arith, few))
    by false few h = absurd (omega (arith, few))

within_passing : (q : ℕ → Bool) (xs : List ℕ) (n : ℕ) → n ≤ length xs → list_all q (take n xs) ≡ true → n ≤ prefix_len q xs
within_passing q xs zero few all = omega arith
within_passing q [] (suc n) few all = few
within_passing q (x ∷ xs) (suc n) few all = by (q x) all (within_passing q xs n (omega (arith, few)))
  where
    by : (t : Bool) → (t && list_all q (take n xs)) ≡ true → (list_all q (take n xs) ≡ true → n ≤ prefix_len q xs)
        → suc n ≤ cond t (1 + prefix_len q xs) 0
    by true all h = omega (arith, h all)
    by false all h = absurd (true≢false (sym all))

no_ones : count_trailing_zeros 64 0 ≡ 64
unfolding count_trailing_zeros
no_ones = refl

-- so many bytes from a place on have no white space exactly if the lowest bit of the mask is no lower
pub ink_by_mask : (bytes : List ℕ) (at count m : ℕ) → at + 16 ≤ length bytes → count ≤ 16
    → m ≡ mask_l (map is_white (chunk at 16 bytes)) → leb count (count_trailing_zeros 64 m)
    ≡ list_all is_ink (slice_range bytes at (at + count))
ink_by_mask bytes at count m room few mask =
    same_bool (leb count (count_trailing_zeros 64 m)) (list_all is_ink (slice_range bytes at (at + count)))
    (λ e. ap (list_all is_ink) piece ∙ passes_within is_ink rest count (low (leb-true count _ e)))
    (λ e. le-leb count _ (high (within_passing is_ink rest count (omega (arith, room, few, length-drop at bytes))
    (ap (list_all is_ink) (sym piece) ∙ e))))
  where
    rest : List ℕ
    rest = drop at bytes

    piece : slice_range bytes at (at + count) ≡ take count rest
    piece = ap (λ (k : ℕ). take k rest) {x = at + count - at} {y = count} (omega arith)

    none : m ≡ 0 → (count_trailing_zeros 64 m ≡ 64) × (16 ≤ prefix_len is_ink rest)
    none z = (
      ap (count_trailing_zeros 64) z ∙ no_ones,
      omega (arith, goes_on is_white is_ink (λ xs. refl) bytes at m room mask z),
    )

    some : (m ≡ 0 → ⊥) → prefix_len is_ink rest ≡ count_trailing_zeros 64 m
    some = ends_at is_white is_ink (λ xs. refl) bytes at m room mask

    low : count ≤ count_trailing_zeros 64 m → count ≤ prefix_len is_ink rest
    low h = by (eqb m 0) refl
      where
        by : (b : Bool) → eqb m 0 ≡ b → count ≤ prefix_len is_ink rest
        by true e = omega (arith, few, (none (eqb-true m 0 e)).1)
        by false e = omega (arith, h, some (λ z. true≢false (sym (eq-eqb m 0 z) ∙ e)))

    high : count ≤ prefix_len is_ink rest → count ≤ count_trailing_zeros 64 m
    high h = by (eqb m 0) refl
      where
        by : (b : Bool) → eqb m 0 ≡ b → count ≤ count_trailing_zeros 64 m
        by true e = omega (arith, few, (none (eqb-true m 0 e)).0)
        by false e = omega (arith, h, some (λ z. true≢false (sym (eq-eqb m 0 z) ∙ e)))
