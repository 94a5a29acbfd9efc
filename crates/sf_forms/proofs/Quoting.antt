-- Plain bytes, which stand between quotes as they are.
use Rattle.std.proofs.Common.{◌≡◌, ℕ, suc, ◌+◌, ◌-◌, ◌<◌, ◌≤◌, Bool, true, false, ◌&&◌, not, nat_eq, nat_le, cond, List, [], ◌∷◌, ◌++◌}
use Rattle.std.proofs.Common.{map, min, eqb, length, take, drop, get_or, drop-cons, append_assoc, refl, sym, ap, ◌∙◌, arith, true≢false}
use Rattle.std.proofs.lemmas.List.{drop-drop, take_all, length-take, length-take-le, length-drop, length-append, append-nil}
use Rattle.std.proofs.lemmas.Simd.{first_set_mask_l}
use Rattle.std.proofs.Math.Seq.{take-length, drop-length, drop-append_seam}
use Rattle.sf_base.proofs.Lanes.{ends_at, goes_on, not_not}
use Rattle.std.proofs.lemmas.Bool.{eq-eqb, eqb-true}
use lib.Count.{count_trailing_zeros}
use lib.Lanes.{chunk, mask_l}
use Rattle.std.specs.List.{flat_map, prefix_len, slice_range}
use Rattle.sf_forms.specs.Quotes.{escaped, is_plain, quoted}

of_tests : (p q r : Bool) (w x y z : List ℕ) → (not p && (not q && r)) ≡ true → cond p w (cond q x (cond r y z)) ≡ y
of_tests true q r w x y z e = absurd (true≢false (sym e))
of_tests false true r w x y z e = absurd (true≢false (sym e))
of_tests false false true w x y z e = refl
of_tests false false false w x y z e = absurd (true≢false (sym e))

pub plain_escaped : (b : ℕ) → is_plain b ≡ true → escaped b ≡ b ∷ []
plain_escaped b e = of_tests (nat_eq b 92) (nat_eq b 34) (nat_le 32 b && nat_le b 126) _ _ _ _ e

-- the plain bytes in front stand as they are
pub plain_front : (xs : List ℕ) → flat_map escaped xs ≡ take (prefix_len is_plain xs) xs ++ flat_map escaped
    (drop (prefix_len is_plain xs) xs)
plain_front [] = refl
plain_front (x ∷ xs) = go (is_plain x) refl (plain_front xs)
  where
    go : (t : Bool) → is_plain x ≡ t → flat_map escaped xs ≡ take (prefix_len is_plain xs) xs ++ flat_map escaped
        (drop (prefix_len is_plain xs) xs)
        → flat_map escaped (x ∷ xs) ≡ take (cond t (1 + prefix_len is_plain xs) 0) (x ∷ xs) ++ flat_map escaped
        (drop (cond t (1 + prefix_len is_plain xs) 0) (x ∷ xs))
    go true e h = rw (one_more (prefix_len is_plain xs)) (ap (λ (t : List ℕ). t ++ flat_map escaped xs) (plain_escaped x e)
        ∙ ap (λ (t : List ℕ). x ∷ t) h)
      where
        one_more : (n : ℕ) → 1 + n ≡ suc n
        one_more n = omega arith
    go false e h = refl

-- what is left to be written is the same when the plain bytes in front have been
pub front_written : (xs out new : List ℕ) (d run : ℕ) → d ≤ length xs → run ≡ prefix_len is_plain (slice_range xs d (length xs))
    → new ≡ out ++ slice_range xs d (d + run)
    → new ++ flat_map escaped (drop (d + run) xs) ≡ out ++ flat_map escaped (drop d xs)
front_written xs out new d run within is e =
    let all : slice_range xs d (length xs) ≡ drop d xs = take_all (length xs - d) (drop d xs) (omega (arith, within, length-drop d xs)) in
    let some : slice_range xs d (d + run) ≡ take run (drop d xs) = ap (λ (k : ℕ). take k (drop d xs)) {x = d + run - d} {y = run}
    (omega arith) in
    let rest : drop (d + run) xs ≡ drop run (drop d xs) = sym (drop-drop run d xs) in
    let n : run ≡ prefix_len is_plain (drop d xs) = is ∙ ap (prefix_len is_plain) all in
    let front : flat_map escaped (drop d xs) ≡ take run (drop d xs) ++ flat_map escaped (drop run (drop d xs)) =
    rw n (plain_front (drop d xs)) in
    rw (e, some, rest, front) (append_assoc out (take run (drop d xs)) (flat_map escaped (drop run (drop d xs))))

-- the plain bytes are within the text
pub run_within : (xs : List ℕ) (d run : ℕ) → d ≤ length xs → run ≤ length (slice_range xs d (length xs)) → d + run ≤ length xs
run_within xs d run within few =
    omega (arith, within, few, length-drop d xs, length-take (length xs - d) (drop d xs))

-- and when the byte after them has been
pub byte_written : (xs out new : List ℕ) (d : ℕ) → d < length xs → new ≡ out ++ escaped (get_or xs d 0)
    → new ++ flat_map escaped (drop (d + 1) xs) ≡ out ++ flat_map escaped (drop d xs)
byte_written xs out new d within e =
    let at : drop d xs ≡ get_or xs d 0 ∷ drop (suc d) xs = drop-cons xs d 0 within in
    let next : drop (d + 1) xs ≡ drop (suc d) xs = ap (λ (k : ℕ). drop k xs) {x = d + 1} {y = suc d} (omega arith) in
    rw (e, next, at) (append_assoc out (escaped (get_or xs d 0)) (flat_map escaped (drop (suc d) xs)))

-- a text that is plain as a whole stands as it is
pub whole_front : (xs : List ℕ) → prefix_len is_plain xs ≡ length xs → flat_map escaped xs ≡ xs
whole_front xs e =
    let all : take (prefix_len is_plain xs) xs ≡ xs = rw e (take-length xs) in
    let none : drop (prefix_len is_plain xs) xs ≡ [] = rw e (drop-length xs) in
    plain_front xs ∙ rw (all, none) (append-nil xs)

-- a text with its quotes
pub quoted_is : (out begun written new xs text : List ℕ) → begun ≡ out ++ 34 ∷ [] → written ≡ begun ++ text
    → text ≡ flat_map escaped xs → new ≡ written ++ 34 ∷ [] → new ≡ out ++ quoted xs
quoted_is out begun written new xs text first middle is last =
    rw (last, middle, first, ← is) (append_assoc (out ++ 34 ∷ []) text (34 ∷ []) ∙ append_assoc out (34 ∷ []) (text ++ 34 ∷ []))

-- ---- bytes in an array with more after

-- what stands after changes no front that ends before
min_front : (q : ℕ → Bool) (xs ys : List ℕ) → min (length xs) (prefix_len q (xs ++ ys)) ≡ prefix_len q xs
min_front q [] ys = omega arith
min_front q (x ∷ xs) ys = go (q x) (min_front q xs ys)
  where
    go : (t : Bool) → min (length xs) (prefix_len q (xs ++ ys)) ≡ prefix_len q xs
        → min (suc (length xs)) (cond t (1 + prefix_len q (xs ++ ys)) 0) ≡ cond t (1 + prefix_len q xs) 0
    go true e = omega (arith, e)
    go false e = omega arith

no_ones : count_trailing_zeros 64 0 ≡ 64
unfolding count_trailing_zeros
no_ones = refl

-- the lowest bit of the mask of sixteen bytes tells how many of the first few are plain
pub short_front : (xs zs : List ℕ) (n m : ℕ) → m ≡ mask_l (map (λ b. not (is_plain b)) (chunk 0 16 (xs ++ drop n zs))) → n ≡ length xs
    → length zs ≡ 16 → n < 16
    → min (length xs) (count_trailing_zeros 64 m) ≡ prefix_len is_plain xs
short_front xs zs n m mask n_is all few =
    let ys : List ℕ = drop n zs in
    let long : length (xs ++ ys) ≡ 16 = omega (arith, length-append xs ys, length-drop n zs, n_is, all, few) in
    let whole : chunk 0 16 (xs ++ ys) ≡ xs ++ ys = take_all 16 (xs ++ ys) (omega (arith, long)) in
    let is : m ≡ mask_l (map (λ b. not (is_plain b)) (xs ++ ys)) = mask
    ∙ ap (λ (ts : List ℕ). mask_l (map (λ b. not (is_plain b)) ts)) whole in
    let first = first_set_mask_l (λ b. not (is_plain b)) (xs ++ ys) 16 long (omega arith) in
    let count : cond (eqb m 0) 16 (count_trailing_zeros 64 m) ≡ prefix_len is_plain (xs ++ ys) =
    rw is (first ∙ not_not is_plain (xs ++ ys)) in
    by ys (eqb m 0) refl count ∙ min_front is_plain xs ys
  where
    by : (ys : List ℕ) (b : Bool) → eqb m 0 ≡ b → cond b 16 (count_trailing_zeros 64 m) ≡ prefix_len is_plain (xs ++ ys)
        → min (length xs) (count_trailing_zeros 64 m) ≡ min (length xs) (prefix_len is_plain (xs ++ ys))
    by ys true e count =
        let none : count_trailing_zeros 64 m ≡ 64 = ap (count_trailing_zeros 64) (eqb-true m 0 e) ∙ no_ones in
        omega (arith, few, n_is, count, none)
    by ys false e count = ap (min (length xs)) count

-- the same of any bytes that pass a test, and that stand in a buffer, with more before and after
pub front_by_mask : (q : ℕ → Bool) (begun new xs rest : List ℕ) (at m : ℕ) → at ≤ length begun → new ≡ take at begun ++ (xs ++ rest)
    → at + 16 ≤ length new → length xs ≤ 16 → m ≡ mask_l (map (λ b. not (q b)) (chunk at 16 new))
    → min (length xs) (count_trailing_zeros 64 m) ≡ prefix_len q xs
front_by_mask q begun new xs rest at m low is room few mask =
    by (eqb m 0) refl ∙ ap (λ (ys : List ℕ). min (length xs) (prefix_len q ys)) there ∙ min_front q xs rest
  where
    there : drop at new ≡ xs ++ rest
    there = ap (drop at) is ∙ ap (λ (k : ℕ). drop k (take at begun ++ (xs ++ rest))) (sym (length-take-le at begun low))
        ∙ drop-append_seam (take at begun) (xs ++ rest)

    by : (b : Bool) → eqb m 0 ≡ b
        → min (length xs) (count_trailing_zeros 64 m) ≡ min (length xs) (prefix_len q (drop at new))
    by true e =
        let none : m ≡ 0 = eqb-true m 0 e in
        let many : count_trailing_zeros 64 m ≡ 64 = ap (count_trailing_zeros 64) none ∙ no_ones in
        omega (arith, few, many, goes_on (λ b. not (q b)) q (not_not q) new at m room mask none)
    by false e = ap (min (length xs))
        (sym (ends_at (λ b. not (q b)) q (not_not q) new at m room mask (λ z. true≢false (sym (eq-eqb m 0 z) ∙ e))))
