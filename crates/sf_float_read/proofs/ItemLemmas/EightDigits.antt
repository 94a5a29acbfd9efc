-- Runs of decimal digits, eight bytes at once.
use Rattle.std.proofs.Common.{◌≡◌, ℕ, ◌+◌, ◌%◌, ◌^◌, ◌<◌, ◌≤◌, Bool, true, false, not, cond, eqb, Fits, w8, List, [], ◌∷◌, ◌++◌, map}
use Rattle.std.proofs.Common.{replicate, length, take, drop, get_or, refl, sym, ap, ap₂, ◌∙◌, arith}
use Rattle.std.proofs.lemmas.Bool.{agree_below, agree_below_at, eq-eqb, ne_eqb}
use Rattle.std.proofs.lemmas.List.{length-map, length-take-le, take-append-drop}
use Rattle.std.proofs.lemmas.List.Folds.{prefix_len-append}
use Rattle.std.proofs.lemmas.Simd.{map-map, mask_l-mod, length-chunk, chunk-fits, trailing_mask_l, leading_from_mask_l}
use Rattle.std.specs.Char.{is_ascii_digit}
use Rattle.std.specs.List.{prefix_len}
use lib.Count.{count_trailing_zeros}
use lib.Lanes.{chunk, zip2, mask_l, top, Each1}

-- ---- lanes

zip2-map : (h : ℕ → ℕ → ℕ) (f g : ℕ → ℕ) (xs : List ℕ) → zip2 h (map f xs) (map g xs) ≡ map (λ x. h (f x) (g x)) xs
zip2-map h f g [] = refl
zip2-map h f g (x ∷ xs) = ap (λ r. h (f x) (g x) ∷ r) (zip2-map h f g xs)

-- an operation on two vectors that were computed lane by lane from v
pub joined : (h : ℕ → ℕ → ℕ) (f g : ℕ → ℕ) (v : List ℕ) {a b : List ℕ} → a ≡ map f v → b ≡ map g v → zip2 h a b ≡ map (λ x. h (f x) (g x)) v
joined h f g v p q = ap₂ (zip2 h) p q ∙ zip2-map h f g v

pub splat_is : (v : List ℕ) (n y : ℕ) → length v ≡ n → replicate n y ≡ map (λ _. y) v
splat_is [] n y e = ap (λ k. replicate k y) (sym e)
splat_is (x ∷ xs) n y e = ap (λ k. replicate k y) (sym e) ∙ ap (λ r. y ∷ r) (splat_is xs (length xs) y refl)

agreeing : (p q : ℕ → Bool) → agree_below p q 256 ≡ true → (v : List ℕ) → Each1 (Fits w8) v → map p v ≡ map q v
agreeing p q all [] fits = refl
agreeing p q all (x ∷ v) fits = ap₂ (λ b bs. b ∷ bs) (agree_below_at p q 256 x all fits.0.fits) (agreeing p q all v fits.1)

-- the mask of eight lanes, where f says for each byte what its lane holds
pub mask_of_eight : (p : ℕ → Bool) (f : ℕ → ℕ) (d : List ℕ) (z : List ℕ) → 8 ≤ length d → ((k : ℕ) → Fits w8 (get_or d k 0))
    → z ≡ map f (chunk 0 8 d) → agree_below (λ x. top 7 (f x)) p 256 ≡ true
    → mask_l (map (top 7) z) % 2 ^ 64 ≡ mask_l (map p (chunk 0 8 d))
mask_of_eight p f d z room fits lanes all =
    let v = chunk 0 8 d in
    let long = length-chunk 0 8 d room in
    ap (λ l. mask_l l % 2 ^ 64) (ap (map (top 7)) lanes ∙ map-map (top 7) f v)
    ∙ mask_l-mod (map (λ x. top 7 (f x)) v) 64 (omega (arith, length-map v (λ (x : ℕ). top 7 (f x)), long))
    ∙ ap mask_l (agreeing (λ x. top 7 (f x)) p all v (chunk-fits w8 0 8 d fits))

not_not : (p : ℕ → Bool) (xs : List ℕ) → prefix_len (λ x. not (not (p x))) xs ≡ prefix_len p xs
not_not p [] = refl
not_not p (x ∷ xs) = go (p x) (not_not p xs)
  where
    go : (b : Bool) → prefix_len (λ x. not (not (p x))) xs ≡ prefix_len p xs
        → cond (not (not b)) (1 + prefix_len (λ x. not (not (p x))) xs) 0 ≡ cond b (1 + prefix_len p xs) 0
    go true e = ap (λ n. 1 + n) e
    go false e = refl

-- where no bit is set, all eight are digits
pub all_digits : (d : List ℕ) (m : ℕ) → 8 ≤ length d → m ≡ mask_l (map (λ b. not (is_ascii_digit b)) (chunk 0 8 d)) → m ≡ 0
    → 8 ≡ prefix_len is_ascii_digit (take 8 d)
all_digits d m room mask none =
    let long = length-chunk 0 8 d room in
    let run = leading_from_mask_l (λ b. not (is_ascii_digit b)) (chunk 0 8 d) (sym mask ∙ none) in
    let same = not_not is_ascii_digit (chunk 0 8 d) in
    omega (arith, long, run, same)

-- else as many as bits that are not set come before the first that is
pub some_digits : (d : List ℕ) (m : ℕ) → 8 ≤ length d → m ≡ mask_l (map (λ b. not (is_ascii_digit b)) (chunk 0 8 d)) → (m ≡ 0 → ⊥)
    → count_trailing_zeros 64 m ≡ prefix_len is_ascii_digit (take 8 d)
some_digits d m room mask some =
    let long = length-chunk 0 8 d room in
    let ne : mask_l (map (λ b. not (is_ascii_digit b)) (chunk 0 8 d)) ≡ 0 → ⊥ = λ z. some (mask ∙ z) in
    ap (count_trailing_zeros 64) mask ∙ trailing_mask_l (λ b. not (is_ascii_digit b)) 64 (chunk 0 8 d) (omega (arith, long))
    (omega (arith, ne)) ∙ not_not is_ascii_digit (chunk 0 8 d)

-- ---- eight bytes after eight bytes

module _ (q : ℕ → Bool) (d : List ℕ) (room : 8 ≤ length d) where
  long : length (take 8 d) ≡ 8
  long = length-take-le 8 d room

  cut : d ≡ take 8 d ++ drop 8 d
  cut = sym (take-append-drop 8 d)

  pub run_stops : (r : ℕ) → r ≡ prefix_len q (take 8 d) → r < 8 → prefix_len q d ≡ r
  run_stops r is short =
      let differs : eqb (prefix_len q (take 8 d)) (length (take 8 d)) ≡ false = ne_eqb _ _ (λ e. omega (arith, e, is, long, short)) in
      ap (prefix_len q) cut ∙ prefix_len-append q (take 8 d) (drop 8 d)
      ∙ ap (λ b. cond b (length (take 8 d) + prefix_len q (drop 8 d)) (prefix_len q (take 8 d))) differs ∙ sym is

  pub run_goes : 8 ≡ prefix_len q (take 8 d) → prefix_len q d ≡ 8 + prefix_len q (drop 8 d)
  run_goes whole =
      let same : eqb (prefix_len q (take 8 d)) (length (take 8 d)) ≡ true = eq-eqb _ _ (sym whole ∙ sym long) in
      ap (prefix_len q) cut ∙ prefix_len-append q (take 8 d) (drop 8 d)
      ∙ ap (λ b. cond b (length (take 8 d) + prefix_len q (drop 8 d)) (prefix_len q (take 8 d))) same
      ∙ ap (λ n. n + prefix_len q (drop 8 d)) long
