-- Eight decimal digits at once: how many there are, and their number as a sum of worths.
use Rattle.std.proofs.Common.{◌≡◌, ℕ, zero, suc, ◌+◌, ◌-◌, ◌*◌, ◌%◌, ◌^◌, ◌<◌, ◌≤◌, min, Bool, true, false, not, ◌&&◌, T, eqb, eqb→eq, Fits}
use Rattle.std.proofs.Common.{w8, List, [], ◌∷◌, map, length, take, get_or, refl, sym, ap, ap₂, ◌∙◌, subst, inl, inr, eq-zero-or-pos, arith}
use Rattle.std.proofs.Common.{Some}
use Rattle.std.proofs.lemmas.Bool.{agree_below, agree_below_at}
use Rattle.std.proofs.lemmas.Bool.Decides.{nat_tests}
use Rattle.std.proofs.lemmas.List.{get_or-map, get_or-take, length-map, length-take-le}
use Rattle.std.proofs.lemmas.List.Sums.{prefix_len-le-length, prefix_len_passes, prefix_len_stops}
use Rattle.std.proofs.lemmas.Nat.{pow-add}
use Rattle.std.proofs.lemmas.Simd.{map-map, mask_l-mod, length-chunk, chunk-fits, trailing_mask_l, leading_from_mask_l}
use Rattle.std.proofs.Math.Nat.{mul-le-mul_right, mul-lt-mul_of_pos_right, one-le-pow, pow-le-pow_right, pow-succ'}
use Rattle.std.specs.Char.{digit_value, is_ascii_digit}
use Rattle.std.specs.List.{prefix_len}
use lib.Count.{count_trailing_zeros}
use lib.Ieee.Fits.{and_l, and_r}
use lib.Lanes.{chunk, mask_l, top, Each1}
use Rattle.sf_base.proofs.Lanes.{not_not}
use Rattle.sf_item.specs.declared.eight.TheConstants.{WORTHS}
use Rattle.sf_item.specs.Progress.{Digits}
use Rattle.sf_item.specs.Scan.{ReadsDecimal}
use Rattle.sf_item.specs.Tests.{read}
use Rattle.sf_item.proofs.Readings.{decimal_value, decimal_read, no_decimal}
use Rattle.sf_item.proofs.Wholes.{ten_more}

-- ---- the table

abbrev are_tens : ℕ → Bool
are_tens zero = true
are_tens (suc k) = eqb (get_or WORTHS (7 - k) 0) (10 ^ k) && are_tens k

abbrev are_nothing : ℕ → Bool
are_nothing zero = true
are_nothing (suc k) = eqb (get_or WORTHS (8 + k) 0) 0 && are_nothing k

tens_below : (n k : ℕ) → T (are_tens n) → k < n → get_or WORTHS (7 - k) 0 ≡ 10 ^ k
tens_below zero k t h = absurd (omega (arith, h))
tens_below (suc n) k t h =
    elim (eq-zero-or-pos (n - k)) [
      | inl z ↦ let e : k ≡ n = omega (arith, h, z) in rw e (eqb→eq _ _ (and_l _ _ t))
      | inr g ↦ tens_below n k (and_r _ (are_tens n) t) (omega (arith, g))
    ]

nothing_below : (n k : ℕ) → T (are_nothing n) → k < n → get_or WORTHS (8 + k) 0 ≡ 0
nothing_below zero k t h = absurd (omega (arith, h))
nothing_below (suc n) k t h =
    elim (eq-zero-or-pos (n - k)) [
      | inl z ↦ let e : k ≡ n = omega (arith, h, z) in rw e (eqb→eq _ _ (and_l _ _ t))
      | inr g ↦ nothing_below n k (and_r _ (are_nothing n) t) (omega (arith, g))
    ]

-- what the digit with k digits after it is worth
worth_of : (j k : ℕ) → k < 8 → j ≡ 7 - k → get_or WORTHS j 0 ≡ 10 ^ k
worth_of j k below is = ap (λ (n : ℕ). get_or WORTHS n 0) is ∙ tens_below 8 k tt below

worth_behind : (j : ℕ) → 8 ≤ j → j < 16 → get_or WORTHS j 0 ≡ 0
worth_behind j low high = let is : j ≡ 8 + (j - 8) = omega (arith, low) in
    ap (λ (n : ℕ). get_or WORTHS n 0) is ∙ nothing_below 8 (j - 8) tt (omega (arith, low, high))

-- ---- the sum

-- the number of the first digits so far, as if as many zeros followed as digits are left
pub record Weighed (piece : List ℕ) (count i number : ℕ) : Type 0 where
  pub front : ℕ
  pub taken : ℕ
  pub least : front ≡ min i count
  pub read : ReadsDecimal 0 (take front piece) taken
  pub small : taken < 10 ^ front
  pub is : number ≡ taken * 10 ^ (count - i)

-- the value that the subtraction leaves
digit_left : (b : ℕ) → is_ascii_digit b ≡ true → (48 ≤ b) × (b ≤ 57)
digit_left b h = (grind (arith, nat_tests, h), grind (arith, nat_tests, h))

pub at_most_eight : (piece : List ℕ) (count : ℕ) → 8 ≤ length piece → count ≤ prefix_len is_ascii_digit (take 8 piece) → count ≤ 8
at_most_eight piece count room digits = let le = prefix_len-le-length is_ascii_digit (take 8 piece) in let long =
    length-take-le 8 piece room in omega (arith, digits, le, long)

module _ (piece : List ℕ) (count i number weight digit : ℕ) (room : 8 ≤ length piece)
    (digits : count ≤ prefix_len is_ascii_digit (take 8 piece)) (at : i < 8)
    (worth : weight ≡ get_or WORTHS (8 - count + i) 0) (left : digit ≡ (get_or piece i 0 + 208) % 256)
    (before : Weighed piece count i number) where
  most : count ≤ 8
  most = at_most_eight piece count room digits

  more_within : i < count → Weighed piece count (i + 1) (number + weight * digit)
  more_within below =
      let b = get_or piece i 0 in
      let passes : is_ascii_digit b ≡ true =
      ap is_ascii_digit (sym (get_or-take 8 piece i 0 at)) ∙ prefix_len_passes is_ascii_digit (take 8 piece) i 0
      (omega (arith, digits, below)) in
      let (low, high) = digit_left b passes in
      let value = decimal_value b low high in
      let same : digit ≡ b - 48 = omega (arith, left, low, high) in
      let w : weight ≡ 10 ^ (count - (i + 1)) = worth ∙ worth_of (8 - count + i) (count - (i + 1)) (omega (arith, most))
      (omega (arith, below, most)) in
      let front : before.front ≡ i = (let e = before.least in omega (arith, e, below)) in
      let step : 10 ^ (count - i) ≡ 10 * 10 ^ (count - (i + 1)) = (let e : count - i ≡ suc (count - (i + 1)) = omega (arith, below) in
      ap (λ n. 10 ^ n) e ∙ pow-succ' 10 (count - (i + 1))) in
      let is = before.is in
      let product : weight * digit ≡ 10 ^ (count - (i + 1)) * digit = ap (λ n. n * digit) w in
      let tenfold : before.taken * 10 ^ (count - i) ≡ before.taken * (10 * 10 ^ (count - (i + 1))) = ap (λ n. before.taken * n) step in
      record {
        front = i + 1;
        taken = before.taken * 10 + digit;
        least = omega (arith, below);
        read = λ numeral sign. decimal_read numeral sign piece i 0 before.taken digit (omega (arith, at, room))
            (omega (arith, value, high, low))
            (same ∙ sym value)
            (subst (λ n. read numeral (Some (Digits sign 10 0)) (take n piece) ≡ Some (Digits sign 10 before.taken)) front
            (before.read numeral sign));
        small = ten_more i before.taken digit (subst (λ n. before.taken < 10 ^ n) front before.small) (omega (arith, same, high));
        is = omega (arith, is, product, tenfold);
      }

  more_behind : count ≤ i → Weighed piece count (i + 1) (number + weight * digit)
  more_behind past =
      let w : weight ≡ 0 = worth ∙ worth_behind (8 - count + i) (omega (arith, past, most)) (omega (arith, at)) in
      let same : count - (i + 1) ≡ count - i = omega (arith, past) in
      let least = before.least in
      let product : weight * digit ≡ 0 * digit = ap (λ n. n * digit) w in
      let is : number ≡ before.taken * 10 ^ (count - (i + 1)) = before.is ∙ ap (λ n. before.taken * 10 ^ n) (sym same) in
      record {
        front = before.front;
        taken = before.taken;
        least = omega (arith, least, past);
        read = before.read;
        small = before.small;
        is = omega (arith, is, product);
      }

  pub weighed_more : Weighed piece count (i + 1) (number + weight * digit)
  weighed_more =
      elim (eq-zero-or-pos (count - i)) [
        | inl z ↦ more_behind (omega (arith, z))
        | inr g ↦ more_within (omega (arith, g))
      ]

  -- no product is too great
  pub product_small : digit < 256 → weight * digit < 2 ^ 32
  product_small small = let low = weight_small in let le = mul-le-mul_right digit low in omega (arith, small, le)
    where
      weight_small : weight ≤ 10000000
      weight_small =
          elim (eq-zero-or-pos (count - i)) [
            | inl z ↦ (let w : weight ≡ 0 = worth ∙ worth_behind (8 - count + i) (omega (arith, z, most)) (omega (arith, at)) in
                omega (arith, w))
            | inr g ↦
                (let w : weight ≡ 10 ^ (count - (i + 1)) = worth ∙ worth_of (8 - count + i) (count - (i + 1)) (omega (arith, most))
                (omega (arith, g, most)) in
                let h = pow-le-pow_right {n = 10} (omega arith) {i = count - (i + 1)} {j = 7} (omega (arith, most)) in omega (arith, w, h))
          ]

-- such a number has at most as many digits
pub weighed_small : (piece : List ℕ) (count i number : ℕ) → Weighed piece count i number → number < 10 ^ count
weighed_small piece count i number w =
    let some : 0 < 10 ^ (count - i) = (let h = one-le-pow (count - i) 10 (omega arith) in omega (arith, h)) in
    let less = mul-lt-mul_of_pos_right w.small some in
    let least = w.least in
    let all : w.front + (count - i) ≡ count = omega (arith, least) in
    let is = w.is in
    let parts : 10 ^ count ≡ 10 ^ w.front * 10 ^ (count - i) = ap (λ n. 10 ^ n) (sym all) ∙ pow-add 10 w.front (count - i) in
    omega (arith, is, less, parts)

pub eight_small : (count : ℕ) → count ≤ 8 → 10 ^ count ≤ 100000000
eight_small count most = let h = pow-le-pow_right {n = 10} (omega arith) most in omega (arith, h)

-- all were weighed
pub weighed_all : (piece : List ℕ) (count number : ℕ) → count ≤ 8 → Weighed piece count 8 number → ReadsDecimal 0 (take count piece) number
weighed_all piece count number most w =
    let least = w.least in
    let front : w.front ≡ count = omega (arith, least, most) in
    let none : count - 8 ≡ 0 = omega (arith, most) in
    let is : number ≡ w.taken = w.is ∙ ap (λ n. w.taken * 10 ^ n) none ∙ omega arith in
    λ numeral sign. subst (λ n. read numeral (Some (Digits sign 10 0)) (take count piece) ≡ Some (Digits sign 10 n)) (sym is)
    (subst (λ n. read numeral (Some (Digits sign 10 0)) (take n piece) ≡ Some (Digits sign 10 w.taken)) front (w.read numeral sign))

-- how far a byte is above `0`
pub value_at : (piece values : List ℕ) (i : ℕ) → 8 ≤ length piece → i < 8 → values ≡ map (λ b. (b + 208) % 256) (chunk 0 8 piece)
    → get_or values i 0 ≡ (get_or piece i 0 + 208) % 256
value_at piece values i room below is =
    let long = length-chunk 0 8 piece room in
    ap (λ (v : List ℕ). get_or v i 0) is
    ∙ get_or-map (λ b. (b + 208) % 256) (chunk 0 8 piece) i 0 0 (omega (arith, long, below))
    ∙ ap (λ b. (b + 208) % 256) (get_or-take 8 piece i 0 below)

-- ---- the count

pub agreeing : (p q : ℕ → Bool) → agree_below p q 256 ≡ true → (v : List ℕ) → Each1 (Fits w8) v → map p v ≡ map q v
agreeing p q all [] fits = refl
agreeing p q all (x ∷ v) fits = ap₂ (λ b bs. b ∷ bs) (agree_below_at p q 256 x all fits.0.fits) (agreeing p q all v fits.1)

-- the mask of eight lanes, where f says for each byte what its lane holds
pub mask_of_eight : (p : ℕ → Bool) (f : ℕ → ℕ) (d : List ℕ) (z : List ℕ) → 8 ≤ length d → ((k : ℕ) → Fits w8 (get_or d k 0))
    → z ≡ map f (chunk 0 8 d) → agree_below (λ x. top 7 (f x)) p 256 ≡ true
    → mask_l (map (top 7) z) % 2 ^ 64 ≡ mask_l (map p (chunk 0 8 d))
mask_of_eight p f d z room fits lanes all =
    let v = chunk 0 8 d in
    let long = length-chunk 0 8 d room in
    ap (λ l. mask_l l % 2 ^ 64) (ap (map (top 7)) lanes ∙ map-map (top 7) f v)
    ∙ mask_l-mod (map (λ x. top 7 (f x)) v) 64 (omega (arith, length-map v (λ (x : ℕ). top 7 (f x)), long))
    ∙ ap mask_l (agreeing (λ x. top 7 (f x)) p all v (chunk-fits w8 0 8 d fits))

-- where no bit is set, all lanes pass
pub all_pass : (p : ℕ → Bool) (v : List ℕ) (m : ℕ) → length v ≡ 8 → m ≡ mask_l (map (λ b. not (p b)) v) → m ≡ 0 → 8 ≡ prefix_len p v
all_pass p v m long mask none =
    let run = leading_from_mask_l (λ b. not (p b)) v (sym mask ∙ none) in
    let same = not_not p v in
    omega (arith, long, run, same)

-- else as many as bits that are not set come before the first that is
pub some_pass : (p : ℕ → Bool) (v : List ℕ) (m : ℕ) → length v ≡ 8 → m ≡ mask_l (map (λ b. not (p b)) v) → (m ≡ 0 → ⊥)
    → count_trailing_zeros 64 m ≡ prefix_len p v
some_pass p v m long mask some =
    let ne : mask_l (map (λ b. not (p b)) v) ≡ 0 → ⊥ = λ z. some (mask ∙ z) in
    ap (count_trailing_zeros 64) mask ∙ trailing_mask_l (λ b. not (p b)) 64 v (omega (arith, long))
    (omega (arith, ne)) ∙ not_not p v

-- after fewer than eight digits stands another byte
pub digits_end : (d : List ℕ) (count : ℕ) → 8 ≤ length d → count ≡ prefix_len is_ascii_digit (take 8 d) → count < 8
    → 10 ≤ digit_value (get_or d count 0)
digits_end d count room is below =
    let long = length-take-le 8 d room in
    let stops = prefix_len_stops is_ascii_digit (take 8 d) 0 (omega (arith, is, below, long)) in
    let at : is_ascii_digit (get_or d count 0) ≡ false = ap is_ascii_digit (sym (get_or-take 8 d count 0 below))
    ∙ ap (λ n. is_ascii_digit (get_or (take 8 d) n 0)) is ∙ stops in
    no_decimal (get_or d count 0) at
