-- Eight hexadecimal digits at once: their values, how many there are, and their number as a sum of worths.
use Rattle.std.proofs.Common.{◌≡◌, ℕ, zero, suc, ◌+◌, ◌-◌, ◌*◌, ◌^◌, ◌%◌, ◌<◌, ◌≤◌, min, Bool, true, false, not, ◌&&◌, ◌||◌, T, eqb, nat_le}
use Rattle.std.proofs.Common.{cond, List, [], ◌∷◌, map, length, take, get_or, refl, sym, ap, ◌∙◌, subst, inl, inr, eq-zero-or-pos, arith}
use Rattle.std.proofs.Common.{eqb→eq, Some, Fits, w8, leb, nat_lt, replicate, ap₂}
use Rattle.std.proofs.lemmas.Bool.{agree_below, agree_below_at, eqb-true, le-leb, leb-true, lt-leb, ltb-true, ltb-false}
use Rattle.std.proofs.lemmas.List.{get_or-map, get_or-take, length-map, length-take-le}
use Rattle.std.proofs.lemmas.List.Sums.{prefix_len-le-length, prefix_len_passes, prefix_len_stops}
use Rattle.std.proofs.lemmas.Nat.{pow-add}
use Rattle.std.proofs.lemmas.Simd.{chunk-fits, length-chunk, map-map, mask_l-mod, zip2_splat_left}
use Rattle.std.proofs.Math.Nat.{mul-le-mul_right, mul-lt-mul_of_pos_right, one-le-pow, pow-le-pow_right, pow-succ'}
use Rattle.std.specs.Char.{digit_value}
use Rattle.std.specs.List.{prefix_len}
use lib.Ieee.Fits.{and_l, and_r}
use lib.Lanes.{chunk, mask_l, sel_l, top, zip2}
use Rattle.sf_item.specs.declared.eight_hex.TheConstants.{WORTHS}
use Rattle.sf_item.specs.Progress.{Digits}
use Rattle.sf_item.specs.Tests.{read}
use Rattle.sf_item.specs.Wholes.{ReadsIn, is_hex_digit}
use Rattle.sf_item.proofs.EightDigits.{agreeing}
use Rattle.sf_item.proofs.Wholes.{hex_read, sixteen_more}

-- ---- the values

-- of each two lanes one, by a test on two others
picked_map : (h : ℕ → ℕ → ℕ) (f g k l : ℕ → ℕ) (v : List ℕ) → sel_l (map (top 7) (zip2 h (map f v) (map g v))) (map k v) (map l v)
    ≡ map (λ x. cond (top 7 (h (f x) (g x))) (k x) (l x)) v
picked_map h f g k l [] = refl
picked_map h f g k l (x ∷ v) = ap (λ r. cond (top 7 (h (f x) (g x))) (k x) (l x) ∷ r) (picked_map h f g k l v)

pub picked : (h : ℕ → ℕ → ℕ) (f g k l : ℕ → ℕ) (v : List ℕ) {a b c d : List ℕ} → a ≡ map f v → b ≡ map g v → c ≡ map k v → d ≡ map l v
    → sel_l (map (top 7) (zip2 h a b)) c d ≡ map (λ x. cond (top 7 (h (f x) (g x))) (k x) (l x)) v
picked h f g k l v p q r s = (λ i. sel_l (map (top 7) (zip2 h (p i) (q i))) (r i) (s i)) ∙ picked_map h f g k l v

-- of a digit below 16 the function is its value
abbrev gives_value : (ℕ → ℕ) → ℕ → Bool
gives_value f b = nat_le 16 (digit_value b) || eqb (f b) (digit_value b)

value_given : (f : ℕ → ℕ) (b : ℕ) → gives_value f b ≡ true → digit_value b < 16 → f b ≡ digit_value b
value_given f b is low = by (nat_le 16 (digit_value b)) refl is
  where
    by : (t : Bool) → nat_le 16 (digit_value b) ≡ t → (t || eqb (f b) (digit_value b)) ≡ true → f b ≡ digit_value b
    by true high is = let above = leb-true 16 (digit_value b) high in absurd (omega (arith, above, low))
    by false other is = eqb-true (f b) (digit_value b) is

pub value_at : (f : ℕ → ℕ) (piece values : List ℕ) (i : ℕ) → 8 ≤ length piece → i < 8 → values ≡ map f (chunk 0 8 piece)
    → agree_below (gives_value f) (λ _. true) 256 ≡ true → get_or piece i 0 < 256 → digit_value (get_or piece i 0) < 16
    → get_or values i 0 ≡ digit_value (get_or piece i 0)
value_at f piece values i room below is all fits low =
    let long = length-chunk 0 8 piece room in
    ap (λ (v : List ℕ). get_or v i 0) is
    ∙ get_or-map f (chunk 0 8 piece) i 0 0 (omega (arith, long, below))
    ∙ ap f (get_or-take 8 piece i 0 below)
    ∙ value_given f (get_or piece i 0) (agree_below_at (gives_value f) (λ _. true) 256 (get_or piece i 0) all fits) low

-- and the others are 16 at least
pub others_above : (f : ℕ → ℕ) (piece values : List ℕ) → ((k : ℕ) → Fits w8 (get_or piece k 0)) → values ≡ map f (chunk 0 8 piece)
    → agree_below (λ x. nat_lt (f x) 16) is_hex_digit 256 ≡ true → map (λ x. nat_lt x 16) values ≡ map is_hex_digit (chunk 0 8 piece)
others_above f piece values fits is all =
    ap (map (λ x. nat_lt x 16)) is
    ∙ map-map (λ x. nat_lt x 16) f (chunk 0 8 piece)
    ∙ agreeing (λ x. nat_lt (f x) 16) is_hex_digit all (chunk 0 8 piece) (chunk-fits w8 0 8 piece fits)

-- ---- the mask

abbrev marks : ℕ → ℕ → ℕ
marks a b = cond (leb a b) 255 0

lane_marked : (x : ℕ) → top 7 (marks 16 x) ≡ not (nat_lt x 16)
lane_marked x = by (nat_lt x 16) refl
  where
    by : (t : Bool) → nat_lt x 16 ≡ t → top 7 (marks 16 x) ≡ not t
    by true low = let h = ltb-true x 16 low in ap (λ (b : Bool). top 7 (cond b 255 0)) (lt-leb 16 x h)
    by false high = let h = ltb-false x 16 high in ap (λ (b : Bool). top 7 (cond b 255 0)) (le-leb 16 x h)

all_marked : (r : List ℕ) → map (λ x. top 7 (marks 16 x)) r ≡ map (λ x. not (nat_lt x 16)) r
all_marked [] = refl
all_marked (x ∷ r) = ap₂ (λ b bs. b ∷ bs) (lane_marked x) (all_marked r)

pub mask_of_values : (r v : List ℕ) → length r ≡ 8 → map (λ x. nat_lt x 16) r ≡ map is_hex_digit v
    → mask_l (map (top 7) (zip2 marks (replicate 8 16) r)) % 2 ^ 64 ≡ mask_l (map (λ b. not (is_hex_digit b)) v)
mask_of_values r v long same =
    ap (λ l. mask_l (map (top 7) l) % 2 ^ 64) (zip2_splat_left marks 16 8 r long)
    ∙ ap (λ l. mask_l l % 2 ^ 64) (map-map (top 7) (marks 16) r)
    ∙ mask_l-mod (map (λ x. top 7 (marks 16 x)) r) 64 (omega (arith, length-map r (λ (x : ℕ). top 7 (marks 16 x)), long))
    ∙ ap mask_l (all_marked r ∙ sym (map-map not (λ x. nat_lt x 16) r) ∙ ap (map not) same ∙ map-map not is_hex_digit v)

-- ---- the table

abbrev are_sixteens : ℕ → Bool
are_sixteens zero = true
are_sixteens (suc k) = eqb (get_or WORTHS (7 - k) 0) (16 ^ k) && are_sixteens k

abbrev are_nothing : ℕ → Bool
are_nothing zero = true
are_nothing (suc k) = eqb (get_or WORTHS (8 + k) 0) 0 && are_nothing k

sixteens_below : (n k : ℕ) → T (are_sixteens n) → k < n → get_or WORTHS (7 - k) 0 ≡ 16 ^ k
sixteens_below zero k t h = absurd (omega (arith, h))
sixteens_below (suc n) k t h =
    elim (eq-zero-or-pos (n - k)) [
      | inl z ↦ let e : k ≡ n = omega (arith, h, z) in rw e (eqb→eq _ _ (and_l _ _ t))
      | inr g ↦ sixteens_below n k (and_r _ (are_sixteens n) t) (omega (arith, g))
    ]

nothing_below : (n k : ℕ) → T (are_nothing n) → k < n → get_or WORTHS (8 + k) 0 ≡ 0
nothing_below zero k t h = absurd (omega (arith, h))
nothing_below (suc n) k t h =
    elim (eq-zero-or-pos (n - k)) [
      | inl z ↦ let e : k ≡ n = omega (arith, h, z) in rw e (eqb→eq _ _ (and_l _ _ t))
      | inr g ↦ nothing_below n k (and_r _ (are_nothing n) t) (omega (arith, g))
    ]

-- what the digit with k digits after it is worth
worth_of : (j k : ℕ) → k < 8 → j ≡ 7 - k → get_or WORTHS j 0 ≡ 16 ^ k
worth_of j k below is = ap (λ (n : ℕ). get_or WORTHS n 0) is ∙ sixteens_below 8 k tt below

worth_behind : (j : ℕ) → 8 ≤ j → j < 16 → get_or WORTHS j 0 ≡ 0
worth_behind j low high = let is : j ≡ 8 + (j - 8) = omega (arith, low) in
    ap (λ (n : ℕ). get_or WORTHS n 0) is ∙ nothing_below 8 (j - 8) tt (omega (arith, low, high))

-- ---- the sum

-- the number of the first digits so far, as if as many zeros followed as digits are left
pub record Weighed (piece : List ℕ) (count i number : ℕ) : Type 0 where
  pub front : ℕ
  pub taken : ℕ
  pub least : front ≡ min i count
  pub read : ReadsIn 16 0 (take front piece) taken
  pub small : taken < 16 ^ front
  pub is : number ≡ taken * 16 ^ (count - i)

pub at_most_eight : (piece : List ℕ) (count : ℕ) → 8 ≤ length piece → count ≤ prefix_len is_hex_digit (take 8 piece) → count ≤ 8
at_most_eight piece count room digits = let le = prefix_len-le-length is_hex_digit (take 8 piece) in let long =
    length-take-le 8 piece room in omega (arith, digits, le, long)

module _ (piece : List ℕ) (count i number weight digit : ℕ) (room : 8 ≤ length piece)
    (digits : count ≤ prefix_len is_hex_digit (take 8 piece)) (at : i < 8)
    (worth : weight ≡ get_or WORTHS (8 - count + i) 0)
    (left : digit_value (get_or piece i 0) < 16 → digit ≡ digit_value (get_or piece i 0)) where
  most : count ≤ 8
  most = at_most_eight piece count room digits

  -- a digit among those that count
  low : i < count → digit_value (get_or piece i 0) < 16
  low below = ltb-true (digit_value (get_or piece i 0)) 16 (ap is_hex_digit (sym (get_or-take 8 piece i 0 at))
      ∙ prefix_len_passes is_hex_digit (take 8 piece) i 0 (omega (arith, digits, below)))

  weight_within : i < count → weight ≡ 16 ^ (count - (i + 1))
  weight_within below = worth ∙ worth_of (8 - count + i) (count - (i + 1)) (omega (arith, most)) (omega (arith, below, most))

  weight_behind : count ≤ i → weight ≡ 0
  weight_behind past = worth ∙ worth_behind (8 - count + i) (omega (arith, past, most)) (omega (arith, at))

  -- no product is too great
  pub product_small : weight * digit < 2 ^ 32
  product_small =
      elim (eq-zero-or-pos (count - i)) [
        | inl z ↦
            (let w : weight ≡ 0 = weight_behind (omega (arith, z)) in
            let product : weight * digit ≡ 0 * digit = ap (λ n. n * digit) w in omega (arith, product))
        | inr g ↦
            (let below : i < count = omega (arith, g) in
            let w : weight ≡ 16 ^ (count - (i + 1)) = weight_within below in
            let same = left (low below) in
            let digit_low = low below in
            let h = pow-le-pow_right {n = 16} (omega arith) {i = count - (i + 1)} {j = 7} (omega (arith, most)) in
            let small : weight ≤ 268435456 = omega (arith, w, h) in
            let le = mul-le-mul_right digit small in
            omega (arith, le, same, digit_low))
      ]

  module _ (before : Weighed piece count i number) where
    more_within : i < count → Weighed piece count (i + 1) (number + weight * digit)
    more_within below =
        let same = left (low below) in
        let digit_low = low below in
        let w : weight ≡ 16 ^ (count - (i + 1)) = weight_within below in
        let front : before.front ≡ i = (let e = before.least in omega (arith, e, below)) in
        let step : 16 ^ (count - i) ≡ 16 * 16 ^ (count - (i + 1)) = (let e : count - i ≡ suc (count - (i + 1)) = omega (arith, below) in
        ap (λ n. 16 ^ n) e ∙ pow-succ' 16 (count - (i + 1))) in
        let is = before.is in
        let product : weight * digit ≡ 16 ^ (count - (i + 1)) * digit = ap (λ n. n * digit) w in
        let more : before.taken * 16 ^ (count - i) ≡ before.taken * (16 * 16 ^ (count - (i + 1))) = ap (λ n. before.taken * n) step in
        record {
          front = i + 1;
          taken = before.taken * 16 + digit;
          least = omega (arith, below);
          read = λ numeral sign. hex_read numeral sign piece i 0 before.taken digit (omega (arith, at, room)) digit_low same
              (subst (λ n. read numeral (Some (Digits sign 16 0)) (take n piece) ≡ Some (Digits sign 16 before.taken)) front
              (before.read numeral sign));
          small = sixteen_more i before.taken digit (subst (λ n. before.taken < 16 ^ n) front before.small)
              (omega (arith, same, digit_low));
          is = omega (arith, is, product, more);
        }

    more_behind : count ≤ i → Weighed piece count (i + 1) (number + weight * digit)
    more_behind past =
        let w : weight ≡ 0 = weight_behind past in
        let same : count - (i + 1) ≡ count - i = omega (arith, past) in
        let least = before.least in
        let product : weight * digit ≡ 0 * digit = ap (λ n. n * digit) w in
        let is : number ≡ before.taken * 16 ^ (count - (i + 1)) = before.is ∙ ap (λ n. before.taken * 16 ^ n) (sym same) in
        record {
          front = before.front;
          taken = before.taken;
          least = omega (arith, least, past);
          read = before.read;
          small = before.small;
          is = omega (arith, is, product);
        }

    pub weighed_more : Weighed piece count (i + 1) (number + weight * digit)
    weighed_more =
        elim (eq-zero-or-pos (count - i)) [
          | inl z ↦ more_behind (omega (arith, z))
          | inr g ↦ more_within (omega (arith, g))
        ]

-- such a number has at most as many digits
pub weighed_small : (piece : List ℕ) (count i number : ℕ) → Weighed piece count i number → number < 16 ^ count
weighed_small piece count i number w =
    let some : 0 < 16 ^ (count - i) = (let h = one-le-pow (count - i) 16 (omega arith) in omega (arith, h)) in
    let less = mul-lt-mul_of_pos_right w.small some in
    let least = w.least in
    let all : w.front + (count - i) ≡ count = omega (arith, least) in
    let is = w.is in
    let parts : 16 ^ count ≡ 16 ^ w.front * 16 ^ (count - i) = ap (λ n. 16 ^ n) (sym all) ∙ pow-add 16 w.front (count - i) in
    omega (arith, is, less, parts)

pub eight_small : (count : ℕ) → count ≤ 8 → 16 ^ count ≤ 4294967296
eight_small count most = let h = pow-le-pow_right {n = 16} (omega arith) most in omega (arith, h)

-- all were weighed
pub weighed_all : (piece : List ℕ) (count number : ℕ) → count ≤ 8 → Weighed piece count 8 number → ReadsIn 16 0 (take count piece) number
weighed_all piece count number most w =
    let least = w.least in
    let front : w.front ≡ count = omega (arith, least, most) in
    let none : count - 8 ≡ 0 = omega (arith, most) in
    let is : number ≡ w.taken = w.is ∙ ap (λ n. w.taken * 16 ^ n) none ∙ omega arith in
    λ numeral sign. subst (λ n. read numeral (Some (Digits sign 16 0)) (take count piece) ≡ Some (Digits sign 16 n)) (sym is)
    (subst (λ n. read numeral (Some (Digits sign 16 0)) (take n piece) ≡ Some (Digits sign 16 w.taken)) front (w.read numeral sign))

-- after fewer than eight digits stands another byte
pub digits_end : (d : List ℕ) (count : ℕ) → 8 ≤ length d → count ≡ prefix_len is_hex_digit (take 8 d) → count < 8
    → 16 ≤ digit_value (get_or d count 0)
digits_end d count room is below =
    let long = length-take-le 8 d room in
    let stops = prefix_len_stops is_hex_digit (take 8 d) 0 (omega (arith, is, below, long)) in
    let at : is_hex_digit (get_or d count 0) ≡ false = ap is_hex_digit (sym (get_or-take 8 d count 0 below))
    ∙ ap (λ n. is_hex_digit (get_or (take 8 d) n 0)) is ∙ stops in
    ltb-false (digit_value (get_or d count 0)) 16 at
