-- Bits of the words of a set.
use Rattle.std.proofs.Common.{◌≡◌, ◌<◌, ◌≤◌, ◌/◌, ◌%◌, ◌*◌, ◌^◌, ◌+◌, ◌-◌, ◌==◌, ◌||◌, ◌&&◌, ℕ, true, false, List, replicate, length}
use Rattle.std.proofs.Common.{get_or, set, refl, ap, sym, ◌∙◌, arith, inl, inr, bit_or, bit_and, not, min, max, nat_le, eq-eqb, lit<, zero}
use Rattle.std.proofs.Common.{suc}
use Rattle.std.proofs.Math.Nat.{mod-eq_of_lt, pow-le-pow_right}
use Rattle.std.proofs.lemmas.Bool.{cases_eq, cases_lt, ne_eqb, eqb-true}
use Rattle.std.proofs.lemmas.Bool.Decides.{nat_tests}
use Rattle.std.proofs.lemmas.Nat.{and_le_l}
use Rattle.std.proofs.lemmas.List.{get_or-set_same, get_or-set_other, get_or-replicate}
use Rattle.std.proofs.lemmas.Nat.Bits.{bit_at_set_same, bit_at_set_other, bit_at_not, bit_at-lt, bit_at_and, bit_at_or, bit_at_ones}
use Rattle.std.proofs.lemmas.Nat.Bits.{bit_at_ones_above, bit_at-zero, bit_at-trailing_zeros}
use Rattle.std.specs.Int.{bit_at, bit_not, w64, trailing_zeros}
use Rattle.sf_base.specs.Sets.{word_has}

abbrev pub with_bit : List ℕ → ℕ → List ℕ
with_bit ws b = set ws (b / 64) (bit_or (get_or ws (b / 64) 0) (1 * 2 ^ (b % 64) % 2 ^ 64))

same_place : (k b : ℕ) → k / 64 ≡ b / 64 → k % 64 ≡ b % 64 → k ≡ b
same_place k b d m = omega arith

within : (b : ℕ) → b % 64 < 64
within b = omega arith

pub word_has-with_bit : (ws : List ℕ) (b k : ℕ) → b / 64 < length ws → word_has (with_bit ws b) k ≡ (k == b || word_has ws k)
word_has-with_bit ws b k inside =
    elim (cases_eq (k / 64) (b / 64)) [
      | inr apart ↦
          let ne : k ≡ b → ⊥ = λ e. apart (ap (λ n. n / 64) e) in
          rw (get_or-set_other ws (b / 64) (k / 64) (bit_or (get_or ws (b / 64) 0) (1 * 2 ^ (b % 64) % 2 ^ 64)) 0 apart, ne_eqb k b ne) refl
      | inl here ↦ elim (cases_eq (k % 64) (b % 64)) [
        | inr other ↦
            let ne : k ≡ b → ⊥ = λ e. other (ap (λ n. n % 64) e) in
            rw (
              here,
              get_or-set_same ws (b / 64) (bit_or (get_or ws (b / 64) 0) (1 * 2 ^ (b % 64) % 2 ^ 64)) 0 inside,
              bit_at_set_other w64 (get_or ws (b / 64) 0) (b % 64) (within b) (k % 64) other,
              ne_eqb k b ne,
            ) refl
        | inl same ↦
            let e : k ≡ b = same_place k b here same in
            rw (
              e,
              get_or-set_same ws (b / 64) (bit_or (get_or ws (b / 64) 0) (1 * 2 ^ (b % 64) % 2 ^ 64)) 0 inside,
              bit_at_set_same w64 (get_or ws (b / 64) 0) (b % 64) (within b),
              eq-eqb b b refl,
            ) refl
      ]
    ]

-- ---- all bits turned

turned : (x : ℕ) → x < 2 → (1 - x == 1) ≡ not (x == 1)
turned zero h = refl
turned (suc zero) h = refl
turned (suc (suc x)) h = absurd (omega arith)

pub word_has-not : (ws vs : List ℕ) (k : ℕ) → get_or vs (k / 64) 0 ≡ bit_not w64 (get_or ws (k / 64) 0) → get_or ws (k / 64) 0 < 2 ^ 64
    → word_has vs k ≡ not (word_has ws k)
word_has-not ws vs k e fits = rw (e, bit_at_not w64 (get_or ws (k / 64) 0) (k % 64) fits (within k))
    (turned (bit_at (get_or ws (k / 64) 0) (k % 64)) (bit_at-lt (get_or ws (k / 64) 0) (k % 64)))

-- ---- common bits

both_one : (x y : ℕ) → x < 2 → y < 2 → min x y ≡ 1 → (x ≡ 1) × (y ≡ 1)
both_one x y hx hy h = (omega (arith, h), omega (arith, h))

pub common_bit : (a b : ℕ) → (bit_and a b ≡ 0 → ⊥) → bit_and a b < 2 ^ 64 → (j : ℕ) × (j < 64) × (bit_at a j ≡ 1) × (bit_at b j ≡ 1)
common_bit a b some fits =
    let n = bit_and a b in
    let positive : 0 < n = omega (arith, some) in
    let found = bit_at-trailing_zeros w64 n positive fits in
    let j = trailing_zeros w64 n in
    let both = both_one (bit_at a j) (bit_at b j) (bit_at-lt a j) (bit_at-lt b j) (sym (bit_at_and a b j) ∙ found.1) in
    (j, found.0, both.0, both.1)

pub no_common_bit : (a b j : ℕ) → bit_and a b ≡ 0 → bit_at a j ≡ 1 → bit_at b j ≡ 1 → ⊥
no_common_bit a b j none x y =
    let e : min (bit_at a j) (bit_at b j) ≡ 0 = sym (bit_at_and a b j) ∙ ap (λ n. bit_at n j) none ∙ bit_at-zero j in
    omega (arith, e, x, y)

-- byte j of word i
pub word_has_at : (ws : List ℕ) (i j : ℕ) → j < 64 → bit_at (get_or ws i 0) j ≡ 1 → word_has ws (64 * i + j) ≡ true
word_has_at ws i j small one =
    let d : (64 * i + j) / 64 ≡ i = omega arith in
    let m : (64 * i + j) % 64 ≡ j = omega arith in
    rw (d, m) (eq-eqb (bit_at (get_or ws i 0) j) 1 one)

pub word_has_bit : (ws : List ℕ) (k : ℕ) → word_has ws k ≡ true → bit_at (get_or ws (k / 64) 0) (k % 64) ≡ 1
word_has_bit ws k h = eqb-true (bit_at (get_or ws (k / 64) 0) (k % 64)) 1 h

-- a bit of a that b does not have
pub other_bit : (ws vs : List ℕ) (i : ℕ) → (bit_and (get_or ws i 0) (bit_not w64 (get_or vs i 0)) ≡ 0 → ⊥) → get_or ws i 0 < 2 ^ 64
    → get_or vs i 0 < 2 ^ 64 → i < 4
    → ((b : ℕ) → b < 256 → word_has ws b ≡ true → word_has vs b ≡ true) → ⊥
other_bit ws vs i some small small' at all =
    let x = get_or ws i 0 in
    let y = get_or vs i 0 in
    let bit = common_bit x (bit_not w64 y) some (omega (arith, small, and_le_l x (bit_not w64 y))) in
    let has = all (64 * i + bit.0) (omega (arith, bit.1, at)) (word_has_at ws i bit.0 bit.1 bit.2) in
    let d : (64 * i + bit.0) / 64 ≡ i = omega (arith, bit.1) in
    let m : (64 * i + bit.0) % 64 ≡ bit.0 = omega (arith, bit.1) in
    let one = rw (d, m) at (word_has_bit vs (64 * i + bit.0) has) in
    omega (arith, bit_at_not w64 y bit.0 small' bit.1, bit.3, one)

-- where there is none, each bit of a is one of b
pub same_bit : (ws vs : List ℕ) (k : ℕ) → bit_and (get_or ws (k / 64) 0) (bit_not w64 (get_or vs (k / 64) 0)) ≡ 0
    → get_or vs (k / 64) 0 < 2 ^ 64 → word_has ws k ≡ true → word_has vs k ≡ true
same_bit ws vs k none small has =
    let y = get_or vs (k / 64) 0 in
    let j = k % 64 in
    let one = word_has_bit ws k has in
    let turned_bit = bit_at_not w64 y j small (within k) in
    let low = bit_at-lt y j in
    let no = no_common_bit (get_or ws (k / 64) 0) (bit_not w64 y) j none one in
    elim (cases_eq (bit_at y j) 1) [
      | inl e ↦ eq-eqb (bit_at y j) 1 e
      | inr e ↦ absurd (no (omega (arith, turned_bit, low, e)))
    ]

-- words without a bit
pub word_has-zeros : (k : ℕ) → k < 256 → word_has (replicate 4 0) k ≡ false
word_has-zeros k below =
    let zero_word = get_or-replicate 4 (k / 64) zero zero (omega (arith, below)) in
    rw (zero_word, bit_at-zero (k % 64)) refl

-- ---- the bits of a range

-- the bits of word i that stand for bytes from lo to hi
abbrev pub range_bits : ℕ → ℕ → ℕ → ℕ
range_bits lo hi i = bit_and (2 ^ min (hi + 1 - 64 * i) 64 - 1) (bit_not w64 (2 ^ min (lo - 64 * i) 64 - 1))

-- so many bits at most are those of a word
below_word : (n : ℕ) → n ≤ 64 → 2 ^ n - 1 < 2 ^ 64
below_word n few =
    let most : 2 ^ n ≤ 2 ^ 64 = pow-le-pow_right (lit< tt) few in
    omega (arith, most)

-- a shift that keeps all of them
pub low_bits : (n m : ℕ) → n ≡ min m 64 → 1 * 2 ^ n % 2 ^ 128 - 1 ≡ 2 ^ min m 64 - 1
low_bits n m e =
    let few : n ≤ 64 = omega (arith, e) in
    let most : 2 ^ n ≤ 2 ^ 64 = pow-le-pow_right (lit< tt) few in
    let same : 1 * 2 ^ n ≡ 2 ^ n = omega arith in
    rw (same, mod-eq_of_lt {n = 2 ^ n} {m = 2 ^ 128} (omega (arith, most)), e) refl

in_range : (b x y lo hi k : ℕ) → b < 2 → (k ≤ hi → x ≡ 1) → (hi < k → x ≡ 0) → (k < lo → y ≡ 1) → (lo ≤ k → y ≡ 0)
    → (max b (min x (1 - y)) == 1) ≡ ((nat_le lo k && nat_le k hi) || (b == 1))
in_range b x y lo hi k few upto above below from =
    elim (cases_lt hi k) [
      | inl behind ↦ let none = above behind in grind (arith, nat_tests)
      | inr within ↦ elim (cases_lt k lo) [
        | inl before ↦ let one = below before in grind (arith, nat_tests)
        | inr here ↦ let one = upto within in let none = from here in grind (arith, nat_tests)
      ]
    ]

range_has : (w lo hi i j : ℕ) → j < 64
    → (bit_at (bit_or w (range_bits lo hi i)) j == 1) ≡ ((nat_le lo (64 * i + j) && nat_le (64 * i + j) hi) || (bit_at w j == 1))
range_has w lo hi i j small =
    let upto = min (hi + 1 - 64 * i) 64 in
    let below = min (lo - 64 * i) 64 in
    rw (
      bit_at_or w (range_bits lo hi i) j,
      bit_at_and (2 ^ upto - 1) (bit_not w64 (2 ^ below - 1)) j,
      bit_at_not w64 (2 ^ below - 1) j (below_word below (omega arith)) small,
    )
    (in_range (bit_at w j) (bit_at (2 ^ upto - 1) j) (bit_at (2 ^ below - 1) j) lo hi (64 * i + j) (bit_at-lt w j)
    (λ h. bit_at_ones upto j (omega (arith, h, small)))
    (λ h. bit_at_ones_above upto j (omega (arith, h)))
    (λ h. bit_at_ones below j (omega (arith, h, small)))
    (λ h. bit_at_ones_above below j (omega (arith, h))))

-- word i with the bits of a range, of words of which that is so before it
pub word_has-range : (ws vs : List ℕ) (lo hi i k : ℕ) → i < length vs
    → (k < 64 * i → word_has vs k ≡ ((nat_le lo k && nat_le k hi) || word_has ws k)) → (64 * i ≤ k → word_has vs k ≡ word_has ws k)
    → k < 64 * (i + 1)
    → word_has (set vs i (bit_or (get_or vs i 0) (range_bits lo hi i))) k ≡ ((nat_le lo k && nat_le k hi) || word_has ws k)
word_has-range ws vs lo hi i k inside before behind below =
    let word = bit_or (get_or vs i 0) (range_bits lo hi i) in
    elim (cases_lt k (64 * i)) [
      | inl early ↦
          let apart : k / 64 ≡ i → ⊥ = λ e. omega (arith, early, e) in
          rw (get_or-set_other vs i (k / 64) word 0 apart) (before early)
      | inr late ↦
          let here : k / 64 ≡ i = omega (arith, late, below) in
          let place : 64 * i + k % 64 ≡ k = omega (arith, late, below) in
          let had = range_has (get_or vs i 0) lo hi i (k % 64) (within k) in
          let same = behind late in
          rw (here, get_or-set_same vs i word 0 inside) (had ∙ rw place (rw here at (ap (λ b. (nat_le lo k && nat_le k hi) || b) same)))
    ]

-- the words after it stay
pub word_has-others : (ws vs : List ℕ) (i k word : ℕ) → word_has vs k ≡ word_has ws k → 64 * (i + 1) ≤ k
    → word_has (set vs i word) k ≡ word_has ws k
word_has-others ws vs i k word same behind =
    let apart : k / 64 ≡ i → ⊥ = λ e. omega (arith, behind, e) in
    rw (get_or-set_other vs i (k / 64) word 0 apart) same
