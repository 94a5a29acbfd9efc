-- No decimal with fewer digits is read as the float.
use Rattle.std.proofs.Common.{◌≡◌, ◌⊎◌, ℕ, zero, suc, ◌+◌, ◌-◌, ◌*◌, ◌/◌, ◌%◌, ◌^◌, ◌<◌, ◌≤◌, Bool, true, false, nat_eq, if◌then◌else◌}
use Rattle.std.proofs.Common.{Option, Some, None, T, pos, refl, sym, ap, ◌∙◌, subst, inl, inr, arith, eq-zero-or-pos, eq-or-lt_of_le}
use Rattle.std.proofs.Common.{true≢false, mul-pos, mul-le-mul_right, pow_mono, lt_of_lt_of_le, pow-suc, min}
use Rattle.std.proofs.lemmas.Bool.{eqb-false, eq-eqb}
use Rattle.std.proofs.lemmas.Nat.{pow-add}
use Rattle.std.proofs.lemmas.Option.{same_Some, none-some}
use Rattle.std.proofs.Math.Nat.{pow-le-pow_right, le_trans, le-div_iff_mul-le, div-mul-le_self, lt-div-mul-add, div-lt_iff_lt-mul, le_of_lt}
use lib.Dec.{lit<}
use lib.Ieee.{emax}
use lib.Ieee.Fits.{down_pos, up_pos}
use Rattle.std.specs.Float.{is_sign_negative}
use Rattle.std.specs.Float.Ieee.{Float, Format, nan, inf, fin, round, up, down, fits, to_bits, binary32, binary64}
use Rattle.fast_float.proofs.Patterns.{shape}
use Rattle.sf_base.specs.declared.real.Real as real
use Rattle.sf_float.specs.Computed.{count_of}
use Rattle.sf_float.specs.Scaled.{is_nonzero}
use Rattle.sf_float.proofs.Limbs.{power_pos}
use Rattle.sf_float.proofs.Powers.{closest_ge, closest_le}
use Rattle.sf_float.proofs.ReadBack.{scaled_of_value}
use Rattle.sf_float.specs.fewest.Digits.{format_of, number_of, most_decimals, cut, near, other, read_as, reads_back, first_power, tried}
use Rattle.sf_float.specs.fewest.Digits.{or_else, searched, trimmed, shortest}
use Rattle.sf_float.specs.fewest.Laws.{NoneShorter}
use Rattle.sf_float.proofs.FewestLemmas.Between.{parts_fit, reads_itself, between, unsigned, resigned}
use Rattle.sf_float.proofs.FewestLemmas.Cuts.{cut_of_value, other_above, other_below}
use Rattle.sf_float.proofs.FewestLemmas.FirstDigits.{count_fits, count_some, count_most, count_least, long, no_longer}
use Rattle.sf_float.proofs.FewestLemmas.ReadBack.{most_few, pattern_fits, tried_back, zero_round, finite_sign}

-- ---- digits without the zeros at the end

trimmed_less : (k n last : ℕ) → (trimmed k n last).0 ≤ n
unfolding trimmed
trimmed_less zero n last = omega arith
trimmed_less (suc k) n last = by (nat_eq (n % 10) 0) (trimmed_less k (n / 10) (last + 1))
  where
    by : (b : Bool) → (trimmed k (n / 10) (last + 1)).0 ≤ n / 10
        → (if b then trimmed k (n / 10) (last + 1) else (n, last)).0 ≤ n
    by true h = omega (arith, h)
    by false h = omega arith

pub trimmed_few : (k n last b : ℕ) → 0 < b → n ≤ 10 ^ b → (trimmed (suc k) n last).0 < 10 ^ b
unfolding trimmed
trimmed_few k n last b B l = by (nat_eq (n % 10) 0) refl
  where
    ten : 10 ^ b ≡ 10 ^ (b - 1) * 10
    ten = let e : b ≡ suc (b - 1) = omega arith in ap (λ t. 10 ^ t) e ∙ pow-suc 10 (b - 1)

    by : (z : Bool) → nat_eq (n % 10) 0 ≡ z → (if z then trimmed k (n / 10) (last + 1) else (n, last)).0 < 10 ^ b
    by true h = omega (arith, trimmed_less k (n / 10) (last + 1), l, ten, power_pos 10 (b - 1) (lit< tt))
    by false h =
        elim (eq-or-lt_of_le l) [
          | inr less ↦ less
          | inl same ↦ absurd (eqb-false (n % 10) 0 h (omega (arith, same, ten)))
        ]

-- ---- powers of ten

-- u has no more than t digits, and v more than w
pub shift : (u v t w b c g h : ℕ) → u ≤ 10 ^ t → 10 ^ w ≤ v → t + (b + c) ≤ w + (g + h) → u * 10 ^ b * 10 ^ c ≤ v * 10 ^ g * 10 ^ h
shift u v t w b c g h U V e =
    let l : 10 ^ t * (10 ^ b * 10 ^ c) ≤ 10 ^ w * (10 ^ g * 10 ^ h) =
    rw (← pow-add 10 b c, ← pow-add 10 t (b + c), ← pow-add 10 g h, ← pow-add 10 w (g + h))
    (pow-le-pow_right {n = 10} (lit< tt) e) in
    omega (arith, l, mul-le-mul_right (10 ^ b * 10 ^ c) U, mul-le-mul_right (10 ^ g * 10 ^ h) V)

-- ---- a float's fraction

top_few : (f : Format) → 2 ^ suc (emax f) ≤ 2 ^ 1024
top_few binary32 = le_of_lt (lit< tt)
top_few binary64 = omega arith

module _ (r : real.Real) (s : Bool) (m : ℕ) (e : _) (is : number_of r ≡ fin s m e) (F : T (fits (format_of r) (fin s m e)))
    (M : 0 < m) where
  abbrev f : Format
  f = format_of r

  abbrev x : Float
  x = fin s m e

  abbrev a : ℕ
  a = m * up e

  abbrev d : ℕ
  d = down e

  abbrev pub reads : ℕ → ℕ → Type 0
  reads n last = round f false (n * 10 ^ (last - 400)) (10 ^ (400 - last)) ≡ fin false m e

  bare : T (fits f (fin false m e))
  unfolding fits
  bare = by m F
    where
      by : (m : ℕ) → T (fits f (fin s m e)) → T (fits f (fin false m e))
      by zero h = h
      by (suc k) h = h

  A : 0 < a
  A = mul-pos M (up_pos e)

  few : d ≤ 2 ^ 1074
  few = le_trans (parts_fit f s m e M F).1 (pow_mono (shape f).least.1)

  big : a < 10 ^ 600 * d
  big =
      let t : 2 ^ 1024 ≤ 10 ^ 600 = le_of_lt (lit< tt) in
      lt_of_lt_of_le (parts_fit f s m e M F).2 (le_trans (mul-le-mul_right d (top_few f)) (mul-le-mul_right d t))

  pub forth : (n last : ℕ) → read_as r n last ≡ number_of r → reads n last
  forth n last h =
      unsigned f s m _ _ e (ap (λ b. round f b (n * 10 ^ (last - 400)) (10 ^ (400 - last)))
      (sym (ap is_sign_negative is ∙ finite_sign s m e)) ∙ h ∙ is)

  pub back : (n last : ℕ) → reads n last → reads_back r n last ≡ true
  back n last h =
      eq-eqb _ _ (ap (to_bits f) (ap (λ b. round f b (n * 10 ^ (last - 400)) (10 ^ (400 - last)))
      (ap is_sign_negative is ∙ finite_sign s m e) ∙ resigned f s m _ _ e h ∙ sym is))

  p : ℕ
  p = first_power x

  module _ (k : ℕ) (K : k ≤ 16) where
    abbrev last : ℕ
    last = first_power x - k

    abbrev i : ℕ
    i = 400 - last

    abbrev j : ℕ
    j = last - 400

    abbrev below : ℕ
    below = cut x last

    I : 0 < 10 ^ i
    I = power_pos 10 i (lit< tt)

    step : 0 < d * 10 ^ j
    step = mul-pos (down_pos e) (power_pos 10 j (lit< tt))

    below_is : below ≡ a * 10 ^ i / (d * 10 ^ j)
    below_is = cut_of_value x s a d last (down_pos e) (refl, refl)

    pub from : below * (d * 10 ^ j) ≤ a * 10 ^ i
    from = rw below_is (div-mul-le_self (a * 10 ^ i) (d * 10 ^ j))

    pub to : a * 10 ^ i < below * (d * 10 ^ j) + d * 10 ^ j
    to = rw below_is (lt-div-mul-add step)

    pub full : 10 ^ k ≤ below
    full = rw below_is ((le-div_iff_mul-le step).1 (long x s a d (down_pos e) A few (refl, refl) k K))

    short : below < 10 ^ (k + 1)
    short = rw below_is ((div-lt_iff_lt-mul step).1 (no_longer x s a d (down_pos e) A few (refl, refl) k K big))

    pub size_short : a * 10 ^ i < 10 ^ (k + 1) * (d * 10 ^ j)
    size_short = omega (arith, to, mul-le-mul_right (d * 10 ^ j) short)

    -- a decimal that is no more than the one below, and one that is no less than the one above
    pub if_less : (n q : ℕ) → n * 10 ^ (q - 400) * 10 ^ i ≤ below * 10 ^ j * 10 ^ (400 - q) → reads n q → reads below last
    if_less n q l h =
        between f (n * 10 ^ (q - 400)) (10 ^ (400 - q)) (below * 10 ^ j) (10 ^ i) a d m e (power_pos 10 (400 - q) (lit< tt)) I (down_pos
        e) l
        (omega (arith, from)) M bare h (reads_itself f m e M bare)

    pub if_more : (n q : ℕ) → (below + 1) * 10 ^ j * 10 ^ (400 - q) ≤ n * 10 ^ (q - 400) * 10 ^ i → reads n q → reads (below + 1) last
    if_more n q l h =
        between f a d ((below + 1) * 10 ^ j) (10 ^ i) (n * 10 ^ (q - 400)) (10 ^ (400 - q)) m e (down_pos e) I
        (power_pos 10 (400 - q) (lit< tt)) (omega (arith, to)) l M bare (reads_itself f m e M bare) h

    side : (n q : ℕ) → 10 ^ k ≤ n → n < 10 ^ (k + 1) → reads n q → reads below last ⊎ reads (below + 1) last
    side n q L U h =
        elim (eq-zero-or-pos (last - q)) [
          | inr g ↦ inl (if_less n q (shift n below (k + 1) k (q - 400) i j (400 - q) (le_of_lt U) full (omega (arith, g))) h)
          | inl z ↦ elim (eq-zero-or-pos (q - last)) [
            | inr g ↦ inr (if_more n q
                (shift (below + 1) n (k + 1) k j (400 - q) (q - 400) i (omega (arith, short)) L (omega (arith, g))) h)
            | inl y ↦
                let same : q ≡ last = omega (arith, z, y) in
                level n q same h
          ]
        ]
      where
        level : (n q : ℕ) → q ≡ last → reads n q → reads below last ⊎ reads (below + 1) last
        level n q same h =
            elim (eq-zero-or-pos (n - below)) [
              | inl z ↦
                  let l : n ≤ below = omega (arith, z) in
                  inl (if_less n q (rw same (omega (arith, mul-le-mul_right (10 ^ j * 10 ^ i) l))) h)
              | inr g ↦
                  let l : below + 1 ≤ n = omega (arith, g) in
                  inr (if_more n q (rw same (omega (arith, mul-le-mul_right (10 ^ j * 10 ^ i) l))) h)
            ]

    pub near_is : (near x last ≡ below) ⊎ (near x last ≡ below + 1)
    near_is =
        let c = scaled_of_value x s a d i j (down_pos e) (refl, refl) in
        let l : below ≤ near x last = rw c (closest_ge below (a * 10 ^ i) (d * 10 ^ j) step from) in
        let u : near x last ≤ below + 1 = rw c (closest_le (below + 1) (a * 10 ^ i) (d * 10 ^ j) step (omega (arith, to))) in
        elim (eq-or-lt_of_le l) [ inl q ↦ inl (sym q) | inr g ↦ inr (omega (arith, g, u)) ]

    pub other_is : ((near x last ≡ below) × (other x last ≡ below + 1)) ⊎ ((near x last ≡ below + 1) × (other x last ≡ below))
    other_is = elim near_is [
      | inl q ↦ inl (q, sym (other_above x last below refl q))
      | inr q ↦ inr (q, sym (other_below x last below refl q))
    ]

    as_x : (number_of r ≡ x) → tried r last ≡ (if reads_back r (near x last) last then Some (near x last)
        else (if reads_back r (other x last) last then Some (other x last) else None))
    as_x q = ap (λ z. if reads_back r (near z last) last then Some (near z last)
        else (if reads_back r (other z last) last then Some (other z last) else None)) q

    -- one of the two is found
    found : reads below last ⊎ reads (below + 1) last → tried r last ≡ None → ⊥
    found h none = by (reads_back r (near x last) last) refl (reads_back r (other x last) last) refl (sym (as_x is) ∙ none)
      where
        some : (b c : Bool) → reads_back r (near x last) last ≡ b → reads_back r (other x last) last ≡ c → (b ≡ true) ⊎ (c ≡ true)
        some b c B C = elim other_is [
          | inl q ↦ elim h [
            | inl l ↦ inl (sym B ∙ ap (λ t. reads_back r t last) q.0 ∙ back below last l)
            | inr u ↦ inr (sym C ∙ ap (λ t. reads_back r t last) q.1 ∙ back (below + 1) last u)
          ]
          | inr q ↦ elim h [
            | inl l ↦ inr (sym C ∙ ap (λ t. reads_back r t last) q.1 ∙ back below last l)
            | inr u ↦ inl (sym B ∙ ap (λ t. reads_back r t last) q.0 ∙ back (below + 1) last u)
          ]
        ]

        by : (b : Bool) → reads_back r (near x last) last ≡ b → (c : Bool) → reads_back r (other x last) last ≡ c
            → (if b then Some (near x last) else (if c then Some (other x last) else None)) ≡ None → ⊥
        by true B c C q = none-some (near x last) (sym q)
        by false B true C q = none-some (other x last) (sym q)
        by false B false C q = elim (some false false B C) [ inl t ↦ true≢false (sym t) | inr t ↦ true≢false (sym t) ]

    -- a decimal whose last digit stands no lower is a number of such steps
    pub in_steps : (n q : ℕ) → last ≤ q → n * 10 ^ (q - 400) * 10 ^ i ≡ n * 10 ^ (q - last) * 10 ^ j * 10 ^ (400 - q)
    in_steps n q l =
        let t = q - last in
        let e : q - 400 + i ≡ t + (j + (400 - q)) = omega (arith, l) in
        let s : 10 ^ (q - 400) * 10 ^ i ≡ 10 ^ t * (10 ^ j * 10 ^ (400 - q)) = sym (pow-add 10 (q - 400) i) ∙ ap (λ y. 10 ^ y) e
        ∙ pow-add 10 t (j + (400 - q)) ∙ ap (λ y. 10 ^ t * y) (pow-add 10 j (400 - q)) in
        omega (arith, ap (λ y. n * y) s)

    -- a decimal with fewer digits is one with so many
    finer : (n q : ℕ) → last ≤ q → reads n q → reads below last ⊎ reads (below + 1) last
    finer n q l h =
        let t = q - last in
        let same = in_steps n q l in
        elim (eq-zero-or-pos (n * 10 ^ t - below)) [
          | inl z ↦
              let m : n * 10 ^ t ≤ below = omega (arith, z) in
              inl (if_less n q (rw same (omega (arith, mul-le-mul_right (10 ^ j * 10 ^ (400 - q)) m))) h)
          | inr g ↦
              let m : below + 1 ≤ n * 10 ^ t = omega (arith, g) in
              inr (if_more n q (rw same (omega (arith, mul-le-mul_right (10 ^ j * 10 ^ (400 - q)) m))) h)
        ]

    pub near_few : near x last ≤ 10 ^ (k + 1)
    near_few = elim near_is [ inl q ↦ omega (arith, q, short) | inr q ↦ omega (arith, q, short) ]

    pub other_few : other x last ≤ 10 ^ (k + 1)
    other_few = elim other_is [ inl q ↦ omega (arith, q.1, short) | inr q ↦ omega (arith, q.1, short) ]

    pub tried_few : (n : ℕ) → tried r last ≡ Some n → n ≤ 10 ^ (k + 1)
    tried_few n h = by (reads_back r (near x last) last) (reads_back r (other x last) last) (sym (as_x is) ∙ h)
      where
        by : (b c : Bool) → (if b then Some (near x last) else (if c then Some (other x last) else None)) ≡ Some n → n ≤ 10 ^ (k + 1)
        by true c q = subst (λ t. t ≤ 10 ^ (k + 1)) (same_Some _ _ q) near_few
        by false true q = subst (λ t. t ≤ 10 ^ (k + 1)) (same_Some _ _ q) other_few
        by false false q = absurd (none-some n q)

    pub tried_is : (n : ℕ) → tried r last ≡ Some n → (n ≡ below) ⊎ (n ≡ below + 1)
    tried_is n h = by (reads_back r (near x last) last) (reads_back r (other x last) last) (sym (as_x is) ∙ h)
      where
        by : (b c : Bool) → (if b then Some (near x last) else (if c then Some (other x last) else None)) ≡ Some n
            → (n ≡ below) ⊎ (n ≡ below + 1)
        by true c q = elim near_is [ inl e ↦ inl (sym (same_Some _ _ q) ∙ e) | inr e ↦ inr (sym (same_Some _ _ q) ∙ e) ]
        by false true q = elim other_is [ inl e ↦ inr (sym (same_Some _ _ q) ∙ e.1) | inr e ↦ inl (sym (same_Some _ _ q) ∙ e.1) ]
        by false false q = absurd (none-some n q)

  -- ---- where none of so many digits reads back, none of fewer does

  module _ (k : ℕ) (K : k ≤ 16) (none : tried r (first_power x - k) ≡ None) (j : ℕ) (J : j ≤ k) where
    not_some : (n : ℕ) → tried r (first_power x - j) ≡ Some n → ⊥
    not_some n h =
        let back_as = tried_back r (first_power x - j) n (pattern_fits r) h in
        found k K (finer k K n (first_power x - j) (omega (arith, J)) (forth n (first_power x - j) back_as)) none

    none_of_fewer : tried r (first_power x - j) ≡ None
    none_of_fewer = by (tried r (first_power x - j)) refl
      where
        by : (o : Option ℕ) → tried r (first_power x - j) ≡ o → o ≡ None
        by None h = refl
        by (Some n) h = absurd (not_some n h)

  -- ---- the search

  wider : (k t n : ℕ) → k ≤ t → n ≤ 10 ^ (k + 1) → n ≤ 10 ^ (t + 1)
  wider k t n l h = le_trans h (pow-le-pow_right {n = 10} (lit< tt) (omega (arith, l)))

  searched_few : (k after t : ℕ) → after + k ≤ 16 → after ≤ t → (t < after + k → tried r (first_power x - t) ≡ None → ⊥)
      → (searched r k (first_power x - after)).0 ≤ 10 ^ (t + 1)
  unfolding searched
  searched_few zero after t K l h = wider after t _ l (subst (λ z. near z (first_power x - after) ≤ 10 ^ (after + 1)) (sym is)
      (near_few after (omega (arith, K))))
  searched_few (suc k) after t K l h =
      let e : first_power x - after - 1 ≡ first_power x - (after + 1) = omega arith in
      by (tried r (first_power x - after)) refl
      (λ u. subst (λ q. (searched r k q).0 ≤ 10 ^ (t + 1)) (sym e)
      (searched_few k (after + 1) t (omega (arith, K)) u (λ v. h (omega (arith, v)))))
    where
      by : (o : Option ℕ) → tried r (first_power x - after) ≡ o
          → (after + 1 ≤ t → (searched r k (first_power x - after - 1)).0 ≤ 10 ^ (t + 1))
          → (or_else o (first_power x - after) (searched r k (first_power x - after - 1))).0 ≤ 10 ^ (t + 1)
      by (Some n) q rest = wider after t n l (tried_few after (omega (arith, K)) n q)
      by None q rest =
          elim (eq-or-lt_of_le l) [
            | inl same ↦ absurd (h (omega (arith, same)) (subst (λ z. tried r (first_power x - z) ≡ None) same q))
            | inr more ↦ rest (omega (arith, more))
          ]

  pub some_digit : (n last : ℕ) → reads n last → 0 < n
  some_digit n last h =
      elim (eq-zero-or-pos n) [
        | inr g ↦ g
        | inl z ↦
            let none : n * 10 ^ (last - 400) ≡ 0 = ap (λ t. t * 10 ^ (last - 400)) z ∙ omega arith in
            let q : fin false m e ≡ fin false 0 (pos 0) = sym h
            ∙ zero_round f false (n * 10 ^ (last - 400)) (10 ^ (400 - last)) (power_pos 10 (400 - last) (lit< tt)) none in
            absurd (omega (arith, M, ap digits_of q))
      ]
    where
      digits_of : Float → ℕ
      digits_of nan = 0
      digits_of (inf t) = 0
      digits_of (fin t n c) = n

  fewest : (n q : ℕ) → read_as r n q ≡ number_of r → count_of 0 (shortest r).0 ≤ count_of 0 n
  unfolding shortest
  fewest n q h =
      let g = forth n q h in
      let most = most_decimals r in
      let some = some_digit n q g in
      let c = count_of 0 n in
      let C = count_some n in
      let t = min (c - 1) most in
      let back_to : c - 1 + 1 ≡ c = omega (arith, C) in
      let stop : t < 0 + most → tried r (first_power x - t) ≡ None → ⊥ = λ l none.
      (let e : t ≡ c - 1 = omega (arith, l) in
      found t (omega (arith, l, most_few r)) (side t (omega (arith, l, most_few r)) n q (rw e (count_least n some))
      (rw (e, back_to) (count_fits n)) g) none) in
      let start : first_power x - 0 ≡ first_power x = omega arith in
      let few = subst (λ z. (searched r most z).0 ≤ 10 ^ (t + 1)) (start ∙ ap first_power (sym is))
      (searched_few most 0 t (omega (arith, most_few r)) (omega arith) stop) in
      let z = searched r most (first_power (number_of r)) in
      let l = count_most (trimmed 17 z.0 z.1).0 (t + 1) (omega arith) (trimmed_few 16 z.0 z.1 (t + 1) (omega arith) few) in
      omega (arith, l, C)

by_float : (r : real.Real) (x : Float) → number_of r ≡ x → T (fits (format_of r) x) → is_nonzero x → (n q : ℕ)
    → read_as r n q ≡ number_of r → count_of 0 (shortest r).0 ≤ count_of 0 n
by_float r nan is F some n q h = absurd some
by_float r (inf s) is F some n q h = absurd some
by_float r (fin s m e) is F some n q h = fewest r s m e is F some n q h

pub none_shorter : NoneShorter
none_shorter r n q p some h = by_float r (number_of r) refl (pattern_fits r) some n q h

-- of a float that is not 0
pub none_before : (r : real.Real) (x : Float) → number_of r ≡ x → is_nonzero x → (k : ℕ) → k ≤ 16
    → tried r (first_power x - k) ≡ None → (j : ℕ) → j ≤ k → tried r (first_power x - j) ≡ None
none_before r nan is some k K none j J = absurd some
none_before r (inf s) is some k K none j J = absurd some
none_before r (fin s m e) is some k K none j J =
    none_of_fewer r s m e is (subst (λ y. T (fits (format_of r) y)) is (pattern_fits r)) some k K none j J
