-- No decimal with as many digits that is read as a float is nearer to it than its shortest digits.
use Rattle.std.proofs.Common.{◌≡◌, ◌⊎◌, ℕ, zero, suc, ◌+◌, ◌-◌, ◌*◌, ◌/◌, ◌%◌, ◌^◌, ◌<◌, ◌≤◌, Bool, true, false, nat_eq, if◌then◌else◌}
use Rattle.std.proofs.Common.{Option, Some, None, T, refl, sym, ap, ◌∙◌, subst, inl, inr, arith, eq-zero-or-pos, div-add-mod'}
use Rattle.std.proofs.Common.{true≢false, mul-pos, mul-le-mul_right, mul-le-mul_left, lt_of_lt_of_le, le_of_mul-le-mul_right}
use Rattle.std.proofs.lemmas.Bool.{eqb-true}
use Rattle.std.proofs.lemmas.Nat.{pow-add}
use Rattle.std.proofs.lemmas.Option.{same_Some, none-some}
use Rattle.std.proofs.Math.Nat.{pow-le-pow_right, le_trans, le_of_lt}
use lib.Dec.{lit<}
use lib.Ieee.Fits.{down_pos}
use Rattle.std.specs.Float.Ieee.{Float, nan, inf, fin, round, up, down, fits}
use Rattle.sf_base.specs.declared.real.Real as real
use Rattle.sf_float.specs.Computed.{count_of}
use Rattle.sf_float.specs.Scaled.{is_nonzero}
use Rattle.sf_float.proofs.Limbs.{power_pos}
use Rattle.sf_float.proofs.ReadBack.{scaled_of_value, bounds, Bounds}
use Rattle.sf_float.specs.fewest.Digits.{format_of, number_of, most_decimals, cut, near, other, read_as, reads_back, first_power, tried}
use Rattle.sf_float.specs.fewest.Digits.{or_else, searched, trimmed, shortest}
use Rattle.sf_float.specs.fewest.Laws.{distance, IsNoFurther, NoneNearer}
use Rattle.sf_float.proofs.FewestLemmas.Fewest as fewest
use Rattle.sf_float.proofs.FewestLemmas.FirstDigits.{count_fits, count_most}
use Rattle.sf_float.proofs.FewestLemmas.ReadBack.{most_few, pattern_fits}

-- ---- distances

gap_up : (v t w : ℕ) → distance ((v + t) * w) (v * w) ≡ distance (v + t) v * w
gap_up v t w =
    let a : distance (v + t) v ≡ t = omega arith in
    let b : distance ((v + t) * w) (v * w) ≡ t * w = omega arith in
    b ∙ ap (λ x. x * w) (sym a)

gap_down : (v t w : ℕ) → distance (v * w) ((v + t) * w) ≡ distance v (v + t) * w
gap_down v t w =
    let a : distance v (v + t) ≡ t = omega arith in
    let b : distance (v * w) ((v + t) * w) ≡ t * w = omega arith in
    b ∙ ap (λ x. x * w) (sym a)

times : (u v w : ℕ) → distance (u * w) (v * w) ≡ distance u v * w
times u v w =
    elim (eq-zero-or-pos (v - u)) [
      | inl z ↦
          let e : v + (u - v) ≡ u = omega (arith, z) in
          subst (λ y. distance (y * w) (v * w) ≡ distance y v * w) e (gap_up v (u - v) w)
      | inr p ↦
          let e : u + (v - u) ≡ v = omega (arith, p) in
          subst (λ y. distance (u * w) (y * w) ≡ distance u y * w) e (gap_down u (v - u) w)
    ]

-- the same over another denominator
rescaled : (c p r d q t w v : ℕ) → 0 < v → c * w ≡ d * v → p * w ≡ q * v → r * w ≡ t * v → distance c p ≤ distance c r
    → distance d q ≤ distance d t
rescaled c p r d q t w v V C P R h =
    let a : distance c p * w ≡ distance d q * v = sym (times c p w) ∙ (λ i. distance (C i) (P i)) ∙ times d q v in
    let b : distance c r * w ≡ distance d t * v = sym (times c r w) ∙ (λ i. distance (C i) (R i)) ∙ times d t v in
    le_of_mul-le-mul_right {k = v} (subst (λ y. y ≤ distance d t * v) a (subst (λ y. distance c p * w ≤ y) b (mul-le-mul_right w h))) V

-- ---- of two multiples of w on both sides of v, the nearest is no further than both

low_near : (v w q : ℕ) → q * w ≤ v → v < q * w + w → Bounds v w q → distance v (q * w) ≤ distance v ((q + 1) * w)
low_near v w q from to b = omega (arith, from, to, b.to)

high_near : (v w q : ℕ) → q * w ≤ v → v < q * w + w → Bounds v w (q + 1) → distance v ((q + 1) * w) ≤ distance v (q * w)
high_near v w q from to b = omega (arith, from, to, b.from)

-- what is no nearer than the lower one, or than the upper one
module _ (v w q t r n : ℕ) where
  below_low : q * w ≤ v → r ≤ q * w * t → distance v (n * w) ≤ distance v (q * w) → distance (v * t) (n * w * t) ≤ distance (v * t) r
  below_low from less h =
      let f : q * w * t ≤ v * t = mul-le-mul_right t from in
      let g : distance (v * t) (q * w * t) ≤ distance (v * t) r = omega (arith, f, less) in
      let k : distance v (n * w) * t ≤ distance v (q * w) * t = mul-le-mul_right t h in
      le_trans (subst (λ y. y ≤ distance (v * t) (q * w * t)) (sym (times v (n * w) t))
      (subst (λ y. distance v (n * w) * t ≤ y) (sym (times v (q * w) t)) k)) g

  above_high : v < q * w + w → (q + 1) * w * t ≤ r → distance v (n * w) ≤ distance v ((q + 1) * w)
      → distance (v * t) (n * w * t) ≤ distance (v * t) r
  above_high to more h =
      let f : v * t ≤ (q + 1) * w * t = mul-le-mul_right t (omega (arith, to)) in
      let g : distance (v * t) ((q + 1) * w * t) ≤ distance (v * t) r = omega (arith, f, more) in
      let k : distance v (n * w) * t ≤ distance v ((q + 1) * w) * t = mul-le-mul_right t h in
      le_trans (subst (λ y. y ≤ distance (v * t) ((q + 1) * w * t)) (sym (times v (n * w) t))
      (subst (λ y. distance v (n * w) * t ≤ y) (sym (times v ((q + 1) * w) t)) k)) g

-- ---- zeros at the end

tenth : (x : Float) (n last k q : ℕ) → n % 10 ≡ 0 → IsNoFurther x n last k q → IsNoFurther x (n / 10) (last + 1) k q
tenth nan n last k q z h = h
tenth (inf s) n last k q z h = h
tenth (fin s m e) n last k q z h =
    let i = 10 ^ (400 - last) in
    let j = 10 ^ (last - 400) in
    let ii = 10 ^ (400 - (last + 1)) in
    let jj = 10 ^ (last + 1 - 400) in
    let a = m * up e in
    let d = down e in
    let t = 10 ^ (400 - q) in
    let g = 10 ^ (q - 400) in
    let l : 1 + (last - 400 + (400 - (last + 1))) ≡ last + 1 - 400 + (400 - last) = omega arith in
    let tens : 10 ^ 1 * (j * ii) ≡ jj * i =
    ap (λ y. 10 ^ 1 * y) (sym (pow-add 10 (last - 400) (400 - (last + 1))))
    ∙ sym (pow-add 10 1 (last - 400 + (400 - (last + 1)))) ∙ ap (λ y. 10 ^ y) l ∙ pow-add 10 (last + 1 - 400) (400 - last) in
    let whole : n ≡ n / 10 * 10 = sym (div-add-mod' n 10) ∙ ap (λ y. n / 10 * 10 + y) z ∙ omega arith in
    rescaled (a * i * t) (n * (d * j) * t) (k * (d * g) * i) (a * ii * t) (n / 10 * (d * jj) * t) (k * (d * g) * ii) ii i
    (power_pos 10 (400 - last) (lit< tt)) (omega arith)
    (omega (arith, ap (λ y. y * d * j * t * ii) whole, ap (λ y. n / 10 * d * t * y) tens)) (omega arith) h

trimmed_near : (x : Float) (most n last k q : ℕ) → IsNoFurther x n last k q
    → IsNoFurther x (trimmed most n last).0 (trimmed most n last).1 k q
unfolding trimmed
trimmed_near x zero n last k q h = h
trimmed_near x (suc most) n last k q h =
    by (nat_eq (n % 10) 0) refl (λ z. trimmed_near x most (n / 10) (last + 1) k q (tenth x n last k q z h))
  where
    by : (b : Bool) → nat_eq (n % 10) 0 ≡ b
        → (n % 10 ≡ 0 → IsNoFurther x (trimmed most (n / 10) (last + 1)).0 (trimmed most (n / 10) (last + 1)).1 k q)
        → let t = if b then trimmed most (n / 10) (last + 1) else (n, last) in IsNoFurther x t.0 t.1 k q
    by true z rest = rest (eqb-true _ _ z)
    by false z rest = h

-- ---- a decimal that the search takes: the nearest one, or that on the other side where the nearest is not read as the float

abbrev IsTaken : real.Real → Float → ℕ → ℕ → Type 0
IsTaken r x n last = (n ≡ near x last) ⊎ ((reads_back r (near x last) last ≡ false) × (n ≡ other x last))

record IsFound (r : real.Real) (x : Float) (n last : ℕ) : Type 0 where
  pub decimals : ℕ
  pub few : decimals ≤ 16
  pub at : last ≡ first_power x - decimals
  pub taken : IsTaken r x n last

module _ (r : real.Real) (s : Bool) (m : ℕ) (e : _) (is : number_of r ≡ fin s m e) (F : T (fits (format_of r) (fin s m e)))
    (M : 0 < m) where
  abbrev x : Float
  x = fin s m e

  abbrev a : ℕ
  a = m * up e

  abbrev d : ℕ
  d = down e

  abbrev reads : ℕ → ℕ → Type 0
  reads n q = round (format_of r) false (n * 10 ^ (q - 400)) (10 ^ (400 - q)) ≡ fin false m e

  module _ (k : ℕ) (K : k ≤ 16) where
    abbrev last : ℕ
    last = first_power x - k

    abbrev i : ℕ
    i = 400 - last

    abbrev j : ℕ
    j = last - 400

    abbrev v : ℕ
    v = a * 10 ^ i

    abbrev w : ℕ
    w = d * 10 ^ j

    abbrev low : ℕ
    low = cut x last

    step : 0 < w
    step = mul-pos (down_pos e) (power_pos 10 j (lit< tt))

    from : low * w ≤ v
    from = fewest.from r s m e is F M k K

    to : v < low * w + w
    to = fewest.to r s m e is F M k K

    is_near : Bounds v w (near x last)
    is_near = subst (Bounds v w) (sym (scaled_of_value x s a d i j (down_pos e) (refl, refl))) (bounds v w step)

    -- of decimals on one side of the float, the one that is taken
    toward_low : (n : ℕ) → IsTaken r x n last → reads low last → distance v (n * w) ≤ distance v (low * w)
    toward_low n (inl z) h = elim (fewest.near_is r s m e is F M k K) [
      | inl q ↦ subst (λ y. distance v (y * w) ≤ distance v (low * w)) (sym (z ∙ q)) (omega arith)
      | inr q ↦
          subst (λ y. distance v (y * w) ≤ distance v (low * w)) (sym (z ∙ q)) (high_near v w low from to (subst (Bounds v w) q is_near))
    ]
    toward_low n (inr z) h = elim (fewest.other_is r s m e is F M k K) [
      | inl q ↦
          absurd (true≢false (sym (fewest.back r s m e is F M low last h) ∙ ap (λ y. reads_back r y last) (sym q.0) ∙ z.0))
      | inr q ↦ subst (λ y. distance v (y * w) ≤ distance v (low * w)) (sym (z.1 ∙ q.1)) (omega arith)
    ]

    toward_high : (n : ℕ) → IsTaken r x n last → reads (low + 1) last → distance v (n * w) ≤ distance v ((low + 1) * w)
    toward_high n (inl z) h = elim (fewest.near_is r s m e is F M k K) [
      | inl q ↦
          subst (λ y. distance v (y * w) ≤ distance v ((low + 1) * w)) (sym (z ∙ q))
          (low_near v w low from to (subst (Bounds v w) q is_near))
      | inr q ↦ subst (λ y. distance v (y * w) ≤ distance v ((low + 1) * w)) (sym (z ∙ q)) (omega arith)
    ]
    toward_high n (inr z) h = elim (fewest.other_is r s m e is F M k K) [
      | inl q ↦ subst (λ y. distance v (y * w) ≤ distance v ((low + 1) * w)) (sym (z.1 ∙ q.1)) (omega arith)
      | inr q ↦
          absurd (true≢false (sym (fewest.back r s m e is F M (low + 1) last h) ∙ ap (λ y. reads_back r y last) (sym q.0) ∙ z.0))
    ]

    -- a decimal with so many digits lies on one side
    sides : (n q : ℕ) → n < 10 ^ (k + 1)
        → (n * 10 ^ (q - 400) * 10 ^ i ≤ low * 10 ^ j * 10 ^ (400 - q))
        ⊎ ((low + 1) * 10 ^ j * 10 ^ (400 - q) ≤ n * 10 ^ (q - 400) * 10 ^ i)
    sides n q u =
        elim (eq-zero-or-pos (last - q)) [
          | inr g ↦ inl (fewest.shift n low (k + 1) k (q - 400) i j (400 - q) (le_of_lt u) (fewest.full r s m e is F M k K)
              (omega (arith, g)))
          | inl z ↦ coarser n q (omega (arith, z))
        ]
      where
        coarser : (n q : ℕ) → last ≤ q
            → (n * 10 ^ (q - 400) * 10 ^ i ≤ low * 10 ^ j * 10 ^ (400 - q))
            ⊎ ((low + 1) * 10 ^ j * 10 ^ (400 - q) ≤ n * 10 ^ (q - 400) * 10 ^ i)
        coarser n q l =
            let same = fewest.in_steps r s m e is F M k K n q l in
            elim (eq-zero-or-pos (n * 10 ^ (q - last) - low)) [
              | inl z ↦
                  let b : n * 10 ^ (q - last) ≤ low = omega (arith, z) in
                  inl (rw same (omega (arith, mul-le-mul_right (10 ^ j * 10 ^ (400 - q)) b)))
              | inr g ↦
                  let b : low + 1 ≤ n * 10 ^ (q - last) = omega (arith, g) in
                  inr (rw same (omega (arith, mul-le-mul_right (10 ^ j * 10 ^ (400 - q)) b)))
            ]

    nearest : (c : ℕ) → IsTaken r x c last → (n q : ℕ) → n < 10 ^ (k + 1) → reads n q → IsNoFurther x c last n q
    nearest c z n q u h =
        let t = 10 ^ (400 - q) in
        let o = n * (d * 10 ^ (q - 400)) * 10 ^ i in
        elim (sides n q u) [
          | inl l ↦ below_low v w low t o c from (omega (arith, mul-le-mul_left d l))
              (toward_low c z (fewest.if_less r s m e is F M k K n q l h))
          | inr g ↦ above_high v w low t o c to (omega (arith, mul-le-mul_left d g))
              (toward_high c z (fewest.if_more r s m e is F M k K n q g h))
        ]

    taken_few : (c : ℕ) → IsTaken r x c last → c ≤ 10 ^ (k + 1)
    taken_few c (inl z) = subst (λ y. y ≤ 10 ^ (k + 1)) (sym z) (fewest.near_few r s m e is F M k K)
    taken_few c (inr z) = subst (λ y. y ≤ 10 ^ (k + 1)) (sym z.1) (fewest.other_few r s m e is F M k K)

  -- ---- the search

  tried_taken : (last n : ℕ) → tried r last ≡ Some n → IsTaken r x n last
  tried_taken last n h = by (reads_back r (near x last) last) refl (reads_back r (other x last) last) (sym (as_x is) ∙ h)
    where
      as_x : number_of r ≡ x → tried r last ≡ (if reads_back r (near x last) last then Some (near x last)
          else (if reads_back r (other x last) last then Some (other x last) else None))
      as_x q = ap (λ z. if reads_back r (near z last) last then Some (near z last)
          else (if reads_back r (other z last) last then Some (other z last) else None)) q

      by : (b : Bool) → reads_back r (near x last) last ≡ b → (c : Bool)
          → (if b then Some (near x last) else (if c then Some (other x last) else None)) ≡ Some n → IsTaken r x n last
      by true B c q = inl (sym (same_Some _ _ q))
      by false B true q = inr (B, sym (same_Some _ _ q))
      by false B false q = absurd (none-some n q)

  searched_found : (k after : ℕ) → after + k ≤ 16
      → IsFound r x (searched r k (first_power x - after)).0 (searched r k (first_power x - after)).1
  unfolding searched
  searched_found zero after K = record {
    decimals = after;
    few = omega (arith, K);
    at = refl;
    taken = inl (ap (λ z. near z (first_power x - after)) is);
  }
  searched_found (suc k) after K =
      let b : first_power x - after - 1 ≡ first_power x - (after + 1) = omega arith in
      by (tried r (first_power x - after)) refl
      (subst (λ q. IsFound r x (searched r k q).0 (searched r k q).1) (sym b) (searched_found k (after + 1) (omega (arith, K))))
    where
      by : (o : Option ℕ) → tried r (first_power x - after) ≡ o
          → IsFound r x (searched r k (first_power x - after - 1)).0 (searched r k (first_power x - after - 1)).1
          → IsFound r x (or_else o (first_power x - after) (searched r k (first_power x - after - 1))).0
          (or_else o (first_power x - after) (searched r k (first_power x - after - 1))).1
      by (Some n) h rest = record {
        decimals = after;
        few = omega (arith, K);
        at = refl;
        taken = tried_taken (first_power x - after) n h;
      }
      by None h rest = rest

  found_near : (c at : ℕ) (z : IsFound r x c at) (n q : ℕ) → n < 10 ^ (z.decimals + 1) → reads n q → IsNoFurther x c at n q
  found_near c at z n q u h =
      subst (λ y. IsNoFurther x c y n q) (sym z.at)
      (nearest z.decimals z.few c (subst (IsTaken r x c) z.at z.taken) n q u h)

  found_few : (c at : ℕ) (z : IsFound r x c at) → c ≤ 10 ^ (z.decimals + 1)
  found_few c at z = taken_few z.decimals z.few c (subst (IsTaken r x c) z.at z.taken)

  none : (n q : ℕ) → read_as r n q ≡ number_of r → count_of 0 n ≤ count_of 0 (shortest r).0
      → IsNoFurther x (shortest r).0 (shortest r).1 n q
  unfolding shortest
  none n q h l =
      let most = most_decimals r in
      let z = searched r most (first_power (number_of r)) in
      let start : first_power x - 0 ≡ first_power x = omega arith in
      let f = subst (λ y. IsFound r x (searched r most y).0 (searched r most y).1) (start ∙ ap first_power (sym is))
      (searched_found most 0 (omega (arith, most_few r))) in
      let b = f.decimals + 1 in
      let c = count_most (trimmed 17 z.0 z.1).0 b (omega arith) (fewest.trimmed_few 16 z.0 z.1 b (omega arith) (found_few z.0 z.1 f)) in
      let u = lt_of_lt_of_le (count_fits n) (pow-le-pow_right {n = 10} (lit< tt) (le_trans l c)) in
      trimmed_near x 17 z.0 z.1 n q (found_near z.0 z.1 f n q u (fewest.forth r s m e is F M n q h))

by_float : (r : real.Real) (x : Float) → number_of r ≡ x → T (fits (format_of r) x) → is_nonzero x → (n q : ℕ)
    → read_as r n q ≡ number_of r → count_of 0 n ≤ count_of 0 (shortest r).0 → IsNoFurther x (shortest r).0 (shortest r).1 n q
by_float r nan is F some n q h l = absurd some
by_float r (inf s) is F some n q h l = absurd some
by_float r (fin s m e) is F some n q h l = none r s m e is F some n q h l

pub none_nearer : NoneNearer
none_nearer r n q p some h l = by_float r (number_of r) refl (pattern_fits r) some n q h l
