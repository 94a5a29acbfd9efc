-- What lies between two numbers that are read as a float is read as it.
use Rattle.std.proofs.Common.{◌≡◌, ℕ, zero, suc, ◌+◌, ◌-◌, ◌*◌, ◌/◌, ◌^◌, ◌<◌, ◌≤◌, Bool, true, false, cond, T, pos, negsuc, refl, sym, ap}
use Rattle.std.proofs.Common.{◌∙◌, subst, inl, inr, arith, mul-pos, pow_pos, pow-suc, lt_of_lt_of_le, leb, ltb, eqb, ◌&&◌, ◌||◌, ◌⊎◌, ◌%◌}
use Rattle.std.proofs.Common.{lt_of_mul-lt-mul_right, mul-lt-mul_of_pos_right, lt_of_not-le, not-le_of_lt, pow_mono}
use Rattle.std.proofs.lemmas.Nat.{pow-add}
use Rattle.std.proofs.Math.Nat.{le_antisymm}
use Rattle.std.proofs.Math.Dec.{leb→le, ltb→lt, eqb→eq}
use native.Mathlib.Nat.{eq_of_mul-eq-mul_right}
use lib.Ieee.Bits.{of_bits-to_bits}
use lib.Ieee.Exact.{HasValue, round_exact}
use lib.Ieee.Fits.{round-fits, down_pos, up_pos, and_l, and_r}
use lib.Ieee.Nearest.{div_same}
use lib.Ieee.Order.{round_mono}
use lib.Ieee.{emax, le}
use Rattle.std.specs.Float.Ieee.{Float, Format, nan, inf, fin, neg, size, round, up, down, prec, low, hid, top, of_bits, to_bits, fits}
use Rattle.fast_float.proofs.Patterns.{neg-round}

-- ---- a value tells a float

units_same : (x y l u d v c a : ℕ) → 0 < u → 0 < v → 0 < c → x * c ≡ a * u → y * c ≡ a * v → x * l / u ≡ y * l / v
units_same x y l u d v c a U V C p q =
    div_same (x * l) u (y * l) v U V
    (eq_of_mul-eq-mul_right c C (x * l * v) (y * l * u) (omega (arith, ap (λ t. t * l * v) p, ap (λ t. t * l * u) q)))

bits_of_value : (f : Format) (x y : Float) (s : Bool) (a c : ℕ) → 0 < c → HasValue x s a c → HasValue y s a c → to_bits f x ≡ to_bits f y
unfolding to_bits
bits_of_value f nan y s a c C p q = absurd p
bits_of_value f (inf t) y s a c C p q = absurd p
bits_of_value f (fin t m e) nan s a c C p q = absurd q
bits_of_value f (fin t m e) (inf u) s a c C p q = absurd q
bits_of_value f (fin t m e) (fin u n d) s a c C p q =
    let z = units_same (m * up e) (n * up d) (2 ^ low f) (down e) 0 (down d) c a (down_pos e) (down_pos d) C p.1 q.1 in
    λ i. cond ((p.0 ∙ sym q.0) i) (top f) 0 + (size (z i) - prec f) * hid f + z i / 2 ^ (size (z i) - prec f)

pub same_of_value : (f : Format) (x y : Float) (s : Bool) (a c : ℕ) → 0 < c → T (fits f x) → T (fits f y) → HasValue x s a c
    → HasValue y s a c → x ≡ y
same_of_value f x y s a c C p q v w =
    sym (of_bits-to_bits f x p) ∙ ap (of_bits f) (bits_of_value f x y s a c C v w) ∙ of_bits-to_bits f y q

-- ---- the float itself is read as it

pub parts_fit : (f : Format) (s : Bool) (m : ℕ) (e : _) → 0 < m → T (fits f (fin s m e))
    → (m < 2 ^ prec f) × (down e ≤ 2 ^ low f) × (m * up e < 2 ^ suc (emax f) * down e)
unfolding fits
parts_fit f s zero e M F = absurd (omega (arith, M))
parts_fit f s (suc m) e M F =
    let a : Bool = eqb (suc m % 2) 1 in
    let b : Bool = ltb (suc m) (2 ^ prec f) in
    let c : Bool = leb (down e) (2 ^ low f) in
    let d : Bool = ltb (suc m * up e) (2 ^ suc (emax f) * down e) in (
      ltb→lt (suc m) (2 ^ prec f) (and_r a b (and_l (a && b) c (and_l (a && b && c) d F))),
      leb→le (down e) (2 ^ low f) (and_r (a && b) c (and_l (a && b && c) d F)),
      ltb→lt (suc m * up e) (2 ^ suc (emax f) * down e) (and_r (a && b && c) d F),
    )

exact_by : (f : Format) (m j u d : ℕ) → 0 < d → m < 2 ^ prec f → m * u < 2 ^ suc (emax f) * d → u * 2 ^ low f ≡ 2 ^ j * d
    → HasValue (round f false (m * u) d) false (m * u) d
exact_by f m j u d D M l e =
    let h : m * u * 2 ^ low f ≡ m * 2 ^ j * d = omega (arith, ap (λ t. m * t) e) in
    let p : 2 ^ (low f + suc (emax f)) ≡ 2 ^ low f * 2 ^ suc (emax f) = pow-add 2 (low f) (suc (emax f)) in
    let k : m * 2 ^ j * d < 2 ^ (low f + suc (emax f)) * d =
    rw p (subst (λ t. t < 2 ^ low f * 2 ^ suc (emax f) * d) h (omega (arith, mul-lt-mul_of_pos_right l (pow_pos (low f))))) in
    round_exact f false (m * u) d m j D M (lt_of_mul-lt-mul_right d k) h

exact_value : (f : Format) (m : ℕ) (e : _) → m < 2 ^ prec f → down e ≤ 2 ^ low f → m * up e < 2 ^ suc (emax f) * down e
    → HasValue (round f false (m * up e) (down e)) false (m * up e) (down e)
exact_value f m (pos k) M l h =
    exact_by f m (k + low f) (up (pos k)) (down (pos k)) (down_pos (pos k)) M h (sym (pow-add 2 k (low f)) ∙ omega arith)
exact_value f m (negsuc k) M l h =
    let s : suc k ≤ low f = pow_le (suc k) (low f) l in
    let e : low f - suc k + suc k ≡ low f = omega arith in
    exact_by f m (low f - suc k) (up (negsuc k)) (down (negsuc k)) (down_pos (negsuc k)) M h
    (omega (arith, ap (λ t. 2 ^ t) (sym e) ∙ pow-add 2 (low f - suc k) (suc k)))
  where
    next : (b : ℕ) → 2 ^ b < 2 ^ suc b
    next b = omega (arith, pow-suc 2 b, pow_pos b)

    pow_le : (a b : ℕ) → 2 ^ a ≤ 2 ^ b → a ≤ b
    pow_le a b h =
        let l : a < suc b = lt_of_not-le (λ (g : suc b ≤ a). not-le_of_lt (lt_of_lt_of_le (next b) (pow_mono g)) h) in
        omega (arith, l)

pub reads_itself : (f : Format) (m : ℕ) (e : _) → 0 < m → T (fits f (fin false m e)) → round f false (m * up e) (down e) ≡ fin false m e
reads_itself f m e M F =
    let p = parts_fit f false m e M F in
    same_of_value f _ (fin false m e) false (m * up e) (down e) (down_pos e) (round-fits f false (m * up e) (down e)) F
    (exact_value f m e p.0 p.1 p.2) (refl, refl)

-- ---- between two

either : (a b : Bool) → T (a || b) → T a ⊎ T b
either true b t = inl tt
either false b t = inr t

no_more : (a b : ℕ) (c : Bool) → T (ltb a b || (eqb a b && c)) → a ≤ b
no_more a b c t = elim (either (ltb a b) (eqb a b && c) t) [
  | inl l ↦ (let h = ltb→lt a b l in omega (arith, h))
  | inr e ↦ (let h = eqb→eq a b (and_l (eqb a b) c e) in omega (arith, h))
]

-- two floats that are no more than each other, of which one is above 0
level_is : (f : Format) (m : ℕ) (e : _) (y : Float) → 0 < m → T (fits f (fin false m e)) → T (fits f y) → T (le (fin false m e) y)
    → T (le y (fin false m e)) → y ≡ fin false m e
unfolding le
level_is f m e nan M F G p q = absurd p
level_is f m e (inf true) M F G p q = absurd p
level_is f m e (inf false) M F G p q = absurd q
level_is f m e (fin true n d) M F G p q =
    let a = m * up e * down d in
    let b = n * up d * down e in
    let z : a ≡ 0 = eqb→eq a 0 (and_r (eqb a b) (eqb a 0) p) in
    absurd (omega (arith, z, mul-pos (mul-pos M (up_pos e)) (down_pos d)))
level_is f m e (fin false n d) M F G p q =
    let a = m * up e * down d in
    let b = n * up d * down e in
    let same : b ≡ a = le_antisymm (no_more b a true q) (no_more a b true p) in
    same_of_value f (fin false n d) (fin false m e) false (m * up e) (down e) (down_pos e) G F (refl, same) (refl, refl)

pub between : (f : Format) (a c v w b d m : ℕ) (e : _) → 0 < c → 0 < w → 0 < d → a * w ≤ v * c → v * d ≤ b * w → 0 < m
    → T (fits f (fin false m e))
    → round f false a c ≡ fin false m e → round f false b d ≡ fin false m e → round f false v w ≡ fin false m e
between f a c v w b d m e C W D l h M F p q =
    level_is f m e (round f false v w) M F (round-fits f false v w)
    (subst (λ x. T (le x (round f false v w))) p (round_mono f a c v w C W l))
    (subst (λ x. T (le (round f false v w) x)) q (round_mono f v w b d W D h))

-- ---- with a sign

twice_neg : (x : Float) → neg (neg x) ≡ x
unfolding neg
twice_neg nan = refl
twice_neg (inf true) = refl
twice_neg (inf false) = refl
twice_neg (fin true m e) = refl
twice_neg (fin false m e) = refl

pub unsigned : (f : Format) (s : Bool) (m a c : ℕ) (e : _) → round f s a c ≡ fin s m e → round f false a c ≡ fin false m e
unfolding neg
unsigned f false m a c e h = h
unsigned f true m a c e h = sym (twice_neg (round f false a c)) ∙ ap neg (neg-round f a c ∙ h)

pub resigned : (f : Format) (s : Bool) (m a c : ℕ) (e : _) → round f false a c ≡ fin false m e → round f s a c ≡ fin s m e
unfolding neg
resigned f false m a c e h = h
resigned f true m a c e h = sym (neg-round f a c) ∙ ap neg h
