-- Hexadecimal digits, and what is rounded to some of them.
use Rattle.std.proofs.Common.{◌≡◌, ℕ, zero, suc, ◌+◌, ◌-◌, ◌*◌, ◌/◌, ◌%◌, ◌^◌, ◌<◌, ◌≤◌, Bool, true, false, not, [], ◌∷◌, ◌++◌, replicate}
use Rattle.std.proofs.Common.{refl, sym, ap, ◌∙◌, subst, arith, pow-suc, append_assoc, append-nil, pow_pos}
use Rattle.std.proofs.Math.Nat.{div-div-eq-div-mul, mul-div_cancel}
use Rattle.std.proofs.lemmas.List.{replicate-append-replicate}
use Rattle.std.proofs.lemmas.Nat.{pow-add}
use Rattle.std.specs.Float.Ieee.{Float, Format, nan, inf, fin, neg, of_bits}
use Rattle.std.specs.Float.Ieee.Exact.{HasValue}
use Rattle.std.specs.Float.Ieee.Nearest.{closest, closest_same}
use lib.Dec.{lit<}
use Rattle.ryu.specs.Sign.{IsSignAndSize}
use Rattle.sf_float.specs.Hexadecimal.{hex_digit, hex_digits}
use Rattle.sf_float.proofs.Limbs.{power_pos}
use Rattle.sf_float.proofs.Closest.{closest_below}
use Rattle.sf_float.proofs.Shortening.{same_whole}

pub sixteens : (k : ℕ) → 2 ^ (4 * k) ≡ 16 ^ k
sixteens zero = refl
sixteens (suc k) =
    let e : 4 * suc k ≡ 4 * k + 4 = omega arith in
    ap (λ t. 2 ^ t) e ∙ pow-add 2 (4 * k) 4 ∙ ap (λ t. t * 16) (sixteens k) ∙ sym (pow-suc 16 k)

-- one digit more
pub grown : (v f k : ℕ) → 0 < k → k ≤ f → hex_digits (f - k) (v / 16 ^ k) ++ hex_digit (v / 16 ^ (k - 1) % 16) ∷ []
    ≡ hex_digits (f - (k - 1)) (v / 16 ^ (k - 1))
grown v f k p l =
    let e : f - (k - 1) ≡ suc (f - k) = omega arith in
    let s : k ≡ suc (k - 1) = omega arith in
    let d : v / 16 ^ k ≡ v / 16 ^ (k - 1) / 16 = ap (λ t. v / t) (ap (λ t. 16 ^ t) s ∙ pow-suc 16 (k - 1))
    ∙ sym (div-div-eq-div-mul v (16 ^ (k - 1)) 16) in
    ap (λ t. hex_digits (f - k) t ++ hex_digit (v / 16 ^ (k - 1) % 16) ∷ []) d ∙ ap (λ t. hex_digits t (v / 16 ^ (k - 1))) (sym e)

-- zeros after the digits
pub hex_with_zeros : (k w m : ℕ) → hex_digits (k + w) (m * 16 ^ w) ≡ hex_digits k m ++ replicate w 48
hex_with_zeros k zero m =
    let e : k + 0 ≡ k = omega arith in
    let s : m * 1 ≡ m = omega arith in
    (λ i. hex_digits (e i) (s i)) ∙ sym (append-nil (hex_digits k m))
hex_with_zeros k (suc w) m =
    let e : k + suc w ≡ suc (k + w) = omega arith in
    let s : m * 16 ^ suc w ≡ m * 16 ^ w * 16 = ap (λ t. m * t) (pow-suc 16 w) ∙ omega arith in
    let q : m * 16 ^ w * 16 / 16 ≡ m * 16 ^ w = mul-div_cancel (m * 16 ^ w) (lit< tt) in
    let r : m * 16 ^ w * 16 % 16 ≡ 0 = omega arith in
    (λ i. hex_digits (e i) (s i))
    ∙ (λ i. hex_digits (k + w) (q i) ++ hex_digit (r i) ∷ [])
    ∙ ap (λ t. t ++ 48 ∷ []) (hex_with_zeros k w m)
    ∙ append_assoc (hex_digits k m) (replicate w 48) (48 ∷ [])
    ∙ ap (λ t. hex_digits k m ++ t) (replicate-append-replicate w 1 48 ∙ ap (λ t. replicate t 48) one_more)
  where
    one_more : w + 1 ≡ suc w
    one_more = omega arith

-- fewer digits than there are
pub few_digits : (m d : ℕ) → d ≤ 13 → closest m (2 ^ (52 - 4 * d)) ≡ closest (m * 16 ^ d) (2 ^ 52)
few_digits m d h =
    let e : 4 * d + (52 - 4 * d) ≡ 52 = omega arith in
    let p : 16 ^ d * 2 ^ (52 - 4 * d) ≡ 2 ^ 52 = ap (λ t. t * 2 ^ (52 - 4 * d)) (sym (sixteens d)) ∙ sym (pow-add 2 (4 * d) (52 - 4 * d))
    ∙ ap (λ t. 2 ^ t) e in
    closest_same m (2 ^ (52 - 4 * d)) (m * 16 ^ d) (2 ^ 52) (pow_pos (52 - 4 * d)) (pow_pos 52)
    (ap (λ t. m * t) (sym p) ∙ regroup m (16 ^ d) (2 ^ (52 - 4 * d)))
  where
    regroup : (x y w : ℕ) → x * (y * w) ≡ x * y * w
    regroup x y w = omega arith

closest_whole : (q u : ℕ) → 0 < u → closest (q * u) u ≡ q
closest_whole q u U = closest_below (q * u) u q (omega arith) (omega arith) (omega arith)

-- more
pub many_digits : (m d : ℕ) → 13 ≤ d → m * 16 ^ (d - 13) ≡ closest (m * 16 ^ d) (2 ^ 52)
many_digits m d h =
    let e : d ≡ d - 13 + 13 = omega arith in
    let p : 16 ^ d ≡ 16 ^ (d - 13) * 2 ^ 52 = ap (λ t. 16 ^ t) e ∙ pow-add 16 (d - 13) 13 in
    sym (closest_whole (m * 16 ^ (d - 13)) (2 ^ 52) (pow_pos 52))
    ∙ ap (λ t. closest t (2 ^ 52)) (regroup m (16 ^ (d - 13)) (2 ^ 52) ∙ ap (λ t. m * t) (sym p))
  where
    regroup : (x y w : ℕ) → x * y * w ≡ x * (y * w)
    regroup x y w = omega arith

-- the digit before the point, where zeros were put after the digits
pub whole_of_many : (m d : ℕ) → 13 < d → m / 16 ^ 13 ≡ m * 16 ^ (d - 13) / 16 ^ d
whole_of_many m d h =
    let w = d - 13 in
    let e : d - w ≡ 13 = omega arith in
    let q : m * 16 ^ w / 16 ^ w ≡ m = mul-div_cancel m (power_pos 16 w (lit< tt)) in
    (λ i. sym q i / 16 ^ (sym e i)) ∙ same_whole 16 (m * 16 ^ w) d w (omega arith)

-- ---- the value of a float by that of its size

value_neg : (y : Float) (a c : ℕ) → HasValue y false a c → HasValue (neg y) true a c
unfolding neg
value_neg nan a c h = h
value_neg (inf s) a c h = h
value_neg (fin s m e) a c h = (ap not h.0, h.1)

pub value_of_size : (f : Format) (x : Float) (negative : Bool) (bits a c : ℕ) → IsSignAndSize f x negative bits
    → HasValue (of_bits f bits) false a c → HasValue x negative a c
value_of_size f x true bits a c p h = subst (λ y. HasValue y true a c) p.same (value_neg (of_bits f bits) a c h)
value_of_size f x false bits a c p h = subst (λ y. HasValue y false a c) p.same h
