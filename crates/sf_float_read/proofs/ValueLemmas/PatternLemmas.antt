-- The patterns of floats: of those that are no finite number, and of a minus.
use Rattle.std.proofs.Common.{◌≡◌, ℕ, ◌+◌, ◌-◌, ◌*◌, ◌/◌, ◌%◌, ◌^◌, ◌<◌, Bool, true, false, not, cond, List, refl, sym, ap, ◌∙◌, subst}
use Rattle.std.proofs.Common.{arith, true≢false, Some, None, T, div-add-mod', mod-lt, div-lt_iff_lt-mul}
use lib.Ieee.{Float, Format, nan, inf, fin, up, down, is_nan, neg, size, prec, low, to_bits, of_bits, ones, hid, top}
use lib.Ieee.Bits.{to_bits-of_bits}
use lib.Ieee.Exact.{HasValue}
use Rattle.std.specs.Float.{float_is_infinite}
use Rattle.fast_float.proofs.Patterns.{shape, of_bits_value, field_units, infinite, neg-round}
use Rattle.sf_float_read.specs.value.Values.{stored, IsHexValue}

pub infinite_bits : (f : Format) (s : Bool) → to_bits f (inf s) ≡ cond s (top f) 0 + ones f * hid f
unfolding to_bits
infinite_bits f s = refl

pub nan_bits : (f : Format) → to_bits f nan ≡ ones f * hid f + hid f / 2
unfolding to_bits
nan_bits f = refl

pub nan_stored : (f : Format) (x : Float) → is_nan x ≡ true → Some (to_bits f nan) ≡ stored f x
unfolding is_nan float_is_infinite
nan_stored f nan h = refl
nan_stored f (inf s) h = absurd (true≢false (sym h))
nan_stored f (fin s m e) h = absurd (true≢false (sym h))

-- ---- finite floats

number_of : (y : Float) (a c : ℕ) → HasValue y false a c → T (not (is_nan y))
unfolding is_nan
number_of nan a c h = absurd h
number_of (inf s) a c h = absurd h
number_of (fin s m e) a c h = tt

plain_stored : (f : Format) (y : Float) (a c : ℕ) → HasValue y false a c → Some (to_bits f y) ≡ stored f y
unfolding float_is_infinite
plain_stored f nan a c h = absurd h
plain_stored f (inf s) a c h = absurd h
plain_stored f (fin s m e) a c h = refl

minus_stored : (f : Format) (y : Float) (a c : ℕ) → HasValue y false a c → Some (top f + to_bits f y) ≡ stored f (neg y)
unfolding float_is_infinite to_bits neg
minus_stored f nan a c h = absurd h
minus_stored f (inf s) a c h = absurd h
minus_stored f (fin s m e) a c h =
    let n = m * up e * 2 ^ low f / down e in
    let k = size n - prec f in
    let P : Bool → Type 0 = λ b. top f + (cond b (top f) 0 + k * hid f + n / 2 ^ k) ≡ cond (not b) (top f) 0 + k * hid f + n / 2 ^ k in
    ap Some (subst P (sym h.0) (omega arith))

finite_value : (f : Format) (bits : ℕ) → bits < ones f * hid f → HasValue (of_bits f bits) false
    (field_units f (bits / hid f) (bits % hid f)) (2 ^ low f)
finite_value f bits h =
    let s = shape f in
    let some : 0 < hid f = omega arith in
    let x = bits / hid f in
    let t = bits % hid f in
    subst (λ b. HasValue (of_bits f b) false (field_units f x t) (2 ^ low f)) (div-add-mod' bits (hid f))
    (of_bits_value f x t ((div-lt_iff_lt-mul some).1 h) (mod-lt bits some))

same_bits : (f : Format) (bits : ℕ) → bits < ones f * hid f → to_bits f (of_bits f bits) ≡ bits
same_bits f bits h = to_bits-of_bits f bits (omega arith) (number_of (of_bits f bits) _ (2 ^ low f) (finite_value f bits h))

pub bits_stored : (f : Format) (bits : ℕ) → bits < ones f * hid f → Some bits ≡ stored f (of_bits f bits)
bits_stored f bits h = ap Some (sym (same_bits f bits h)) ∙ plain_stored f (of_bits f bits) _ (2 ^ low f) (finite_value f bits h)

pub minus_bits_stored : (f : Format) (bits : ℕ) → bits < ones f * hid f → Some (top f + bits) ≡ stored f (neg (of_bits f bits))
minus_bits_stored f bits h = ap (λ b. Some (top f + b)) (sym (same_bits f bits h))
    ∙ minus_stored f (of_bits f bits) _ (2 ^ low f) (finite_value f bits h)

-- ---- infinities

inf_stored : (f : Format) (s : Bool) → None ≡ stored f (inf s)
unfolding float_is_infinite
inf_stored f s = refl

neg_inf : neg (inf false) ≡ inf true
unfolding neg
neg_inf = refl

pub infinity_stored : (f : Format) (bits : ℕ) → bits ≡ ones f * hid f → None ≡ stored f (of_bits f bits)
infinity_stored f bits e = inf_stored f false ∙ ap (stored f) (sym (ap (of_bits f) e ∙ infinite f))

pub minus_infinity_stored : (f : Format) (bits : ℕ) → bits ≡ ones f * hid f → None ≡ stored f (neg (of_bits f bits))
minus_infinity_stored f bits e = inf_stored f true ∙ ap (stored f) (sym (ap (λ b. neg (of_bits f b)) e ∙ ap neg (infinite f) ∙ neg_inf))

-- ---- a minus before a numeral

pub minus_value : (f : Format) (t : List ℕ) (x : Float) → IsHexValue f false t x → IsHexValue f true t (neg x)
minus_value f t x v = (v.0, ap neg v.1 ∙ neg-round f _ _)
