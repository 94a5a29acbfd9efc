-- What `%a` prints is a hexadecimal numeral with the value of the float.
use Rattle.std.proofs.Common.{◌≡◌, ◌⊎◌, ℕ, zero, suc, ◌+◌, ◌-◌, ◌*◌, ◌/◌, ◌%◌, ◌^◌, ◌<◌, ◌≤◌, Bool, true, false, cond, ◌||◌, List, [], ◌∷◌}
use Rattle.std.proofs.Common.{◌++◌, length, Option, Some, None, T, refl, sym, ap, ◌∙◌, subst, inl, inr, arith, eq-zero-or-pos, nat_lt}
use Rattle.std.proofs.Common.{lt-ltb, le-ltb, if◌then◌else◌, pow-suc, append_assoc, append-nil, length-append, mod-lt, div-add-mod'}
use Rattle.std.proofs.Common.{mul-lt-mul_of_pos_right, pow_pos, pow_mono, lt_of_lt_of_le, true≢false, add-zero, eqb, ◌&&◌}
use Rattle.std.proofs.Math.Nat.{div-div-eq-div-mul, div-one, mul_comm, add-suc}
use Rattle.std.proofs.Math.Pow.{shl_lt}
use Rattle.std.proofs.lemmas.Nat.{pow-add}
use Rattle.std.proofs.lemmas.Int.Digits.{digits_value_push}
use native.Mathlib.Nat.{eq_of_mul-eq-mul_right, mul-div_cancel}
use lib.Dec.{lit<}
use lib.Ieee.{Float, Format, nan, inf, fin, up, down, binary64, prec, low, hid, top, size, round, fits, to_bits, of_bits}
use lib.Ieee.Bits.{of_bits-to_bits}
use lib.Ieee.Exact.{HasValue, round_exact}
use lib.Ieee.Fits.{round-fits, down_pos, and_l, and_r}
use Rattle.std.proofs.Math.Dec.{eqb→eq}
use lib.Ieee.Nearest.{closest}
use lib.Ieee.Scale.{round_same}
use Rattle.std.specs.Char.{digit_value, is_ascii_digit, is_ascii_hexdigit}
use Rattle.std.specs.Str.Parse.{digits_value}
use Rattle.std.specs.Float.{is_sign_negative}
use Rattle.sf_float.specs.Texts.{fixed_digits}
use Rattle.sf_float.specs.Hexadecimal.{hex_digit, hex_digits, hex_text, binary_power, IsBinaryExponent, IsHexNumeral}
use Rattle.sf_float.proofs.Limbs.{power_pos}
use Rattle.sf_float.proofs.Hexadecimals.{sixteens, many_digits}
use Rattle.sf_float.proofs.TextLaws.{fixed_length, fixed_value}
use Rattle.sf_float_read.specs.declared.item.reached.Radix.TheVariants.{Ten, Sixteen}
use Rattle.sf_float_read.specs.item.Parts.{AreDigits, IsExponent, IsNumeral}
use Rattle.sf_float_read.specs.value.Values.{raised_by, lowered_by, IsHexValue}
use Rattle.sf_float_read.specs.value.Laws.{IsLong, OneHexValue, HexadecimalReadsBack}
use Rattle.sf_float_read.specs.value.Hexadecimals.{exponent_read}
use Rattle.sf_float_read.proofs.ValueLemmas.HexParts.{read_parts, up_by, down_by}

-- ---- one value

pub one_hex_value : OneHexValue
one_hex_value f negative t x y v w =
    let n = v.0 in
    let k = w.0 in
    let same : ◌≡◌ {A = ℕ × ℕ × List ℕ} (digits_value 16 (n.whole ++ n.fraction), length n.fraction, n.exponent)
    (digits_value 16 (k.whole ++ k.fraction), length k.fraction, k.exponent) = sym (read_parts t n) ∙ read_parts t k in
    let e : n.exponent ≡ k.exponent = ap (λ r. r.2) same in
    let ups = up_by n.exponent n.raised ∙ ap (λ s. if (exponent_read s).0 then 0 else (exponent_read s).1) e
    ∙ sym (up_by k.exponent k.raised) in
    let downs = down_by n.exponent n.raised ∙ ap (λ s. if (exponent_read s).0 then (exponent_read s).1 else 0) e
    ∙ sym (down_by k.exponent k.raised) in
    v.1 ∙ (λ i. round f negative ((same i).0 * 2 ^ ups i) (2 ^ (4 * (same i).1 + downs i))) ∙ sym w.1

-- ---- digits, each tried

tried : (ℕ → Bool) → ℕ → Bool
tried p zero = true
tried p (suc n) = p n && tried p n

tried_at : (p : ℕ → Bool) (n d : ℕ) → T (tried p n) → d < n → T (p d)
unfolding tried
tried_at p zero d h l = absurd (omega arith)
tried_at p (suc n) d h l =
    elim (eq-zero-or-pos (n - d)) [
      | inl z ↦ let e : n ≡ d = omega arith in subst (λ k. T (p k)) e (and_l (p n) (tried p n) h)
      | inr q ↦ tried_at p n d (and_r (p n) (tried p n) h) (omega arith)
    ]

is_true : (b : Bool) → T b → b ≡ true
is_true true h = refl
is_true false h = absurd h

abbrev hex_right : ℕ → Bool
hex_right d = is_ascii_hexdigit (hex_digit d) && eqb (digit_value (hex_digit d)) d

all_hex_right : T (tried hex_right 16)
unfolding tried
all_hex_right = tt

abbrev decimal_right : ℕ → Bool
decimal_right d = is_ascii_digit (48 + d)

all_decimal_right : T (tried decimal_right 10)
unfolding tried
all_decimal_right = tt

hex_is : (d : ℕ) → d < 16 → is_ascii_hexdigit (hex_digit d) ≡ true
hex_is d h = is_true _ (and_l (is_ascii_hexdigit (hex_digit d)) _ (tried_at hex_right 16 d all_hex_right h))

hex_worth : (d : ℕ) → d < 16 → digit_value (hex_digit d) ≡ d
hex_worth d h = eqb→eq _ _ (and_r (is_ascii_hexdigit (hex_digit d)) _ (tried_at hex_right 16 d all_hex_right h))

decimal_is : (d : ℕ) → d < 10 → is_ascii_digit (48 + d) ≡ true
decimal_is d h = is_true _ (tried_at decimal_right 10 d all_decimal_right h)

-- ---- lists of digits

push_hex : (ds : List ℕ) (d : ℕ) → AreDigits Sixteen ds → is_ascii_hexdigit d ≡ true → AreDigits Sixteen (ds ++ d ∷ [])
push_hex [] d h l = (l, tt)
push_hex (c ∷ cs) d h l = (h.0, push_hex cs d h.1 l)

push_decimal : (ds : List ℕ) (d : ℕ) → AreDigits Ten ds → is_ascii_digit d ≡ true → AreDigits Ten (ds ++ d ∷ [])
push_decimal [] d h l = (l, tt)
push_decimal (c ∷ cs) d h l = (h.0, push_decimal cs d h.1 l)

all_hex : (k n : ℕ) → AreDigits Sixteen (hex_digits k n)
all_hex zero n = tt
all_hex (suc k) n = push_hex (hex_digits k (n / 16)) (hex_digit (n % 16)) (all_hex k (n / 16)) (hex_is (n % 16) (mod-lt n (lit< tt)))

all_decimal : (k n : ℕ) → AreDigits Ten (fixed_digits k n)
all_decimal zero n = tt
all_decimal (suc k) n = push_decimal (fixed_digits k (n / 10)) (48 + n % 10) (all_decimal k (n / 10))
    (decimal_is (n % 10) (mod-lt n (lit< tt)))

hex_length : (k n : ℕ) → length (hex_digits k n) ≡ k
hex_length zero n = refl
hex_length (suc k) n = omega (arith, length-append (hex_digits k (n / 16)) (hex_digit (n % 16) ∷ []), hex_length k (n / 16))

sixteenth_fits : (k n : ℕ) → n < 16 ^ suc k → n / 16 < 16 ^ k
sixteenth_fits k n h = let e : 16 ^ suc k ≡ 16 ^ k * 16 = pow-suc 16 k in omega (arith, e)

hex_value : (k n : ℕ) → n < 16 ^ k → digits_value 16 (hex_digits k n) ≡ n
hex_value zero n h = omega arith
hex_value (suc k) n h =
    digits_value_push 16 (hex_digits k (n / 16)) (hex_digit (n % 16))
    ∙ (λ i. hex_value k (n / 16) (sixteenth_fits k n h) i * 16 + hex_worth (n % 16) (mod-lt n (lit< tt)) i)
    ∙ div-add-mod' n 16

hex_split : (k b n : ℕ) → hex_digits k (n / 16 ^ b) ++ hex_digits b n ≡ hex_digits (k + b) n
hex_split k zero n = append-nil (hex_digits k (n / 1)) ∙ (λ i. hex_digits (sym (add-zero k) i) (div-one n i))
hex_split k (suc b) n =
    let d = hex_digit (n % 16) ∷ [] in
    let e : n / 16 ^ suc b ≡ n / 16 / 16 ^ b = ap (λ t. n / t) (pow-suc 16 b ∙ mul_comm (16 ^ b) 16)
    ∙ sym (div-div-eq-div-mul n 16 (16 ^ b)) in
    ap (λ t. hex_digits k t ++ (hex_digits b (n / 16) ++ d)) e
    ∙ sym (append_assoc (hex_digits k (n / 16 / 16 ^ b)) (hex_digits b (n / 16)) d)
    ∙ ap (λ t. t ++ d) (hex_split k b (n / 16))
    ∙ ap (λ t. hex_digits t n) (sym (add-suc k b))

both_value : (kept n : ℕ) → n < 16 ^ (1 + kept) → digits_value 16 (hex_digits 1 (n / 16 ^ kept) ++ hex_digits kept n) ≡ n
both_value kept n h = ap (digits_value 16) (hex_split 1 kept n) ∙ hex_value (1 + kept) n h

-- ---- the exponent

pub record Raised (power : ℕ) (t : List ℕ) : Type 0 where
  pub exponent : (t ≡ []) ⊎ IsExponent Sixteen t
  pub up_is : raised_by t exponent ≡ power - 1022
  pub down_is : lowered_by t exponent ≡ 1022 - power

exponent_of : (power : ℕ) (t : List ℕ) → IsBinaryExponent power t → Raised power t
exponent_of power t h =
    let size = (power - 1022) + (1022 - power) in
    let digits = fixed_digits h.0 size in
    let few : size < 10 ^ h.0 = subst (λ k. size < 10 ^ k) (add-zero h.0) h.1.fits in
    let some_digits : 0 < length digits = omega (arith, fixed_length h.0 size, h.1.some) in
    elim (eq-zero-or-pos (1022 - power)) [
      | inr p ↦
          let l : power < 1022 = omega arith in
          record {
            exponent = inr (record {
              letter = 112;
              sign = 45 ∷ [];
              digits = digits;
              opens = refl;
              signed = inr (inr refl);
              all = all_decimal h.0 size;
              some = some_digits;
              joined = h.2 ∙ ap (λ b. 112 ∷ (if b then 45 else 43) ∷ digits) (lt-ltb power 1022 l);
            });
            up_is = omega arith;
            down_is = fixed_value h.0 size few ∙ omega arith;
          }
      | inl z ↦
          let l : 1022 ≤ power = omega arith in
          record {
            exponent = inr (record {
              letter = 112;
              sign = 43 ∷ [];
              digits = digits;
              opens = refl;
              signed = inr (inl refl);
              all = all_decimal h.0 size;
              some = some_digits;
              joined = h.2 ∙ ap (λ b. 112 ∷ (if b then 45 else 43) ∷ digits) (le-ltb power 1022 l);
            });
            up_is = fixed_value h.0 size few ∙ omega arith;
            down_is = omega arith;
          }
    ]

-- ---- the parts

no_point : (alt : Bool) (kept n : ℕ) → (nat_lt 0 kept || alt) ≡ false → hex_digits kept n ≡ []
no_point alt zero n h = refl
no_point alt (suc b) n h = absurd (true≢false (sym (ap (λ t. t || alt) (lt-ltb 0 (suc b) (omega arith))) ∙ h))

pub record Printed (kept n power : ℕ) (t : List ℕ) : Type 0 where
  pub numeral : IsNumeral Sixteen t
  pub whole_is : numeral.whole ≡ hex_digits 1 (n / 16 ^ kept)
  pub fraction_is : numeral.fraction ≡ hex_digits kept n
  pub up_is : raised_by numeral.exponent numeral.raised ≡ power - 1022
  pub down_is : lowered_by numeral.exponent numeral.raised ≡ 1022 - power

parts_of : (alt : Bool) (kept n power : ℕ) (e : List ℕ) → Raised power e → Printed kept n power (hex_text alt kept n ++ e)
parts_of alt kept n power e r = go (nat_lt 0 kept || alt) refl
  where
    whole : List ℕ
    whole = hex_digits 1 (n / 16 ^ kept)

    go : (b : Bool) → (nat_lt 0 kept || alt) ≡ b → Printed kept n power (hex_text alt kept n ++ e)
    go true h =
        record {
          numeral = record {
            whole = hex_digits 1 (n / 16 ^ kept);
            point = 46 ∷ [];
            fraction = hex_digits kept n;
            exponent = e;
            whole_digits = all_hex 1 (n / 16 ^ kept);
            fraction_digits = all_hex kept n;
            some = omega arith;
            pointed = inr refl;
            raised = r.exponent;
            joined = ap (λ b. (hex_digits 1 (n / 16 ^ kept) ++ (if b then 46 ∷ hex_digits kept n else [])) ++ e) h;
          };
          whole_is = refl;
          fraction_is = refl;
          up_is = r.up_is;
          down_is = r.down_is;
        }
    go false h =
        record {
          numeral = record {
            whole = hex_digits 1 (n / 16 ^ kept);
            point = [];
            fraction = hex_digits kept n;
            exponent = e;
            whole_digits = all_hex 1 (n / 16 ^ kept);
            fraction_digits = all_hex kept n;
            some = omega arith;
            pointed = inl (refl, no_point alt kept n h);
            raised = r.exponent;
            joined = ap (λ b. (hex_digits 1 (n / 16 ^ kept) ++ (if b then 46 ∷ hex_digits kept n else [])) ++ e) h
                ∙ ap (λ s. hex_digits 1 (n / 16 ^ kept) ++ (s ++ e)) (sym (no_point alt kept n h));
          };
          whole_is = refl;
          fraction_is = refl;
          up_is = r.up_is;
          down_is = r.down_is;
        }

-- ---- the value

bits_of_value : (f : Format) (x : Float) (s : Bool) (a : ℕ) → HasValue x s a (2 ^ low f)
    → to_bits f x ≡ cond s (top f) 0 + (size a - prec f) * hid f + a / 2 ^ (size a - prec f)
unfolding to_bits
bits_of_value f nan s a v = absurd v
bits_of_value f (inf t) s a v = absurd v
bits_of_value f (fin t m e) s a v =
    let n : m * up e * 2 ^ low f / down e ≡ a = ap (λ (k : ℕ). k / down e) v.1 ∙ mul-div_cancel a (down_pos e) in
    λ i. cond (v.0 i) (top f) 0 + (size (n i) - prec f) * hid f + n i / 2 ^ (size (n i) - prec f)

same_value : (f : Format) (x y : Float) (s : Bool) (a : ℕ) → T (fits f x) → T (fits f y) → HasValue x s a (2 ^ low f)
    → HasValue y s a (2 ^ low f) → x ≡ y
same_value f x y s a p q v w = sym (of_bits-to_bits f x p) ∙ ap (of_bits f) (bits_of_value f x s a v ∙ sym (bits_of_value f y s a w))
    ∙ of_bits-to_bits f y q

exact : (x : Float) (negative : Bool) (m power : ℕ) → T (fits binary64 x) → HasValue x negative (m * 2 ^ power) (2 ^ 1074) → m < 2 ^ 53
    → power < 2046 → round binary64 negative (m * 2 ^ power) (2 ^ 1074) ≡ x
exact x negative m power f v most few =
    let l : 53 + power ≤ 2098 = omega arith in
    let below : m * 2 ^ power < 2 ^ 2098 = lt_of_lt_of_le (shl_lt 53 power most) (pow_mono l) in
    same_value binary64 (round binary64 negative (m * 2 ^ power) (2 ^ 1074)) x negative (m * 2 ^ power)
    (round-fits binary64 negative (m * 2 ^ power) (2 ^ 1074)) f
    (round_exact binary64 negative (m * 2 ^ power) (2 ^ 1074) m power (pow_pos 1074) most below refl) v

cross : (m n power kept : ℕ) → n * 2 ^ 52 ≡ m * 16 ^ kept → n * 2 ^ (power - 1022) * 2 ^ 1074
    ≡ m * 2 ^ power * 2 ^ (4 * kept + (1022 - power))
cross m n power kept h =
    let u = power - 1022 in
    let d = 1022 - power in
    let e : 2 ^ u * 2 ^ 1022 ≡ 2 ^ power * 2 ^ d = sym (pow-add 2 u 1022) ∙ ap (λ k. 2 ^ k) level ∙ pow-add 2 power d in
    let g : 2 ^ (4 * kept + d) ≡ 16 ^ kept * 2 ^ d = pow-add 2 (4 * kept) d ∙ ap (λ k. k * 2 ^ d) (sixteens kept) in
    ap (λ k. n * 2 ^ u * k) (pow-add 2 52 1022)
    ∙ joined n m (2 ^ u) (2 ^ 52) (2 ^ 1022) (16 ^ kept) (2 ^ power) (2 ^ d) h e
    ∙ ap (λ k. m * 2 ^ power * k) (sym g)
  where
    level : (power - 1022) + 1022 ≡ power + (1022 - power)
    level = omega arith

    joined : (n m u a b k p d : ℕ) → n * a ≡ m * k → u * b ≡ p * d → n * u * (a * b) ≡ m * p * (k * d)
    joined n m u a b k p d h e = omega (arith, ap (λ t. t * (u * b)) h, ap (λ t. m * k * t) e)

back : (x : Float) (negative : Bool) (m n power kept : ℕ) → T (fits binary64 x) → HasValue x negative (m * 2 ^ power) (2 ^ 1074)
    → m < 2 ^ 53 → power < 2046 → n * 2 ^ 52 ≡ m * 16 ^ kept
    → round binary64 negative (n * 2 ^ (binary_power m power - 1022)) (2 ^ (4 * kept + (1022 - binary_power m power))) ≡ x
back x negative m n power kept f v most few h =
    let p = binary_power m power in
    round_same binary64 negative _ _ (m * 2 ^ power) (2 ^ 1074) (pow_pos (4 * kept + (1022 - p))) (pow_pos 1074) crossed
    ∙ exact x negative m power f v most few
  where
    crossed : n * 2 ^ (binary_power m power - 1022) * 2 ^ 1074 ≡ m * 2 ^ power * 2 ^ (4 * kept + (1022 - binary_power m power))
    crossed =
        elim (eq-zero-or-pos m) [
          | inr M ↦ subst (λ q. n * 2 ^ (q - 1022) * 2 ^ 1074 ≡ m * 2 ^ power * 2 ^ (4 * kept + (1022 - q)))
              (ap (λ b. if b then power else 1022) (sym (lt-ltb 0 m M))) (cross m n power kept h)
          | inl z ↦
              let none : n ≡ 0 = eq_of_mul-eq-mul_right (2 ^ 52) (pow_pos 52) n 0 (h ∙ ap (λ k. k * 16 ^ kept) z ∙ omega arith) in
              ap (λ k. k * 2 ^ (binary_power m power - 1022) * 2 ^ 1074) none ∙ omega arith
              ∙ ap (λ k. k * 2 ^ power * 2 ^ (4 * kept + (1022 - binary_power m power))) (sym z)
        ]

-- ---- what is printed

long_numeral : (alt : Bool) (precision : Option ℕ) (m : ℕ) (t : List ℕ) → IsLong precision → IsHexNumeral alt precision m t
    → (kept : ℕ) × (n : ℕ) × (t ≡ hex_text alt kept n) × (n * 2 ^ 52 ≡ m * 16 ^ kept)
long_numeral alt None m t l h =
    let less : h.0 ≤ 13 = h.2.fewer in
    let e : 13 - h.0 + h.0 ≡ 13 = omega arith in
    let p : 16 ^ (13 - h.0) * 16 ^ h.0 ≡ 2 ^ 52 = sym (pow-add 16 (13 - h.0) h.0) ∙ ap (λ k. 16 ^ k) e in
    (h.0, h.1, h.3, ap (λ k. h.1 * k) (sym p) ∙ regroup h.1 (16 ^ (13 - h.0)) (16 ^ h.0) ∙ ap (λ k. k * 16 ^ h.0) (sym h.2.same))
  where
    regroup : (x y z : ℕ) → x * (y * z) ≡ x * y * z
    regroup x y z = omega arith
long_numeral alt (Some d) m t l h =
    let e : d - 13 + 13 ≡ d = omega arith in
    let p : 16 ^ (d - 13) * 2 ^ 52 ≡ 16 ^ d = sym (pow-add 16 (d - 13) 13) ∙ ap (λ k. 16 ^ k) e in (
      d,
      closest (m * 16 ^ d) (2 ^ 52),
      h,
      ap (λ k. k * 2 ^ 52) (sym (many_digits m d l)) ∙ regroup m (16 ^ (d - 13)) (2 ^ 52)
          ∙ ap (λ k. m * k) p,
    )
  where
    regroup : (x y z : ℕ) → x * y * z ≡ x * (y * z)
    regroup x y z = omega arith

few_digits_of : (m n kept : ℕ) → m < 2 ^ 53 → n * 2 ^ 52 ≡ m * 16 ^ kept → n < 16 ^ (1 + kept)
few_digits_of m n kept most h =
    let p : 16 ^ (1 + kept) ≡ 16 * 16 ^ kept = pow-add 16 1 kept in
    let some : 0 < 16 ^ kept = power_pos 16 kept (lit< tt) in
    let a : m * 16 ^ kept < 2 ^ 53 * 16 ^ kept = mul-lt-mul_of_pos_right most some in
    omega (arith, h, a, p, some)

sign_of_value : (x : Float) (negative : Bool) (a c : ℕ) → HasValue x negative a c → negative ≡ is_sign_negative x
unfolding is_sign_negative
sign_of_value nan negative a c h = absurd h
sign_of_value (inf s) negative a c h = absurd h
sign_of_value (fin s m e) negative a c h = sym h.0

pub hexadecimal_back : HexadecimalReadsBack
hexadecimal_back x alt precision t f long h =
    let m = h.0 in
    let power = h.1 in
    let b = h.2 in
    let q = binary_power m power in
    let r = long_numeral alt precision m h.3.0 long h.3.2 in
    let kept = r.0 in
    let n = r.1 in
    let p = parts_of alt kept n q h.3.1 (exponent_of q h.3.1 h.3.3) in
    let value : n ≡ digits_value 16 (p.numeral.whole ++ p.numeral.fraction) =
    sym (both_value kept n (few_digits_of m n kept b.most r.3)) ∙ (λ i. digits_value 16 (sym p.whole_is i ++ sym p.fraction_is i)) in
    let places : kept ≡ length p.numeral.fraction = sym (hex_length kept n) ∙ ap length (sym p.fraction_is) in
    let is = sym (back x b.negative m n power kept f b.value b.most b.few r.3)
    ∙ (λ i. round binary64 b.negative (value i * 2 ^ sym p.up_is i) (2 ^ (4 * places i + sym p.down_is i))) in
    subst (λ s. IsHexValue binary64 s t x) (sign_of_value x b.negative _ _ b.value)
    (subst (λ s. IsHexValue binary64 b.negative s x) (sym (h.3.4 ∙ ap (λ s. s ++ h.3.1) r.2)) (p.numeral, is))
