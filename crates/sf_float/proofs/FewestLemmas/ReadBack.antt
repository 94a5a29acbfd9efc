-- What is written of a float is read as that float.
use Rattle.std.proofs.Common.{◌≡◌, ℕ, zero, suc, ◌+◌, ◌-◌, ◌*◌, ◌/◌, ◌%◌, ◌^◌, ◌<◌, ◌≤◌, Bool, true, false, nat_eq, ◌++◌, codes, Option}
use Rattle.std.proofs.Common.{Some, None, T, pos, leb, refl, sym, ap, ◌∙◌, subst, inl, inr, arith, eq-zero-or-pos, div-add-mod', mod-lt}
use Rattle.std.proofs.Common.{div-lt_iff_lt-mul, lt_of_lt_of_le, pow_mono, pow_pos, cond, if◌then◌else◌, mul-pos}
use Rattle.std.proofs.lemmas.Bool.{eqb-true, eqb-false}
use Rattle.std.proofs.lemmas.Nat.{pow-add}
use Rattle.std.proofs.lemmas.Option.{same_Some, none-some}
use Rattle.std.proofs.Math.Nat.{div-eq_of_lt}
use lib.Dec.{lit<}
use lib.Ieee.Bits.{of_bits-to_bits, to_bits-lt, of_bits-fits}
use lib.Ieee.Fits.{round-fits, down_pos, up_pos}
use lib.Ieee.Scale.{round_same}
use Rattle.std.specs.Float.{is_sign_negative, float_is_finite}
use Rattle.std.specs.Float.Ieee.{Float, Format, nan, inf, fin, neg, size, round, up, down, prec, low, hid, ones, top, of_bits, to_bits}
use Rattle.std.specs.Float.Ieee.{fits, binary32, binary64}
use Rattle.std.specs.Float.Ieee.Exact.{HasValue}
use Rattle.std.specs.Float.Numeral.{scan_numeral}
use Rattle.std.specs.Float.Parse.{parse_float, read_float}
use Rattle.std.specs.Fmt.{sign_text}
use Rattle.fast_float.proofs.Extremes.{nearest_of_zero}
use Rattle.fast_float.proofs.Patterns.{shape, of_bits_value, field_units, neg-round}
use Rattle.ryu.proofs.Signs.{parts, finite_number}
use Rattle.sf_base.specs.declared.real.Real as real
use Rattle.sf_base.specs.declared.real.Real.TheVariants as reals
use Rattle.sf_float.proofs.Limbs.{power_pos}
use Rattle.sf_float.proofs.ReadBack.{reads_back}
use Rattle.sf_float.proofs.TextLaws.{sign_is}
use Rattle.sf_float.specs.fewest.Digits.{format_of, number_of, most_decimals, near, other, read_as, first_power, tried, searched, trimmed}
use Rattle.sf_float.specs.fewest.Digits.{shortest}
use Rattle.sf_float.specs.fewest.Laid.{size_text, laid_out, shortest_text}
use Rattle.sf_float.specs.fewest.Laws.{ReadsBack, OneFloat}
use Rattle.sf_float.specs.fewest.Digits as digits
use Rattle.sf_float.proofs.FewestLemmas.Firsts.{signed_value}
use Rattle.sf_float.proofs.FewestLemmas.FirstDigits.{near_long}
use Rattle.sf_float.proofs.FewestLemmas.LaidBack.{decimal, laid_back, fixed_back}

-- ---- a pattern tells a float

same_bits : (f : Format) (x y : Float) → T (fits f x) → T (fits f y) → to_bits f x ≡ to_bits f y → x ≡ y
same_bits f x y p q e = sym (of_bits-to_bits f x p) ∙ ap (of_bits f) e ∙ of_bits-to_bits f y q

tested : (r : real.Real) (n last : ℕ) → T (fits (format_of r) (number_of r)) → digits.reads_back r n last ≡ true
    → read_as r n last ≡ number_of r
tested r n last f h = same_bits (format_of r) _ _ (round-fits (format_of r) _ _ _) f (eqb-true _ _ h)

-- ---- the trial

pub tried_back : (r : real.Real) (last n : ℕ) → T (fits (format_of r) (number_of r)) → tried r last ≡ Some n → read_as r n last ≡ number_of
    r
tried_back r last n f e = by (digits.reads_back r a last) refl (digits.reads_back r b last) refl e
  where
    a : ℕ
    a = near (number_of r) last

    b : ℕ
    b = other (number_of r) last

    by : (p : Bool) → digits.reads_back r (near (number_of r) last) last ≡ p → (q : Bool)
        → digits.reads_back r (other (number_of r) last) last ≡ q
        → (if p then Some (near (number_of r) last) else (if q then Some (other (number_of r) last) else None)) ≡ Some n
        → read_as r n last ≡ number_of r
    by true p q k e = subst (λ m. read_as r m last ≡ number_of r) (same_Some _ _ e) (tested r _ last f p)
    by false p true k e = subst (λ m. read_as r m last ≡ number_of r) (same_Some _ _ e) (tested r _ last f k)
    by false p false k e = absurd (none-some n e)

searched_back : (r : real.Real) (k last : ℕ) → T (fits (format_of r) (number_of r))
    → read_as r (near (number_of r) (last - k)) (last - k) ≡ number_of r
    → read_as r (searched r k last).0 (searched r k last).1 ≡ number_of r
unfolding searched
searched_back r zero last f h = let e : last - 0 ≡ last = omega arith in
    subst (λ l. read_as r (near (number_of r) l) l ≡ number_of r) e h
searched_back r (suc k) last f h =
    let s : last - suc k ≡ last - 1 - k = omega arith in
    by (tried r last) refl
    (searched_back r k (last - 1) f (subst (λ l. read_as r (near (number_of r) l) l ≡ number_of r) s h))
  where
    by : (o : Option ℕ) → tried r last ≡ o
        → read_as r (searched r k (last - 1)).0 (searched r k (last - 1)).1 ≡ number_of r
        → read_as r (digits.or_else o last (searched r k (last - 1))).0 (digits.or_else o last (searched r k (last - 1))).1 ≡ number_of r
    by (Some n) e rest = tried_back r last n f e
    by None e rest = rest

-- a zero at the end changes nothing
tenth : (r : real.Real) (x : Float) (n last : ℕ) → n % 10 ≡ 0 → read_as r n last ≡ x → read_as r (n / 10) (last + 1) ≡ x
tenth r x n last e h =
    let m = n / 10 in
    let whole : n ≡ m * 10 = sym (div-add-mod' n 10) ∙ ap (λ t. m * 10 + t) e ∙ omega arith in
    let s : 1 + (last - 400 + (400 - (last + 1))) ≡ last + 1 - 400 + (400 - last) = omega arith in
    let t : 10 ^ 1 * (10 ^ (last - 400) * 10 ^ (400 - (last + 1))) ≡ 10 ^ (last + 1 - 400) * 10 ^ (400 - last) =
    ap (λ y. 10 ^ 1 * y) (sym (pow-add 10 (last - 400) (400 - (last + 1))))
    ∙ sym (pow-add 10 1 (last - 400 + (400 - (last + 1)))) ∙ ap (λ y. 10 ^ y) s ∙ pow-add 10 (last + 1 - 400) (400 - last) in
    round_same (format_of r) (is_sign_negative (number_of r)) _ _ _ _ (power_pos 10 (400 - (last + 1)) (lit< tt))
    (power_pos 10 (400 - last) (lit< tt))
    (omega (arith, ap (λ y. m * y) t, ap (λ y. y * 10 ^ (last - 400) * 10 ^ (400 - (last + 1))) whole)) ∙ h

trimmed_back : (r : real.Real) (x : Float) (k n last : ℕ) → read_as r n last ≡ x
    → read_as r (trimmed k n last).0 (trimmed k n last).1 ≡ x
unfolding trimmed
trimmed_back r x zero n last h = h
trimmed_back r x (suc k) n last h = by (nat_eq (n % 10) 0) refl (λ e. trimmed_back r x k (n / 10) (last + 1) (tenth r x n last e h))
  where
    by : (b : Bool) → nat_eq (n % 10) 0 ≡ b
        → (n % 10 ≡ 0 → read_as r (trimmed k (n / 10) (last + 1)).0 (trimmed k (n / 10) (last + 1)).1 ≡ x)
        → let d = if b then trimmed k (n / 10) (last + 1) else (n, last) in read_as r d.0 d.1 ≡ x
    by false e rest = h
    by true e rest = rest (eqb-true _ _ e)

-- ---- enough digits

enough : (r : real.Real) → 2 ^ prec (format_of r) < 10 ^ most_decimals r
enough (reals.F32 bits) = lit< tt
enough (reals.F64 bits) = lit< tt

pub most_few : (r : real.Real) → most_decimals r ≤ 16
most_few (reals.F32 bits) = omega arith
most_few (reals.F64 bits) = omega arith

pattern_value : (f : Format) (bits : ℕ) → bits < ones f * hid f → HasValue (of_bits f bits) false
    (field_units f (bits / hid f) (bits % hid f)) (2 ^ low f)
pattern_value f bits h =
    let s = shape f in
    let some : 0 < hid f = omega (arith, s.some) in
    subst (λ b. HasValue (of_bits f b) false (field_units f (bits / hid f) (bits % hid f)) (2 ^ low f)) (div-add-mod' bits (hid f))
    (of_bits_value f (bits / hid f) (bits % hid f) ((div-lt_iff_lt-mul some).1 h) (mod-lt bits some))

some_value : (s negative : Bool) (m a c : ℕ) (e : _) → 0 < m → 0 < c → HasValue (fin s m e) negative a c → 0 < a
some_value s negative m a c e M C v =
    elim (eq-zero-or-pos a) [
      | inr p ↦ p
      | inl z ↦
          let k : 0 < m * up e * c = mul-pos (mul-pos M (up_pos e)) C in
          absurd (omega (arith, k, v.1, ap (λ t. t * down e) z))
    ]

finite_fin : (s : Bool) (m : ℕ) (e : _) → float_is_finite (fin s m e) ≡ true
unfolding float_is_finite
finite_fin s m e = refl

pub finite_sign : (s : Bool) (m : ℕ) (e : _) → is_sign_negative (fin s m e) ≡ s
unfolding is_sign_negative
finite_sign s m e = refl

module _ (r : real.Real) (s : Bool) (m : ℕ) (e : _) (is : number_of r ≡ fin s m e) (F : T (fits (format_of r) (fin s m e)))
    (M : 0 < m) where
  abbrev f : Format
  f = format_of r

  abbrev x : Float
  x = fin s m e

  last_back : read_as r (near x (first_power x - most_decimals r)) (first_power x - most_decimals r) ≡ x
  last_back =
      let raw = to_bits f x in
      let finite = finite_fin s m e in
      let split = parts f x raw (of_bits-to_bits f x F) (to_bits-lt f x F) (finite_number x finite) in
      let negative = leb (top f) raw in
      let bits = raw % top f in
      let bound = split.finite.0 finite in
      let pattern = pattern_value f bits bound in
      let a = field_units f (bits / hid f) (bits % hid f) in
      let value = signed_value f x negative bits a (2 ^ low f) split pattern in
      let C = pow_pos (low f) in
      let few : 2 ^ low f ≤ 2 ^ 1074 = pow_mono (shape f).least.1 in
      let last = first_power x - most_decimals r in
      let long = near_long x negative a (2 ^ low f) C (some_value s negative m a (2 ^ low f) e M C value) few value (most_decimals r)
      (most_few r) in
      let sign : negative ≡ is_sign_negative (number_of r) = sign_is x (of_bits f bits) negative _ _ split.same pattern
      ∙ ap is_sign_negative (sym is) in
      subst (λ b. round f b (near x last * 10 ^ (last - 400)) (10 ^ (400 - last)) ≡ x) sign
      (reads_back f x negative bits (400 - last) (last - 400) split bound (lt_of_lt_of_le (enough r) long))

  shortest_back : read_as r (shortest r).0 (shortest r).1 ≡ number_of r
  unfolding shortest
  shortest_back =
      let p = first_power (number_of r) in
      trimmed_back r (number_of r) 17 _ _ (searched_back r (most_decimals r) p (subst (λ y. T (fits (format_of r) y)) (sym is) F)
      (subst (λ y. read_as r (near y (first_power y - most_decimals r)) (first_power y - most_decimals r) ≡ y) (sym is) last_back))

  digits_back : parse_float f (sign_text s ++ laid_out r (shortest r).0 (shortest r).1) ≡ Some x
  digits_back =
      laid_back r f s (shortest r).0 (shortest r).1
      ∙ ap Some (ap (λ b. decimal f b (shortest r).0 (shortest r).1) (sym (finite_sign s m e) ∙ ap is_sign_negative (sym is))
      ∙ shortest_back ∙ is)

-- ---- words and zeros

nan_back : (f : Format) → parse_float f (codes "nan") ≡ Some nan
unfolding read_float scan_numeral
nan_back f = refl

infinity_back : (f : Format) (s : Bool) → parse_float f (sign_text s ++ codes "inf") ≡ Some (inf s)
unfolding read_float scan_numeral
infinity_back f true = refl
infinity_back f false = refl

of_no_bits : (f : Format) → of_bits f 0 ≡ fin false 0 (pos 0)
unfolding of_bits
of_no_bits binary32 = refl
of_no_bits binary64 = refl

pub zero_round : (f : Format) (s : Bool) (n den : ℕ) → 0 < den → n ≡ 0 → round f s n den ≡ fin s 0 (pos 0)
unfolding neg
zero_round f false n den D z = sym (nearest_of_zero f n den D z).0 ∙ of_no_bits f
zero_round f true n den D z = sym (neg-round f n den) ∙ ap neg (sym (nearest_of_zero f n den D z).0 ∙ of_no_bits f)

zero_fits : (f : Format) (s : Bool) → T (fits f (fin s 0 (pos 0)))
unfolding fits
zero_fits f s = tt

zero_bits : (f : Format) (s : Bool) (m : ℕ) (e : _) → m ≡ 0 → to_bits f (fin s m e) ≡ to_bits f (fin s 0 (pos 0))
unfolding to_bits
zero_bits f s m e z =
    let n : m * up e * 2 ^ low f / down e ≡ 0 = ap (λ k. k * up e * 2 ^ low f / down e) z ∙ none (up e) (2 ^ low f) (down e) (down_pos e) in
    let k : 0 * up (pos 0) * 2 ^ low f / down (pos 0) ≡ 0 = none (up (pos 0)) (2 ^ low f) (down (pos 0)) (down_pos (pos 0)) in
    ap (λ t. cond s (top f) 0 + (size t - prec f) * hid f + t / 2 ^ (size t - prec f)) (n ∙ sym k)
  where
    none : (u w d : ℕ) → 0 < d → 0 * u * w / d ≡ 0
    none u w d D = let z : 0 * u * w ≡ 0 = omega arith in ap (λ t. t / d) z ∙ div-eq_of_lt D

zero_back : (f : Format) (s : Bool) (m : ℕ) (e : _) → T (fits f (fin s m e)) → m ≡ 0
    → parse_float f (sign_text s ++ codes "0.0") ≡ Some (fin s m e)
zero_back f s m e F z =
    fixed_back f s 0 1 1 0 400 (lit< tt) (lit< tt) refl
    ∙ ap Some (zero_round f s (0 * 10 ^ (400 - 400)) (10 ^ (400 - 400)) (lit< tt) refl
    ∙ same_bits f _ _ (zero_fits f s) F (sym (zero_bits f s m e z)))

-- ---- any float

text_back : (r : real.Real) (x : Float) → number_of r ≡ x → T (fits (format_of r) x)
    → parse_float (format_of r) (sign_text (is_sign_negative x) ++ size_text r x) ≡ Some x
unfolding is_sign_negative
text_back r nan is F = nan_back (format_of r)
text_back r (inf s) is F = infinity_back (format_of r) s
text_back r (fin s m e) is F = by (nat_eq m 0) refl
  where
    by : (b : Bool) → nat_eq m 0 ≡ b
        → parse_float (format_of r) (sign_text s ++ (if b then codes "0.0" else laid_out r (shortest r).0 (shortest r).1))
        ≡ Some (fin s m e)
    by true h = zero_back (format_of r) s m e F (eqb-true m 0 h)
    by false h = digits_back r s m e is F
        (elim (eq-zero-or-pos m) [ inl z ↦ absurd (eqb-false m 0 h z) | inr p ↦ p ])

pub pattern_fits : (r : real.Real) → T (fits (format_of r) (number_of r))
pattern_fits (reals.F32 bits) = of_bits-fits binary32 bits
pattern_fits (reals.F64 bits) = of_bits-fits binary64 bits

pub each_back : ReadsBack
unfolding shortest_text
each_back r p = text_back r (number_of r) refl (pattern_fits r)

pub one_float : OneFloat
one_float r s p q f t =
    same_Some _ _ (sym (each_back r p) ∙ (λ i. parse_float (f i) (t i)) ∙ each_back s q)
