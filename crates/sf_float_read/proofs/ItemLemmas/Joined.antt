-- A matching sequence read from the left is one of parts that are joined, and the other way round.
use Rattle.std.proofs.Common.{◌≡◌, ◌⊎◌, ℕ, ◌+◌, ◌<◌, true, ◌||◌, List, [], ◌∷◌, ◌++◌, length, refl, sym, ap, subst, inl, inr, arith}
use Rattle.std.specs.Prelude.{◌==◌}
use Rattle.std.specs.Char.{is_ascii_alphanumeric}
use Rattle.std.specs.List.{AllByRecursion}
use Rattle.sf_float_read.specs.declared.item.reached.Radix.{Radix}
use Rattle.sf_float_read.specs.declared.item.reached.Radix.TheVariants.{Ten, Sixteen}
use Rattle.sf_float_read.specs.item.Sequences.{is_digit, is_sign, AllDecimal, IsDecimal, IsSignedDecimal, IsExponentPart, IsFraction}
use Rattle.sf_float_read.specs.item.Sequences.{IsWhole}
use Rattle.sf_float_read.specs.item.Sequences.{IsNumber, SpellsWord, Begins, IsPayload, IsNanTail, IsInfinityTail, IsZeroTail, IsUnsigned}
use Rattle.sf_float_read.specs.item.Sequences.{IsFloat, IsDecimalFloat}
use Rattle.sf_float_read.specs.item.Parts.{AreDigits, IsSign, IsExponent, IsNumeral, IsHexadecimal, IsInfinity, IsCharSequence, IsNan}
use Rattle.sf_float_read.specs.item.Parts.{IsFloatInParts, IsDecimalInParts, PartsAreSequences}
use Rattle.sf_float_read.specs.item.Laws.{DecimalsAreFloats}
use Rattle.sf_float_read.proofs.ItemLemmas.Apart.{either}

-- ---- from the left to parts

digits_of : (t : List ℕ) → AllDecimal t → AreDigits Ten t
digits_of [] h = tt
digits_of (b ∷ t) h = (h.0, digits_of t h.1)

sign_of : (b : ℕ) → is_sign b ≡ true → IsSign (b ∷ [])
sign_of b h = elim (either 43 45 b h) [ inl e ↦ inr (inl (ap (λ x. x ∷ []) e)) | inr e ↦ inr (inr (ap (λ x. x ∷ []) e)) ]

pub record IsSomeDecimal (t : List ℕ) : Type 0 where
  pub sign : List ℕ
  pub digits : List ℕ
  pub signed : IsSign sign
  pub all : AreDigits Ten digits
  pub some : 0 < length digits
  pub joined : t ≡ sign ++ digits

signed_of : (t : List ℕ) → IsSignedDecimal t → IsSomeDecimal t
signed_of [] h = absurd h
signed_of (b ∷ []) (inl s) = absurd s.1
signed_of (b ∷ c ∷ u) (inl s) = record {
  sign = b ∷ [];
  digits = c ∷ u;
  signed = sign_of b s.0;
  all = (s.1.0, digits_of u s.1.1);
  some =
      omega arith;
  joined = refl;
}
signed_of (b ∷ t) (inr d) = record {
  sign = [];
  digits = b ∷ t;
  signed = inl refl;
  all = (d.0, digits_of t d.1);
  some = omega arith;
  joined = refl;
}

exponent_of : (radix : Radix) (t : List ℕ) → IsExponentPart radix t → (t ≡ []) ⊎ IsExponent radix t
exponent_of radix [] h = inl refl
exponent_of radix (b ∷ t) h =
    let s = signed_of t h.1 in
    inr (record {
      letter = b;
      sign = s.sign;
      digits = s.digits;
      opens = h.0;
      signed = s.signed;
      all = s.all;
      some = s.some;
      joined =
          ap (λ x. b ∷ x) s.joined;
    })

pub record IsTail (radix : Radix) (t : List ℕ) : Type 0 where
  pub fraction : List ℕ
  pub exponent : List ℕ
  pub digits : AreDigits radix fraction
  pub raised : (exponent ≡ []) ⊎ IsExponent radix exponent
  pub joined : t ≡ fraction ++ exponent

tail_of : (radix : Radix) (t : List ℕ) → IsFraction radix t → IsTail radix t
tail_of radix [] h = record { fraction = []; exponent = []; digits = tt; raised = inl refl; joined = refl }
tail_of radix (b ∷ t) (inl d) =
    let r = tail_of radix t d.1 in
    record {
      fraction = b ∷ r.fraction;
      exponent = r.exponent;
      digits = (d.0, r.digits);
      raised = r.raised;
      joined =
          ap (λ x. b ∷ x) r.joined;
    }
tail_of radix (b ∷ t) (inr e) = record { fraction = []; exponent = b ∷ t; digits = tt; raised = exponent_of radix (b ∷ t) e; joined = refl }

-- as `IsNumeral`, but it may have no digit
pub record IsRest (radix : Radix) (t : List ℕ) : Type 0 where
  pub whole : List ℕ
  pub point : List ℕ
  pub fraction : List ℕ
  pub exponent : List ℕ
  pub whole_digits : AreDigits radix whole
  pub fraction_digits : AreDigits radix fraction
  pub pointed : (point ≡ []) × (fraction ≡ []) ⊎ (point ≡ 46 ∷ [])
  pub raised : (exponent ≡ []) ⊎ IsExponent radix exponent
  pub joined : t ≡ whole ++ (point ++ (fraction ++ exponent))

rest_of : (radix : Radix) (t : List ℕ) → IsWhole radix t → IsRest radix t
rest_of radix [] h = record {
  whole = [];
  point = [];
  fraction = [];
  exponent = [];
  whole_digits = tt;
  fraction_digits = tt;
  pointed =
      inl (refl, refl);
  raised = inl refl;
  joined = refl;
}
rest_of radix (b ∷ t) (inl d) =
    let r = rest_of radix t d.1 in
    record {
      whole = b ∷ r.whole;
      point = r.point;
      fraction = r.fraction;
      exponent = r.exponent;
      whole_digits = (d.0, r.whole_digits);
      fraction_digits = r.fraction_digits;
      pointed = r.pointed;
      raised = r.raised;
      joined = ap (λ x. b ∷ x) r.joined;
    }
rest_of radix (b ∷ t) (inr (inl p)) =
    let r = tail_of radix t p.1 in
    record {
      whole = [];
      point = 46 ∷ [];
      fraction = r.fraction;
      exponent = r.exponent;
      whole_digits = tt;
      fraction_digits = r.digits;
      pointed = inr refl;
      raised = r.raised;
      joined = λ i. p.0 i ∷ r.joined i;
    }
rest_of radix (b ∷ t) (inr (inr e)) =
    record {
      whole = [];
      point = [];
      fraction = [];
      exponent = b ∷ t;
      whole_digits = tt;
      fraction_digits = tt;
      pointed = inl (refl, refl);
      raised = exponent_of radix (b ∷ t) e;
      joined = refl;
    }

pub numeral_of : (radix : Radix) (t : List ℕ) → IsNumber radix t → IsNumeral radix t
numeral_of radix [] h = absurd h
numeral_of radix (b ∷ t) (inl d) =
    let r = rest_of radix t d.1 in
    record {
      whole = b ∷ r.whole;
      point = r.point;
      fraction = r.fraction;
      exponent = r.exponent;
      whole_digits = (d.0, r.whole_digits);
      fraction_digits = r.fraction_digits;
      some = omega arith;
      pointed = r.pointed;
      raised = r.raised;
      joined = ap (λ x. b ∷ x) r.joined;
    }
numeral_of radix (b ∷ []) (inr p) = absurd p.1
numeral_of radix (b ∷ c ∷ u) (inr p) =
    let r = tail_of radix u p.1.1 in
    record {
      whole = [];
      point = 46 ∷ [];
      fraction = c ∷ r.fraction;
      exponent = r.exponent;
      whole_digits = tt;
      fraction_digits =
          (p.1.0, r.digits);
      some = omega arith;
      pointed = inr refl;
      raised = r.raised;
      joined = λ i. p.0 i ∷ c ∷ r.joined i;
    }

-- ---- from parts to the left

all_of : (t : List ℕ) → AreDigits Ten t → AllDecimal t
all_of [] h = tt
all_of (b ∷ t) h = (h.0, all_of t h.1)

decimal_from : (t : List ℕ) → 0 < length t → AreDigits Ten t → IsDecimal t
decimal_from [] s h = absurd (omega arith)
decimal_from (b ∷ t) s h = (h.0, all_of t h.1)

unsigned_from : (t : List ℕ) → IsDecimal t → IsSignedDecimal t
unsigned_from [] h = absurd h
unsigned_from (b ∷ t) h = inr h

signed_from : (sign t : List ℕ) → IsSign sign → IsDecimal t → IsSignedDecimal (sign ++ t)
signed_from sign t (inl e) h = subst (λ s. IsSignedDecimal (s ++ t)) (sym e) (unsigned_from t h)
signed_from sign t (inr (inl e)) h = subst (λ s. IsSignedDecimal (s ++ t)) (sym e) (inl (refl, h))
signed_from sign t (inr (inr e)) h = subst (λ s. IsSignedDecimal (s ++ t)) (sym e) (inl (refl, h))

pub exponent_from : (radix : Radix) (t : List ℕ) → ((t ≡ []) ⊎ IsExponent radix t) → IsExponentPart radix t
exponent_from radix t (inl e) = subst (IsExponentPart radix) (sym e) tt
exponent_from radix t (inr e) = subst (IsExponentPart radix) (sym e.joined)
    (e.opens, signed_from e.sign e.digits e.signed (decimal_from e.digits e.some e.all))

fraction_from : (radix : Radix) (fraction exponent : List ℕ) → AreDigits radix fraction → IsExponentPart radix exponent
    → IsFraction radix (fraction ++ exponent)
fraction_from radix [] [] d h = tt
fraction_from radix [] (b ∷ t) d h = inr h
fraction_from radix (b ∷ t) exponent d h = inl (d.0, fraction_from radix t exponent d.1 h)

ended : (radix : Radix) (t : List ℕ) → IsExponentPart radix t → IsWhole radix t
ended radix [] h = tt
ended radix (b ∷ t) h = inr (inr h)

whole_from : (radix : Radix) (whole t : List ℕ) → AreDigits radix whole → IsWhole radix t → IsWhole radix (whole ++ t)
whole_from radix [] t d h = h
whole_from radix (b ∷ w) t d h = inl (d.0, whole_from radix w t d.1 h)

after_whole : (radix : Radix) (point fraction exponent : List ℕ) → ((point ≡ []) × (fraction ≡ []) ⊎ (point ≡ 46 ∷ []))
    → AreDigits radix fraction → IsExponentPart radix exponent
    → IsWhole radix (point ++ (fraction ++ exponent))
after_whole radix point fraction exponent (inl e) d h = subst (λ p. IsWhole radix (p ++ (fraction ++ exponent))) (sym e.0)
    (subst (λ f. IsWhole radix (f ++ exponent)) (sym e.1) (ended radix exponent h))
after_whole radix point fraction exponent (inr e) d h = subst (λ p. IsWhole radix (p ++ (fraction ++ exponent))) (sym e)
    (inr (inl (refl, fraction_from radix fraction exponent d h)))

pointed_from : (radix : Radix) (fraction exponent : List ℕ) → 0 < length fraction → AreDigits radix fraction
    → IsExponentPart radix exponent → IsNumber radix (46 ∷ (fraction ++ exponent))
pointed_from radix [] exponent s d h = absurd (omega arith)
pointed_from radix (b ∷ t) exponent s d h = inr (refl, (d.0, fraction_from radix t exponent d.1 h))

number_from : (radix : Radix) (whole point fraction exponent : List ℕ) → 0 < length whole + length fraction
    → ((point ≡ []) × (fraction ≡ []) ⊎ (point ≡ 46 ∷ []))
    → AreDigits radix whole → AreDigits radix fraction → IsExponentPart radix exponent
    → IsNumber radix (whole ++ (point ++ (fraction ++ exponent)))
number_from radix (b ∷ w) point fraction exponent s p d f h = inl
    (d.0, whole_from radix w (point ++ (fraction ++ exponent)) d.1 (after_whole radix point fraction exponent p f h))
number_from radix [] point fraction exponent s (inl e) d f h = absurd (omega (arith, ap length e.1))
number_from radix [] point fraction exponent s (inr e) d f h = subst (λ p. IsNumber radix (p ++ (fraction ++ exponent))) (sym e)
    (pointed_from radix fraction exponent (omega arith) f h)

pub number_of : (radix : Radix) (t : List ℕ) → IsNumeral radix t → IsNumber radix t
number_of radix t n = subst (IsNumber radix) (sym n.joined) (number_from radix n.whole n.point n.fraction n.exponent n.some n.pointed
    n.whole_digits n.fraction_digits (exponent_from radix n.exponent n.raised))

-- ---- words

begun : (ws t : List ℕ) (P : List ℕ → Type 0) → Begins ws P t → (name : List ℕ) × (rest : List ℕ) × (t ≡ name ++ rest) × SpellsWord ws name
    × P rest
begun [] t P h = ([], t, refl, tt, h)
begun (w ∷ ws) [] P h = absurd h
begun (w ∷ ws) (b ∷ t) P h = let r = begun ws t P h.1 in (b ∷ r.0, r.1, ap (λ x. b ∷ x) r.2, (h.0, r.3), r.4)

begins_from : (ws name rest : List ℕ) (P : List ℕ → Type 0) → SpellsWord ws name → P rest → Begins ws P (name ++ rest)
begins_from [] [] rest P s h = h
begins_from [] (b ∷ t) rest P s h = absurd s
begins_from (w ∷ ws) [] rest P s h = absurd s
begins_from (w ∷ ws) (b ∷ t) rest P s h = (s.0, begins_from ws t rest P s.1 h)

spells_join : (ws vs name rest : List ℕ) → SpellsWord ws name → SpellsWord vs rest → SpellsWord (ws ++ vs) (name ++ rest)
spells_join [] vs [] rest s h = h
spells_join [] vs (b ∷ t) rest s h = absurd s
spells_join (w ∷ ws) vs [] rest s h = absurd s
spells_join (w ∷ ws) vs (b ∷ t) rest s h = (s.0, spells_join ws vs t rest s.1 h)

spells_alone : (ws name rest : List ℕ) → SpellsWord ws name → rest ≡ [] → SpellsWord ws (name ++ rest)
spells_alone [] [] rest s e = subst (SpellsWord []) (sym e) tt
spells_alone [] (b ∷ t) rest s e = absurd s
spells_alone (w ∷ ws) [] rest s e = absurd s
spells_alone (w ∷ ws) (b ∷ t) rest s e = (s.0, spells_alone ws t rest s.1 e)

pub infinity_of : (ws t : List ℕ) → Begins ws IsInfinityTail t → SpellsWord ws t ⊎ SpellsWord (ws ++ 105 ∷ 110 ∷ 105 ∷ 116 ∷ 121 ∷ []) t
infinity_of ws t h =
    let r = begun ws t IsInfinityTail h in
    elim r.4 [
      | inl e ↦ inl (subst (SpellsWord ws) (sym r.2) (spells_alone ws r.0 r.1 r.3 e))
      | inr s ↦ inr (subst (SpellsWord (ws ++ 105 ∷ 110 ∷ 105 ∷ 116 ∷ 121 ∷ [])) (sym r.2)
          (spells_join ws (105 ∷ 110 ∷ 105 ∷ 116 ∷ 121 ∷ []) r.0 r.1 r.3 s))
    ]

short_from : (ws t : List ℕ) → SpellsWord ws t → Begins ws IsInfinityTail t
short_from [] [] s = inl refl
short_from [] (b ∷ t) s = absurd s
short_from (w ∷ ws) [] s = absurd s
short_from (w ∷ ws) (b ∷ t) s = (s.0, short_from ws t s.1)

long_from : (ws t : List ℕ) → SpellsWord (ws ++ 105 ∷ 110 ∷ 105 ∷ 116 ∷ 121 ∷ []) t → Begins ws IsInfinityTail t
long_from [] t s = inr s
long_from (w ∷ ws) [] s = absurd s
long_from (w ∷ ws) (b ∷ t) s = (s.0, long_from ws t s.1)

abbrev IsChars : List ℕ → Type 0
IsChars t = AllByRecursion (λ b. is_ascii_alphanumeric b || b == 95 ≡ true) t

payload_of : (t : List ℕ) → IsPayload t → (chars : List ℕ) × IsChars chars × (t ≡ chars ++ 41 ∷ [])
payload_of [] h = absurd h
payload_of (b ∷ t) (inl e) = ([], tt, (λ i. e.0 i ∷ e.1 i))
payload_of (b ∷ t) (inr c) = let r = payload_of t c.1 in (b ∷ r.0, (c.0, r.1), ap (λ x. b ∷ x) r.2)

payload_from : (chars : List ℕ) → IsChars chars → IsPayload (chars ++ 41 ∷ [])
payload_from [] h = inl (refl, refl)
payload_from (b ∷ t) h = inr (h.0, payload_from t h.1)

sequence_of : (t : List ℕ) → IsNanTail t → IsCharSequence t
sequence_of [] h = inl refl
sequence_of (b ∷ t) h = let r = payload_of t h.1 in inr (r.0, r.1, (λ i. h.0 i ∷ r.2 i))

sequence_from : (t : List ℕ) → IsCharSequence t → IsNanTail t
sequence_from t (inl e) = subst IsNanTail (sym e) tt
sequence_from t (inr c) = subst IsNanTail (sym c.2) (refl, payload_from c.0 c.1)

pub nan_of : (t : List ℕ) → Begins (110 ∷ 97 ∷ 110 ∷ []) IsNanTail t → IsNan t
nan_of t h = let r = begun (110 ∷ 97 ∷ 110 ∷ []) t IsNanTail h in (r.0, r.1, r.3, sequence_of r.1 r.4, r.2)

nan_from : (t : List ℕ) → IsNan t → Begins (110 ∷ 97 ∷ 110 ∷ []) IsNanTail t
nan_from t n = subst (Begins (110 ∷ 97 ∷ 110 ∷ []) IsNanTail) (sym n.4)
    (begins_from (110 ∷ 97 ∷ 110 ∷ []) n.0 n.1 IsNanTail n.2 (sequence_from n.1 n.3))

-- ---- all four, and the sign

abbrev IsSize : List ℕ → Type 0
IsSize t = IsNumeral Ten t ⊎ IsHexadecimal t ⊎ IsInfinity t ⊎ IsNan t

zero_of : (b : ℕ) (t : List ℕ) → b ≡ 48 → IsZeroTail t → IsSize (b ∷ t)
zero_of b [] e h = inl (numeral_of Ten (b ∷ []) (inl (ap (is_digit Ten) e, tt)))
zero_of b (c ∷ u) e (inl w) = inl (numeral_of Ten (b ∷ c ∷ u) (inl (ap (is_digit Ten) e, w)))
zero_of b (c ∷ u) e (inr x) = inr (inl (c, u, either 120 88 c x.0, (λ i. e i ∷ c ∷ u), numeral_of Sixteen u x.1))

size_of : (t : List ℕ) → IsUnsigned t → IsSize t
size_of [] h = absurd h
size_of (b ∷ t) (inl z) = zero_of b t z.0 z.1
size_of (b ∷ t) (inr (inl n)) = inl (numeral_of Ten (b ∷ t) n)
size_of (b ∷ t) (inr (inr (inl i))) = inr (inr (inl (infinity_of (105 ∷ 110 ∷ 102 ∷ []) (b ∷ t) i)))
size_of (b ∷ t) (inr (inr (inr n))) = inr (inr (inr (nan_of (b ∷ t) n)))

number_unsigned : (t : List ℕ) → IsNumber Ten t → IsUnsigned t
number_unsigned [] h = absurd h
number_unsigned (b ∷ t) h = inr (inl h)

infinity_unsigned : (t : List ℕ) → Begins (105 ∷ 110 ∷ 102 ∷ []) IsInfinityTail t → IsUnsigned t
infinity_unsigned [] h = absurd h
infinity_unsigned (b ∷ t) h = inr (inr (inl h))

nan_unsigned : (t : List ℕ) → Begins (110 ∷ 97 ∷ 110 ∷ []) IsNanTail t → IsUnsigned t
nan_unsigned [] h = absurd h
nan_unsigned (b ∷ t) h = inr (inr (inr h))

marked : (x : ℕ) → ((x ≡ 120) ⊎ (x ≡ 88)) → (x == 120 || x == 88) ≡ true
marked x (inl e) = subst (λ k. (k == 120 || k == 88) ≡ true) (sym e) refl
marked x (inr e) = subst (λ k. (k == 120 || k == 88) ≡ true) (sym e) refl

unsigned_of : (t : List ℕ) → IsSize t → IsUnsigned t
unsigned_of t (inl n) = number_unsigned t (number_of Ten t n)
unsigned_of t (inr (inl x)) = subst IsUnsigned (sym x.3) (inl (refl, inr (marked x.0 x.2, number_of Sixteen x.1 x.4)))
unsigned_of t (inr (inr (inl (inl s)))) = infinity_unsigned t (short_from (105 ∷ 110 ∷ 102 ∷ []) t s)
unsigned_of t (inr (inr (inl (inr s)))) = infinity_unsigned t (long_from (105 ∷ 110 ∷ 102 ∷ []) t s)
unsigned_of t (inr (inr (inr n))) = nan_unsigned t (nan_from t n)

parts_of : (f : List ℕ) → IsFloat f → IsFloatInParts f
parts_of [] h = absurd h
parts_of (b ∷ t) (inl s) = (b ∷ [], t, sign_of b s.0, refl, size_of t s.1)
parts_of (b ∷ t) (inr u) = ([], b ∷ t, inl refl, refl, size_of (b ∷ t) u)

bare : (t : List ℕ) → IsUnsigned t → IsFloat t
bare [] h = absurd h
bare (b ∷ t) h = inr h

signed : (sign t : List ℕ) → IsSign sign → IsUnsigned t → IsFloat (sign ++ t)
signed sign t (inl e) h = subst (λ s. IsFloat (s ++ t)) (sym e) (bare t h)
signed sign t (inr (inl e)) h = subst (λ s. IsFloat (s ++ t)) (sym e) (inl (refl, h))
signed sign t (inr (inr e)) h = subst (λ s. IsFloat (s ++ t)) (sym e) (inl (refl, h))

-- ---- a decimal number after a minus, or after none

decimal_of : (f : List ℕ) → IsDecimalFloat f → IsDecimalInParts f
decimal_of [] h = absurd h
decimal_of (b ∷ t) (inl s) = (b ∷ [], t, inr (ap (λ x. x ∷ []) s.0), refl, numeral_of Ten t s.1)
decimal_of (b ∷ t) (inr n) = ([], b ∷ t, inl refl, refl, numeral_of Ten (b ∷ t) n)

bare_decimal : (t : List ℕ) → IsNumber Ten t → IsDecimalFloat t
bare_decimal [] h = absurd h
bare_decimal (b ∷ t) h = inr h

signed_decimal : (sign t : List ℕ) → ((sign ≡ []) ⊎ (sign ≡ 45 ∷ [])) → IsNumber Ten t → IsDecimalFloat (sign ++ t)
signed_decimal sign t (inl e) h = subst (λ s. IsDecimalFloat (s ++ t)) (sym e) (bare_decimal t h)
signed_decimal sign t (inr e) h = subst (λ s. IsDecimalFloat (s ++ t)) (sym e) (inl (refl, h))

pub decimals_are_floats : DecimalsAreFloats
decimals_are_floats [] h = absurd h
decimals_are_floats (b ∷ t) (inl s) = inl (ap is_sign s.0, number_unsigned t s.1)
decimals_are_floats (b ∷ t) (inr n) = inr (inr (inl n))

pub parts_are_sequences : PartsAreSequences
parts_are_sequences f = (
  parts_of f,
  (λ p. subst IsFloat (sym p.3) (signed p.0 p.1 p.2 (unsigned_of p.1 p.4))),
  decimal_of f,
  (λ p. subst IsDecimalFloat (sym p.3) (signed_decimal p.0 p.1 p.2 (number_of Ten p.1 p.4))),
)
