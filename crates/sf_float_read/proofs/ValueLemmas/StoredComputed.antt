-- What is stored of a matching sequence is what the function computes of it.
use Rattle.std.proofs.Common.{◌≡◌, ◌⊎◌, ℕ, ◌+◌, ◌*◌, ◌^◌, Bool, true, false, ◌&&◌, ◌||◌, List, [], ◌∷◌, ◌++◌, length, drop, slice_index}
use Rattle.std.proofs.Common.{if◌then◌else◌, Option, Some, None, is_some, option_and_then, refl, sym, ap, ◌∙◌, subst, inl, inr, arith}
use Rattle.std.proofs.Common.{true≢false, to_bits}
use Rattle.std.specs.Prelude.{◌==◌}
use Rattle.std.specs.Char.{to_ascii_lowercase}
use Rattle.std.specs.Str.Parse.{digits_value}
use Rattle.std.specs.Float.Ieee.{Format, nan, inf, round}
use Rattle.std.specs.Float.Parse.{parse_float, is_float_text}
use Rattle.std.proofs.lemmas.Bool.{eqb-true, eqb-false, eq-eqb}
use Rattle.std.proofs.lemmas.Float.Parse.{is_some-parse_float}
use Rattle.sf_float_read.specs.declared.item.reached.Radix.TheVariants.{Ten, Sixteen}
use Rattle.sf_float_read.specs.item.Sequences.{IsNumber, IsUnsigned, IsFloat}
use Rattle.sf_float_read.specs.item.Parts.{IsSign, IsFloatInParts}
use Rattle.sf_float_read.proofs.ItemLemmas.Apart.{either}
use Rattle.sf_float_read.proofs.ItemLemmas.Joined.{numeral_of, parts_are_sequences}
use Rattle.sf_float_read.proofs.ItemLemmas.Parses.{number_parses, unsigned_opens}
use Rattle.sf_float_read.specs.value.Values.{is_minus, stored, IsHexValue, IsStoredSize, IsStored}
use Rattle.sf_float_read.specs.value.Computed.{read_as, hexadecimal_number, has_letter, stored_size, stored_in}
use Rattle.sf_float_read.specs.value.Laws.{StoredIsComputed}
use Rattle.sf_float_read.proofs.ValueLemmas.FormsApart.{infinity_at, nan_at, prefix_first, decimal_alone, decimal_first}
use Rattle.sf_float_read.proofs.ValueLemmas.HexParts.{read_parts, up_by, down_by}
use Rattle.sf_float_read.proofs.ValueLemmas.OneStored.{one_stored}

-- ---- a hexadecimal numeral

hex_number : (f : Format) (negative : Bool) (t : List ℕ) → IsNumber Sixteen t → IsHexValue f negative t (hexadecimal_number f negative t)
hex_number f negative t h =
    let n = numeral_of Sixteen t h in
    let v = digits_value 16 (n.whole ++ n.fraction) in
    let p = length n.fraction in (
      n,
      ap (read_as f negative) (read_parts t n)
          ∙ (λ i. round f negative (v * 2 ^ sym (up_by n.exponent n.raised) i) (2 ^ (4 * p + sym (down_by n.exponent n.raised) i))),
    )

-- ---- by the first letters

zero_lower : (b : ℕ) → to_ascii_lowercase b ≡ 48 → b ≡ 48
zero_lower b h = grind arith

both : (a b : Bool) → (a && b) ≡ true → (a ≡ true) × (b ≡ true)
both true b h = (refl, h)
both false b h = absurd (true≢false (sym h))

number_at : (size : List ℕ) → IsUnsigned size → has_letter size 0 105 ≡ false → has_letter size 0 110 ≡ false
    → (slice_index size 0 == 48 && has_letter size 1 120) ≡ false → IsNumber Ten size
number_at [] u i n x = absurd u
number_at (b ∷ []) u i n x = decimal_alone b u (eqb-false _ 105 i) (eqb-false _ 110 n)
number_at (b ∷ c ∷ t) u i n x = decimal_first b c t u (eqb-false _ 105 i) (eqb-false _ 110 n) (λ e k. true≢false (sym (prefixed e k) ∙ x))
  where
    prefixed : to_ascii_lowercase b ≡ 48 → to_ascii_lowercase c ≡ 120 → (b == 48 && to_ascii_lowercase c == 120) ≡ true
    prefixed e k = λ i. eq-eqb b 48 (zero_lower b e) i && eq-eqb (to_ascii_lowercase c) 120 k i

prefix_at : (size : List ℕ) → IsUnsigned size → (slice_index size 0 == 48 && has_letter size 1 120) ≡ true
    → (c : ℕ) × (numeral : List ℕ) × ((c ≡ 120) ⊎ (c ≡ 88)) × (size ≡ 48 ∷ c ∷ numeral) × IsNumber Sixteen numeral
prefix_at [] u h = absurd u
prefix_at (b ∷ []) u h = absurd (true≢false (sym (both (b == 48) false h).1))
prefix_at (b ∷ c ∷ t) u h =
    let p = both (b == 48) (to_ascii_lowercase c == 120) h in
    prefix_first b c t (ap to_ascii_lowercase (eqb-true b 48 p.0)) (eqb-true _ 120 p.1) u

some_of : {A : Type 0} (o : Option A) → is_some o ≡ true → (x : A) × (o ≡ Some x)
some_of (Some x) h = (x, refl)
some_of None h = absurd (true≢false (sym h))

-- what follows the sign
module _ (f : Format) (negative : Bool) (item size : List ℕ) (u : IsUnsigned size)
    (parses : IsNumber Ten size → is_float_text item ≡ true) where
  decimal : IsNumber Ten size → IsStoredSize f negative item size (option_and_then (stored f) (parse_float f item))
  decimal n =
      let x = some_of (parse_float f item) (is_some-parse_float f item ∙ parses n) in
      inl (numeral_of Ten size n, (x.0, x.1, ap (option_and_then (stored f)) x.1))

  prefixed : (slice_index size 0 == 48 && has_letter size 1 120) ≡ true
      → IsStoredSize f negative item size (stored f (hexadecimal_number f negative (drop 2 size)))
  prefixed h =
      let p = prefix_at size u h in
      inr (inl (
        p.0,
        p.1,
        p.2,
        p.3,
        (
          hexadecimal_number f negative p.1,
          hex_number f negative p.1 p.4,
          ap (λ (s : List ℕ). stored f (hexadecimal_number f negative (drop 2 s))) p.3,
        ),
      ))

  sized : IsStoredSize f negative item size (stored_size f negative item size)
  sized = go (has_letter size 0 105) (has_letter size 0 110) (slice_index size 0 == 48 && has_letter size 1 120) refl refl refl
    where
      go : (i n x : Bool) → has_letter size 0 105 ≡ i → has_letter size 0 110 ≡ n
          → (slice_index size 0 == 48 && has_letter size 1 120) ≡ x
          → IsStoredSize f negative item size (if i then Some (to_bits f (inf negative)) else (if n then Some (to_bits f nan)
          else (if x then stored f (hexadecimal_number f negative (drop 2 size)) else option_and_then (stored f) (parse_float f item))))
      go true n x i m h = inr (inr (inl (infinity_at size u (eqb-true _ 105 i), refl)))
      go false true x i m h = inr (inr (inr (nan_at size u (eqb-true _ 110 m), refl)))
      go false false true i m h = prefixed h
      go false false false i m h = decimal (number_at size u i m h)

-- ---- the sign

stored_signed : (f : Format) (sign size : List ℕ) → IsSign sign → IsUnsigned size
    → IsStored f (sign ++ size) (stored_size f (is_minus sign) (sign ++ size) size)
stored_signed f sign size s u = (sign, size, s, refl, sized f (is_minus sign) (sign ++ size) size u (number_parses sign size s))

no_sign : (a b : Bool) → (a || b) ≡ false → (a ≡ false) × (b ≡ false)
no_sign true b h = absurd (true≢false h)
no_sign false b h = (refl, h)

computed : (f : Format) (item : List ℕ) → IsFloat item → IsStored f item (stored_in f item)
unfolding stored_in
computed f [] h = absurd h
computed f (b ∷ t) (inl s) =
    elim (either 43 45 b s.0) [
      | inl e ↦ subst (λ (c : ℕ). IsStored f (c ∷ t) (stored_in f (c ∷ t))) (sym e) (stored_signed f (43 ∷ []) t (inr (inl refl)) s.1)
      | inr e ↦ subst (λ (c : ℕ). IsStored f (c ∷ t) (stored_in f (c ∷ t))) (sym e) (stored_signed f (45 ∷ []) t (inr (inr refl)) s.1)
    ]
computed f (b ∷ t) (inr u) =
    let n = no_sign (b == 43) (b == 45) (unsigned_opens b t u) in
    subst (λ (m : Bool). IsStored f (b ∷ t) (stored_size f m (b ∷ t) (drop (if m || b == 43 then 1 else 0) (b ∷ t)))) (sym n.1)
    (subst (λ (p : Bool). IsStored f (b ∷ t) (stored_size f false (b ∷ t) (drop (if p then 1 else 0) (b ∷ t)))) (sym n.0)
    (stored_signed f [] (b ∷ t) (inl refl) u))

-- ---- and it is stored of a matching sequence alone

in_parts : (f : Format) (item : List ℕ) (r : Option ℕ) → IsStored f item r → IsFloatInParts item
in_parts f item r (sign, size, s, is, inl n) = (sign, size, s, is, inl n.0)
in_parts f item r (sign, size, s, is, inr (inl (c, numeral, x, e, v))) = (sign, size, s, is, inr (inl (c, numeral, x, e, v.1.0)))
in_parts f item r (sign, size, s, is, inr (inr (inl i))) = (sign, size, s, is, inr (inr (inl i.0)))
in_parts f item r (sign, size, s, is, inr (inr (inr n))) = (sign, size, s, is, inr (inr (inr n.0)))

pub stored_is_computed : StoredIsComputed
stored_is_computed f item = (
  computed f item,
  (λ r h. let is_float = (parts_are_sequences item).1 (in_parts f item r h) in
      (is_float, one_stored f item r (stored_in f item) h (computed f item is_float))),
)
