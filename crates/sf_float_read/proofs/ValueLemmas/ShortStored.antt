-- What is stored of the shortest text of a float is its pattern.
use Rattle.std.proofs.Common.{◌≡◌, ◌⊎◌, ℕ, zero, suc, ◌+◌, ◌-◌, ◌*◌, ◌/◌, ◌^◌, ◌<◌, ◌≤◌, Bool, true, false, ◌||◌, List, [], ◌∷◌, ◌++◌, max}
use Rattle.std.proofs.Common.{nat_lt, nat_eq, codes, if◌then◌else◌, Some, to_bits, refl, sym, ap, subst, inl, inr, arith, append-nil}
use Rattle.std.specs.Float.{float_is_infinite, is_sign_negative}
use Rattle.std.specs.Float.Ieee.{Float, Format, nan, inf, fin}
use Rattle.std.specs.Float.Parse.{parse_float}
use Rattle.std.specs.Fmt.{sign_text}
use Rattle.sf_base.specs.declared.real.Real as real
use Rattle.sf_float.specs.Computed.{count_of, first_passing}
use Rattle.sf_float.specs.Texts.{exponent_size, fixed_digits, point_text}
use Rattle.sf_float.specs.fewest.Digits.{format_of, number_of, shortest}
use Rattle.sf_float.specs.fewest.Laid.{is_plain, laid_out, plain_text, raised_text, shortest_text, size_text}
use Rattle.sf_float.specs.fewest.Laws.{ReadsBack}
use Rattle.sf_float.proofs.TextLaws.{fixed_all, fixed_length}
use Rattle.sf_float_read.specs.declared.item.reached.Radix.TheVariants.{Ten}
use Rattle.sf_float_read.specs.item.Parts.{AreDigits, IsExponent, IsNumeral}
use Rattle.sf_float_read.specs.value.Laws.{ShortIsStored}
use Rattle.sf_float_read.specs.value.Values.{IsStored, is_minus, stored}
use Rattle.sf_float_read.proofs.ValueLemmas.Decimals.{are_digits, sign_is}

-- ---- a numeral

no_less : (test : ℕ → Bool) (k : ℕ) (passes : Bool) (i : ℕ) → i ≤ first_passing test k passes i
no_less test zero passes i = omega arith
no_less test (suc k) true i = omega arith
no_less test (suc k) false i =
    let more : suc i ≤ first_passing test k (test (suc i)) (suc i) = no_less test k (test (suc i)) (suc i) in omega (arith, more)

-- a number has a digit
count_some : (n : ℕ) → 0 < count_of 0 n
unfolding count_of
count_some n = no_less (λ c. nat_lt n (10 ^ (c + 0))) n (nat_lt n (10 ^ (1 + 0))) 1

are_fixed : (k n : ℕ) → AreDigits Ten (fixed_digits k n)
are_fixed k n = are_digits (fixed_digits k n) (fixed_all k n)

-- digits, a point and digits where there are any, and an exponent or none
pointed : (k m decimals n : ℕ) (exponent : List ℕ) → 0 < k → ((exponent ≡ []) ⊎ IsExponent Ten exponent)
    → IsNumeral Ten (fixed_digits k m ++ (point_text false decimals n ++ exponent))
pointed k m decimals n exponent some raised = by (nat_lt 0 decimals || false)
  where
    by : (b : Bool) → IsNumeral Ten (fixed_digits k m ++ ((if b then 46 ∷ fixed_digits decimals n else []) ++ exponent))
    by true = record {
      whole = fixed_digits k m;
      point = 46 ∷ [];
      fraction = fixed_digits decimals n;
      exponent = exponent;
      whole_digits = are_fixed k m;
      fraction_digits = are_fixed decimals n;
      some = omega (arith, some, fixed_length k m);
      pointed = inr refl;
      raised = raised;
      joined = refl;
    }
    by false = record {
      whole = fixed_digits k m;
      point = [];
      fraction = [];
      exponent = exponent;
      whole_digits = are_fixed k m;
      fraction_digits = tt;
      some = omega (arith, some, fixed_length k m);
      pointed = inl (refl, refl);
      raised = raised;
      joined = refl;
    }

plain_numeral : (n last point : ℕ) → IsNumeral Ten (plain_text n last point)
plain_numeral n last point =
    let decimals = max (400 - last) 1 in
    let m = n * 10 ^ (last + decimals - 400) in
    let whole = fixed_digits (max (point - 400) 1) (m / 10 ^ decimals) in
    subst (λ (t : List ℕ). IsNumeral Ten (whole ++ t)) (append-nil (point_text false decimals m))
    (pointed (max (point - 400) 1) (m / 10 ^ decimals) decimals m [] (omega arith) (inl refl))

-- an exponent
exponent_is : (power : ℕ) → IsExponent Ten (101 ∷ (sign_text (nat_lt power 400)
    ++ fixed_digits (count_of 0 (exponent_size power)) (exponent_size power)))
exponent_is power =
    let size = exponent_size power in
    record {
      letter = 101;
      sign = sign_text (nat_lt power 400);
      digits = fixed_digits (count_of 0 size) size;
      opens = refl;
      signed = sign_is (nat_lt power 400);
      all = are_fixed (count_of 0 size) size;
      some = omega (arith, fixed_length (count_of 0 size) size, count_some size);
      joined = refl;
    }

raised_numeral : (n count point : ℕ) → IsNumeral Ten (raised_text n count point)
raised_numeral n count point =
    pointed 1 (n / 10 ^ (count - 1)) (count - 1) n _ (omega arith) (inr (exponent_is (point - 1)))

laid_numeral : (r : real.Real) (n last : ℕ) → IsNumeral Ten (laid_out r n last)
laid_numeral r n last = by (is_plain r (count_of 0 n + last))
  where
    by : (b : Bool) → IsNumeral Ten
        (if b then plain_text n last (count_of 0 n + last) else raised_text n (count_of 0 n) (count_of 0 n + last))
    by true = plain_numeral n last (count_of 0 n + last)
    by false = raised_numeral n (count_of 0 n) (count_of 0 n + last)

zero_numeral : IsNumeral Ten (codes "0.0")
zero_numeral = record {
  whole = 48 ∷ [];
  point = 46 ∷ [];
  fraction = 48 ∷ [];
  exponent = [];
  whole_digits = (refl, tt);
  fraction_digits = (refl, tt);
  some = omega arith;
  pointed = inr refl;
  raised = inl refl;
  joined = refl;
}

size_numeral : (r : real.Real) (b : Bool) → IsNumeral Ten (if b then codes "0.0" else laid_out r (shortest r).0 (shortest r).1)
size_numeral r true = zero_numeral
size_numeral r false = laid_numeral r (shortest r).0 (shortest r).1

-- ---- any float

minus_is : (s : Bool) → is_minus (sign_text s) ≡ s
minus_is true = refl
minus_is false = refl

finite_stored : (f : Format) (s : Bool) (m : ℕ) (e : _) → Some (to_bits f (fin s m e)) ≡ stored f (fin s m e)
unfolding float_is_infinite
finite_stored f s m e = refl

text_stored : (r : real.Real) (x : Float)
    → parse_float (format_of r) (sign_text (is_sign_negative x) ++ size_text r x) ≡ Some x
    → IsStored (format_of r) (sign_text (is_sign_negative x) ++ size_text r x) (Some (to_bits (format_of r) x))
unfolding is_sign_negative
text_stored r nan parsed =
    ([], codes "nan", inl refl, refl, inr (inr (inr ((codes "nan", [], (refl, (refl, (refl, tt))), inl refl, refl), refl))))
text_stored r (inf s) parsed = (
  sign_text s,
  codes "inf",
  sign_is s,
  refl,
  inr (inr (inl (inl (refl, (refl, (refl, tt))), ap (λ b. Some (to_bits (format_of r) (inf b))) (sym (minus_is s))))),
)
text_stored r (fin s m e) parsed = (
  sign_text s,
  size_text r (fin s m e),
  sign_is s,
  refl,
  inl (size_numeral r (nat_eq m 0), (fin s m e, parsed, finite_stored (format_of r) s m e)),
)

pub short_stored : ReadsBack → ShortIsStored
unfolding shortest_text
short_stored reads r few = text_stored r (number_of r) (reads r few)
