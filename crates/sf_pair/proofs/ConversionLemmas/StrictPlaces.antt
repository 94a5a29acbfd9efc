-- How far the text of a float is read with `!`, and what goes on from there: as without it, but for the letter of a prefix.
use Rattle.std.proofs.Common.{◌≡◌, Bool, true, false, cond, eqb, ◌||◌, ℕ, List, [], ◌∷◌, ◌++◌, Option, Some, None, is_some, option_map}
use Rattle.std.proofs.Common.{refl, sym, ap, subst, ◌∙◌}
use Rattle.std.proofs.lemmas.Bool.{eqb-true}
use Rattle.std.specs.List.{AllByRecursion}
use Rattle.sf_float_read.specs.declared.item.reached.Radix.TheVariants.{Ten}
use Rattle.sf_float_read.specs.declared.item.reached.Reached.{Reached}
use Rattle.sf_float_read.specs.declared.item.reached.Reached.TheVariants as at
use Rattle.sf_float_read.specs.item.Tests.{after_digits, next, read, is_whole}
use Rattle.sf_pair.specs.conversions.Neighbours.{is_prefix_letter}
use Rattle.sf_pair.proofs.ConversionLemmas.Places.{is_one_of, one_of, digits, decimals, All, decimal_place, passes}
use Rattle.sf_pair.proofs.ConversionLemmas.RealTexts.{StartsDigit}

-- what holds of each byte of a list
each_of : (P : ℕ → Type 0) (ks : List ℕ) → AllByRecursion P ks → (b : ℕ) → is_one_of ks b ≡ true → P b
each_of P [] all b is = absurd cc
each_of P (k ∷ ks) all b is = by (eqb b k) refl (each_of P ks all.1 b) is
  where
    by : (t : Bool) → eqb b k ≡ t → (is_one_of ks b ≡ true → P b) → (t || is_one_of ks b) ≡ true → P b
    by true e more h = subst P (sym (eqb-true b k e)) all.0
    by false e more h = more h

-- where a strict reading is when the other is there
abbrev pub strict_place : Reached → Reached
strict_place at.Start = at.DecimalStart
strict_place at.Signed = at.DecimalSigned
strict_place at.Zero = at.Whole Ten
strict_place r = r

-- a place of a decimal number, after its first byte
abbrev later : Reached → Bool
later at.Start = false
later r = decimal_place r

-- with the byte both go on alike
abbrev GoSame : Reached → Reached → ℕ → Type 0
GoSame r q b = next q b ≡ option_map strict_place (next r b)

first_later : (b : ℕ) → is_one_of digits b ≡ true → passes later (next at.Start b) ≡ true
first_later b is = one_of (λ b. passes later (next at.Start b)) digits b refl is

first_same : (b : ℕ) → is_one_of digits b ≡ true → GoSame at.Start at.DecimalStart b
first_same b is = each_of (GoSame at.Start at.DecimalStart) digits
    (refl, (refl, (refl, (refl, (refl, (refl, (refl, (refl, (refl, (refl, tt)))))))))) b is

next_later : (r : Reached) → later r ≡ true → (b : ℕ) → is_one_of decimals b ≡ true → passes later (next r b) ≡ true
next_later at.Signed e b is = one_of (λ b. passes later (next at.Signed b)) decimals b refl is
next_later at.Zero e b is = one_of (λ b. passes later (next at.Zero b)) decimals b refl is
next_later (at.Whole Ten) e b is = one_of (λ b. passes later (next (at.Whole Ten) b)) decimals b refl is
next_later (at.Point Ten) e b is = one_of (λ b. passes later (next (at.Point Ten) b)) decimals b refl is
next_later (at.Fraction Ten) e b is = one_of (λ b. passes later (next (at.Fraction Ten) b)) decimals b refl is
next_later at.Letter e b is = one_of (λ b. passes later (next at.Letter b)) decimals b refl is
next_later at.LetterSign e b is = one_of (λ b. passes later (next at.LetterSign b)) decimals b refl is
next_later at.Exponent e b is = one_of (λ b. passes later (next at.Exponent b)) decimals b refl is
next_later _ e b is = absurd cc

next_same : (r : Reached) → later r ≡ true → (b : ℕ) → is_one_of decimals b ≡ true → GoSame r (strict_place r) b
next_same at.Signed e b is = each_of (GoSame at.Signed (strict_place at.Signed)) decimals
    (refl, (refl, (refl, (refl, (refl, (refl, (refl, (refl, (refl, (refl, (refl, (refl, (refl, (refl, (refl, tt))))))))))))))) b is
next_same at.Zero e b is = each_of (GoSame at.Zero (strict_place at.Zero)) decimals
    (refl, (refl, (refl, (refl, (refl, (refl, (refl, (refl, (refl, (refl, (refl, (refl, (refl, (refl, (refl, tt))))))))))))))) b is
next_same (at.Whole Ten) e b is = each_of (GoSame (at.Whole Ten) (strict_place (at.Whole Ten))) decimals
    (refl, (refl, (refl, (refl, (refl, (refl, (refl, (refl, (refl, (refl, (refl, (refl, (refl, (refl, (refl, tt))))))))))))))) b is
next_same (at.Point Ten) e b is = each_of (GoSame (at.Point Ten) (strict_place (at.Point Ten))) decimals
    (refl, (refl, (refl, (refl, (refl, (refl, (refl, (refl, (refl, (refl, (refl, (refl, (refl, (refl, (refl, tt))))))))))))))) b is
next_same (at.Fraction Ten) e b is = each_of (GoSame (at.Fraction Ten) (strict_place (at.Fraction Ten))) decimals
    (refl, (refl, (refl, (refl, (refl, (refl, (refl, (refl, (refl, (refl, (refl, (refl, (refl, (refl, (refl, tt))))))))))))))) b is
next_same at.Letter e b is = each_of (GoSame at.Letter (strict_place at.Letter)) decimals
    (refl, (refl, (refl, (refl, (refl, (refl, (refl, (refl, (refl, (refl, (refl, (refl, (refl, (refl, (refl, tt))))))))))))))) b is
next_same at.LetterSign e b is = each_of (GoSame at.LetterSign (strict_place at.LetterSign)) decimals
    (refl, (refl, (refl, (refl, (refl, (refl, (refl, (refl, (refl, (refl, (refl, (refl, (refl, (refl, (refl, tt))))))))))))))) b is
next_same at.Exponent e b is = each_of (GoSame at.Exponent (strict_place at.Exponent)) decimals
    (refl, (refl, (refl, (refl, (refl, (refl, (refl, (refl, (refl, (refl, (refl, (refl, (refl, (refl, (refl, tt))))))))))))))) b is
next_same _ e b is = absurd cc

read_same : (o : Option Reached) → passes later o ≡ true → (f : List ℕ) → All decimals f
    → read (option_map strict_place o) f ≡ option_map strict_place (read o f)
read_same None e f all = refl
read_same (Some r) e [] all = refl
read_same (Some r) e (b ∷ f) all =
    ap (λ (o : Option Reached). read o f) (next_same r e b all.0) ∙ read_same (next r b) (next_later r e b all.0) f all.1

-- a minus or none, and a digit first
pub strict_read : (negative plus : Bool) (f : List ℕ) → plus ≡ false → StartsDigit f
    → All decimals (cond negative (45 ∷ []) (cond plus (43 ∷ []) []) ++ f)
    → read (Some at.DecimalStart) (cond negative (45 ∷ []) (cond plus (43 ∷ []) []) ++ f)
    ≡ option_map strict_place (read (Some at.Start) (cond negative (45 ∷ []) (cond plus (43 ∷ []) []) ++ f))
strict_read true plus f none starts all = read_same (Some at.Signed) refl f all.1
strict_read false true f none starts all = absurd cc
strict_read false false [] none starts all = absurd starts
strict_read false false (b ∷ f) none starts all =
    ap (λ (o : Option Reached). read o f) (first_same b starts) ∙ read_same (next at.Start b) (first_later b starts) f all.1

-- ---- what goes on from there

pub strict_whole : (r : Reached) → is_whole r ≡ true → is_whole (strict_place r) ≡ true
strict_whole at.Start e = absurd cc
strict_whole at.Signed e = absurd cc
strict_whole at.Zero e = refl
strict_whole _ e = e

-- where nothing goes on without `!`
pub strict_stopped : (r : Reached) → is_whole r ≡ true → (b : ℕ) → next r b ≡ None → next (strict_place r) b ≡ None
strict_stopped at.Start w b none = absurd cc
strict_stopped at.Signed w b none = absurd cc
strict_stopped at.Zero w b none = by (is_prefix_letter b) none
  where
    by : (t : Bool) → cond t (Some at.Prefix) (after_digits Ten b) ≡ None → after_digits Ten b ≡ None
    by true e = absurd cc
    by false e = e
strict_stopped _ w b none = none

-- nor does the letter of a prefix
pub letter_stopped : (r : Reached) → is_whole r ≡ true → decimal_place r ≡ true → (b : ℕ) → is_prefix_letter b ≡ true
    → next (strict_place r) b ≡ None
letter_stopped r w e b is = each_of (λ b. next (strict_place r) b ≡ None) (120 ∷ 88 ∷ []) (by r w e) b (listed (eqb b 120) (eqb b 88) is)
  where
    listed : (x y : Bool) → (x || y) ≡ true → (x || (y || false)) ≡ true
    listed true y h = refl
    listed false true h = refl
    listed false false h = absurd cc

    by : (r : Reached) → is_whole r ≡ true → decimal_place r ≡ true → AllByRecursion (λ b. next (strict_place r) b ≡ None) (120 ∷ 88 ∷ [])
    by at.Zero w e = (refl, (refl, tt))
    by (at.Whole Ten) w e = (refl, (refl, tt))
    by (at.Fraction Ten) w e = (refl, (refl, tt))
    by at.Exponent w e = (refl, (refl, tt))
    by at.Start w e = absurd cc
    by at.Signed w e = absurd cc
    by (at.Point Ten) w e = absurd cc
    by at.Letter w e = absurd cc
    by at.LetterSign w e = absurd cc
    by _ w e = absurd cc

-- each other byte that goes on without `!` does
pub strict_goes : (r : Reached) → is_whole r ≡ true → (b : ℕ) → is_prefix_letter b ≡ false → is_some (next r b) ≡ true
    → is_some (next (strict_place r) b) ≡ true
strict_goes at.Start w b none goes = absurd cc
strict_goes at.Signed w b none goes = absurd cc
strict_goes at.Zero w b none goes = sym (ap (λ (t : Bool). is_some (cond t (Some at.Prefix) (after_digits Ten b))) none) ∙ goes
strict_goes _ w b none goes = goes
