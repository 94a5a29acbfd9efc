-- How far an integer is read with the digits of its text.
use Rattle.std.proofs.Common.{◌≡◌, ℕ, ◌+◌, ◌*◌, ◌<◌, ◌≤◌, ◌⊎◌, inl, inr, Bool, true, false, cond, ◌||◌, nat_eq, ap₂, List, [], ◌∷◌, Option}
use Rattle.std.proofs.Common.{Some, None, refl, sym, ap, ◌∙◌, arith, lit≤}
use Rattle.std.proofs.lemmas.Bool.{eqb-true, lt-ltb, ne_eqb}
use Rattle.std.specs.Char.{digit_value}
use Rattle.std.specs.Str.Parse.{AllDigits, digits_value, digits_value_after}
use Rattle.sf_format.specs.declared.directive.Base.{Base}
use Rattle.sf_format.specs.declared.directive.Numeral.{Numeral}
use Rattle.sf_format.specs.declared.directive.Base.TheVariants.{Dec, Oct, Hex, Bin, Auto, AutoBin}
use Rattle.sf_format.specs.Leads.{has_prefix}
use Rattle.sf_item.specs.Radices.{radices, radix_of_letter, first_radix, zero_radix, prefix_radix}
use Rattle.sf_item.specs.Progress.{Progress, Zero, Digits, with_digit, with_first_digit, after_zero as zero_then, advance}
use Rattle.sf_item.specs.Tests.{read}

pub digit_taken : (s : Bool) (r v d : ℕ) → digit_value d < r → with_digit s r v d ≡ Some (Digits s r (v * r + digit_value d))
digit_taken s r v d h = ap (λ (t : Bool). cond t (Some (Digits s r (v * r + digit_value d))) None) (lt-ltb (digit_value d) r h)

pub reads_on : (numeral : Numeral) (s : Bool) (r v : ℕ) (ds : List ℕ) → AllDigits r ds
    → read numeral (Some (Digits s r v)) ds ≡ Some (Digits s r (digits_value_after r v ds))
reads_on numeral s r v [] h = refl
reads_on numeral s r v (d ∷ ds) h = ap (λ (o : Option Progress). read numeral o ds) (digit_taken s r v d h.0)
    ∙ reads_on numeral s r (v * r + digit_value d) ds h.1

-- neither prefix: the byte isn't its letter, or the base doesn't have it
neither : (x b : Option ℕ) (s t : Bool) → (s ≡ false) ⊎ (x ≡ None) → (t ≡ false) ⊎ (b ≡ None) → cond s x (cond t b None) ≡ None
neither x b true t (inl e) k = absurd cc
neither x b true t (inr e) k = e
neither x b false true h (inl e) = absurd cc
neither x b false true h (inr e) = e
neither x b false false h k = refl

is_no_letter : (r d letter : ℕ) → digit_value d < r → r ≤ digit_value letter → nat_eq d letter ≡ false
is_no_letter r d letter h above = ne_eqb d letter (λ e. let same : digit_value d ≡ digit_value letter = ap digit_value e in
    omega (arith, same))

no_x : (d : ℕ) → digit_value d < 16 → (nat_eq d 120 || nat_eq d 88) ≡ false
no_x d h = ap₂ (λ (x y : Bool). x || y) (is_no_letter 16 d 120 h (lit≤ tt)) (is_no_letter 16 d 88 h (lit≤ tt))

no_b : (d : ℕ) → digit_value d < 8 → (nat_eq d 98 || nat_eq d 66) ≡ false
no_b d h = ap₂ (λ (x y : Bool). x || y) (is_no_letter 8 d 98 h (lit≤ tt)) (is_no_letter 8 d 66 h (lit≤ tt))

-- no digit after a 0 is the letter of a prefix
no_letter_of_dec : (d : ℕ) → radix_of_letter (radices Dec) d ≡ None
no_letter_of_dec d = neither None None (nat_eq d 120 || nat_eq d 88) (nat_eq d 98 || nat_eq d 66) (inr refl) (inr refl)

no_letter_of_oct : (d : ℕ) → radix_of_letter (radices Oct) d ≡ None
no_letter_of_oct d = neither None None (nat_eq d 120 || nat_eq d 88) (nat_eq d 98 || nat_eq d 66) (inr refl) (inr refl)

no_letter : (base : Base) (d : ℕ) → digit_value d < (radices base).zero → radix_of_letter (radices base) d ≡ None
no_letter Dec d h = no_letter_of_dec d
no_letter Oct d h = no_letter_of_oct d
no_letter Hex d h = neither (Some 16) None (nat_eq d 120 || nat_eq d 88) (nat_eq d 98 || nat_eq d 66) (inl (no_x d h)) (inr refl)
no_letter Bin d h = neither None (Some 2) (nat_eq d 120 || nat_eq d 88) (nat_eq d 98 || nat_eq d 66) (inr refl)
    (inl (no_b d (omega (arith, h))))
no_letter Auto d h = neither (Some 16) None (nat_eq d 120 || nat_eq d 88) (nat_eq d 98 || nat_eq d 66) (inl (no_x d (omega (arith, h))))
    (inr refl)
no_letter AutoBin d h =
    neither (Some 16) (Some 2) (nat_eq d 120 || nat_eq d 88) (nat_eq d 98 || nat_eq d 66) (inl (no_x d (omega (arith, h)))) (inl (no_b d h))

unprefixed : (numeral : Numeral) (d : ℕ) → radix_of_letter (radices numeral.base) d ≡ None → prefix_radix numeral d ≡ None
unprefixed numeral d none = by (has_prefix numeral.lead)
  where
    by : (t : Bool) → cond t (radix_of_letter (radices numeral.base) d) None ≡ None
    by true = none
    by false = refl

no_prefix : (numeral : Numeral) (d : ℕ) → digit_value d < zero_radix numeral → prefix_radix numeral d ≡ None
no_prefix numeral d h = unprefixed numeral d (no_letter numeral.base d h)

-- some bases have no prefix
pub no_prefix_of_dec : (numeral : Numeral) → numeral.base ≡ Dec → (d : ℕ) → prefix_radix numeral d ≡ None
no_prefix_of_dec numeral e d = unprefixed numeral d (ap (λ (base : Base). radix_of_letter (radices base) d) e ∙ no_letter_of_dec d)

pub no_prefix_of_oct : (numeral : Numeral) → numeral.base ≡ Oct → (d : ℕ) → prefix_radix numeral d ≡ None
no_prefix_of_oct numeral e d = unprefixed numeral d (ap (λ (base : Base). radix_of_letter (radices base) d) e ∙ no_letter_of_oct d)

digit_after_zero : (numeral : Numeral) (s : Bool) (d : ℕ) → digit_value d < zero_radix numeral
    → advance numeral (Zero s) d ≡ with_digit s (zero_radix numeral) 0 d
digit_after_zero numeral s d h = ap (zero_then s (zero_radix numeral) d) (no_prefix numeral d h)

-- after the digits ds: one 0 alone may still be that of a prefix
abbrev pub IsRead : Bool → ℕ → List ℕ → Progress → Type 0
IsRead s r ds p = ((p ≡ Zero s) × (ds ≡ 48 ∷ [])) ⊎ (p ≡ Digits s r (digits_value r ds))

pub record DigitsRead (numeral : Numeral) (q : Progress) (s : Bool) (r : ℕ) (ds : List ℕ) : Type 0 where
  pub progress : Progress
  pub is : read numeral (Some q) ds ≡ Some progress
  pub end : IsRead s r ds progress

no_first_zero : (r d : ℕ) → (0 * r + 0) * r + d ≡ 0 * r + d
no_first_zero r d = omega arith

-- from where a first digit is due
pub first_digits : (numeral : Numeral) (q : Progress) (s : Bool) (r d : ℕ) (ds : List ℕ)
    → advance numeral q d ≡ with_first_digit numeral s d
    → first_radix numeral ≡ r → r ≤ 16
    → (zero_radix numeral ≡ r) ⊎ (d ≡ 48 → ds ≡ []) → AllDigits r (d ∷ ds) → DigitsRead numeral q s r (d ∷ ds)
first_digits numeral q s r d ds opens first small second all = by (nat_eq d 48) refl
  where
    other : nat_eq d 48 ≡ false → DigitsRead numeral q s r (d ∷ ds)
    other e = record {
      progress = Digits s r (digits_value r (d ∷ ds));
      is = ap (λ (o : Option Progress). read numeral o ds) (opens ∙ ap
          (λ (t : Bool). cond t (Some (Zero s)) (with_digit s (first_radix numeral) 0 d)) e ∙ ap (λ (k : ℕ). with_digit s k 0 d) first
          ∙ digit_taken s r 0 d all.0)
          ∙ reads_on numeral s r (0 * r + digit_value d) ds all.1;
      end = inr refl;
    }

    after_zero : (ds : List ℕ) → AllDigits r ds → (zero_radix numeral ≡ r) ⊎ (d ≡ 48 → ds ≡ []) → d ≡ 48
        → read numeral (Some q) (d ∷ ds) ≡ read numeral (Some (Zero s)) ds → DigitsRead numeral q s r (d ∷ ds)
    after_zero [] all second e start = record { progress = Zero s; is = start; end = inl (refl, ap (λ (b : ℕ). b ∷ []) e) }
    after_zero (x ∷ xs) all (inr none) e start = let no : x ∷ xs ≡ [] = none e in absurd cc
    after_zero (x ∷ xs) all (inl radix) e start = record {
      progress = Digits s r (digits_value r (d ∷ x ∷ xs));
      is = start
          ∙ ap (λ (o : Option Progress). read numeral o xs) (digit_after_zero numeral s x (let h = all.0 in omega (arith, h, radix))
          ∙ ap (λ (k : ℕ). with_digit s k 0 x) radix ∙ digit_taken s r 0 x all.0)
          ∙ reads_on numeral s r (0 * r + digit_value x) xs all.1
          ∙ ap (λ (k : ℕ). Some (Digits s r (digits_value_after r k xs)))
          (sym (no_first_zero r (digit_value x)) ∙ ap (λ (b : ℕ). (0 * r + digit_value b) * r + digit_value x) (sym e));
      end = inr refl;
    }

    zero_first : nat_eq d 48 ≡ true → DigitsRead numeral q s r (d ∷ ds)
    zero_first t = after_zero ds all.1 second (eqb-true d 48 t) (ap (λ (o : Option Progress). read numeral o ds)
        (opens ∙ ap (λ (t : Bool). cond t (Some (Zero s)) (with_digit s (first_radix numeral) 0 d)) t))

    by : (t : Bool) → nat_eq d 48 ≡ t → DigitsRead numeral q s r (d ∷ ds)
    by true e = zero_first e
    by false e = other e
