-- Texts with white space around them.
use Rattle.std.proofs.Common.{◌≡◌, ℕ, zero, suc, ◌<◌, Bool, true, false, List, [], ◌∷◌, ◌++◌, length, refl, sym, ap, subst, ◌∙◌, arith}
use Rattle.std.proofs.Common.{append_assoc, append-nil, length-append}
use Rattle.std.specs.List.{AllByRecursion}
use Rattle.sf_base.specs.Bytes.{is_white, AreWhite}
use Rattle.sf_base.specs.Blanks.{StartsWithInk, EndsWithInk, IsTrimmed, are_white, trimmed_front, trimmed_end, trimmed}
use Rattle.sf_base.proofs.Blanks.{trimmed_front_append, trimmed_is, trimmed_only}
use Rattle.sf_print.specs.texts.Text.{blanks}
use Rattle.sf_pair.proofs.ConversionLemmas.Bodies.{StartsInk}

pub starts_with : (t : List ℕ) → StartsInk t → StartsWithInk t
starts_with [] h = h
starts_with (b ∷ t) h = h

pub starts_ink : (t : List ℕ) → StartsWithInk t → StartsInk t
starts_ink [] h = h
starts_ink (b ∷ t) h = h

pub ends_more : (xs ys : List ℕ) → EndsWithInk ys → EndsWithInk (xs ++ ys)
ends_more xs ys (front, last, e, ink) =
    (xs ++ front, last, ap (λ (t : List ℕ). xs ++ t) e ∙ sym (append_assoc xs front (last ∷ [])), ink)

-- no byte is white space
pub all_end : (xs : List ℕ) → 0 < length xs → AllByRecursion (λ b. is_white b ≡ false) xs → EndsWithInk xs
all_end [] some all = absurd (omega arith)
all_end (b ∷ []) some all = ([], b, refl, all.0)
all_end (b ∷ c ∷ xs) some all = ends_more (b ∷ []) (c ∷ xs) (all_end (c ∷ xs) (omega arith) all.1)

pub ends_some : (t : List ℕ) → EndsWithInk t → 0 < length t
ends_some t (front, last, e, ink) = omega (arith, ap length e, length-append front (last ∷ []))

-- ---- blanks around it

blanks_white : (n : ℕ) → AreWhite (blanks n)
blanks_white zero = tt
blanks_white (suc n) = (refl, blanks_white n)

pub padded_is : (a k : ℕ) (t : List ℕ) → StartsWithInk t → EndsWithInk t → IsTrimmed (blanks a ++ (t ++ blanks k)) t
padded_is a k t starts ends = record {
  before = blanks a;
  after = blanks k;
  whole = refl;
  white_before = blanks_white a;
  white_after = blanks_white k;
  starts = starts;
  ends = ends;
}

-- ---- white space alone

white_trimmed : (s : List ℕ) → are_white s ≡ true → trimmed s ≡ []
white_trimmed s white = ap trimmed_end (ap trimmed_front (sym (append-nil s)) ∙ trimmed_front_append s [] white)

pub some_ink : (s : List ℕ) → 0 < length (trimmed s) → are_white s ≡ false
some_ink s some = by (are_white s) refl
  where
    by : (t : Bool) → are_white s ≡ t → t ≡ false
    by true e = absurd (omega (arith, some, ap length (white_trimmed s e)))
    by false e = refl

-- ---- nothing to take away

none : (xs : List ℕ) → length xs ≡ 0 → xs ≡ []
none [] e = refl
none (x ∷ xs) e = absurd (omega (arith, e))

pub as_long : (s : List ℕ) → 0 < length s → length (trimmed s) ≡ length s → IsTrimmed s s
as_long s some same =
    let h = trimmed_is s (some_ink s (omega (arith, some, same))) in
    let long : length h.before ≡ 0 = omega (
      arith,
      ap length h.whole,
      length-append h.before (trimmed s ++ h.after),
      length-append (trimmed s) h.after,
      same,
    ) in
    let whole : s ≡ trimmed s = h.whole ∙ (λ i. none h.before long i ++ (trimmed s ++ none h.after (omega (
      arith,
      ap length h.whole,
      length-append h.before (trimmed s ++ h.after),
      length-append (trimmed s) h.after,
      same,
    )) i)) ∙ append-nil (trimmed s) in
    subst (λ (t : List ℕ). IsTrimmed s t) (sym whole) h

pub long_as : (s : List ℕ) → IsTrimmed s s → length (trimmed s) ≡ length s
long_as s h = sym (ap length (trimmed_only s s h))
