-- Conversions of texts, and suppressed ones of one byte, take the text in front of them.
use Rattle.std.proofs.Common.{◌≡◌, ℕ, ◌<◌, ◌≤◌, ◌⊎◌, Bool, true, false, ◌&&◌, nat_eq, nat_le, nat_lt, List, [], ◌∷◌, ◌++◌, length, Option}
use Rattle.std.proofs.Common.{Some, None, unwrap_or, refl, sym, ap, subst, ◌∙◌, arith}
use Rattle.std.proofs.lemmas.Bool.Decides.{nat_tests}
use Rattle.std.specs.List.{AllByRecursion, list_all}
use Rattle.sf_base.specs.Bytes.{is_white}
use Rattle.sf_base.specs.Sets.{has_byte}
use Rattle.sf_base.specs.Data.{Bytes}
use Rattle.sf_format.specs.declared.directive.Lead.{Lead}
use Rattle.sf_format.specs.declared.directive.Shape.{Shape}
use Rattle.sf_format.specs.declared.directive.Shape.TheVariants as shape
use Rattle.sf_format.specs.declared.directive.Conversion.{Conversion}
use Rattle.sf_item.specs.Tests.{is_ink, shape_matches, shape_begins, has_item}
use Rattle.sf_report.specs.Steps.{Passes, Stores}
use Rattle.sf_report.specs.Machine.{passed_end, stored_end}
use Rattle.sf_pair.specs.conversions.Neighbours.{Bytes as ByteTest}
use Rattle.sf_pair.proofs.Paired.{and_so}
use Rattle.sf_pair.proofs.FitTests.{all_is, ink_is}
use Rattle.sf_pair.proofs.Taken.{Takes, FirstOut, full_ends, either_ends, taken_within}

one_fails : (p : ByteTest) (f : List ℕ) (b : ℕ) → p b ≡ false → list_all p (f ++ b ∷ []) ≡ false
one_fails p [] b e = ap (λ (v : Bool). v && true) e
one_fails p (x ∷ f) b e = by (p x) (one_fails p f b e)
  where
    by : (v : Bool) → list_all p (f ++ b ∷ []) ≡ false → (v && list_all p (f ++ b ∷ [])) ≡ false
    by true h = h
    by false h = refl

some_test : (n : ℕ) → 0 < n → nat_lt 0 n ≡ true
some_test n h = grind (arith, nat_tests)

same_test : (n w : ℕ) → n ≡ w → nat_eq n w ≡ true
same_test n w h = grind (arith, nat_tests)

most_test : (n w : ℕ) → n ≡ w → nat_le n w ≡ true
most_test n w h = grind (arith, nat_tests)

-- a shape whose items are the bytes that pass a test
record Tested (shape : Shape) (p : ByteTest) : Type 0 where
  item : has_item shape ≡ true
  begins : (width : Option ℕ) (f : List ℕ) → shape_begins shape width f ≡ list_all p f
  matches_so : (width : Option ℕ) (f : List ℕ) → shape_matches shape width f ≡ (nat_lt 0 (length f) && list_all p f)

tested_takes : (s : Conversion) (p : ByteTest) (w : ℕ) (f rest : List ℕ) → Tested s.shape p → s.width ≡ Some w → 0 < length f
    → list_all p f ≡ true → length f ≤ w
    → (length f ≡ w) ⊎ FirstOut p rest → Takes s f rest
tested_takes s p w f rest t width some all fits closed = record {
  some = some;
  item = t.item;
  taken = taken_within s f w width fits (t.begins s.width f ∙ all);
  ends = either_ends s f rest w p width (λ b out. t.begins s.width (f ++ b ∷ []) ∙ one_fails p f b out) closed;
  matches_it = t.matches_so s.width f ∙ and_so (nat_lt 0 (length f)) (list_all p f) (some_test (length f) some) all;
}

at_text : (read : Shape) (lead : Lead) → read ≡ (shape.Text lead) → Tested read is_ink
at_text read lead e = subst (λ (h : Shape). Tested h is_ink) (sym e)
    (record { item = refl; begins = λ width f. refl; matches_so = λ width f. refl })

at_set : (read : Shape) (members : List Bool) → read ≡ shape.Set members → Tested read (has_byte members)
at_set read members e = subst (λ (h : Shape). Tested h (has_byte members)) (sym e)
    (record { item = refl; begins = λ width f. refl; matches_so = λ width f. refl })

pub text_takes : (s : Conversion) (lead : Lead) (w : ℕ) (f rest : List ℕ) → s.shape ≡ (shape.Text lead) → s.width ≡ Some w → 0 < length f
    → AllByRecursion (λ b. is_white b ≡ false) f → length f ≤ w
    → (length f ≡ w) ⊎ FirstOut is_ink rest → Takes s f rest
text_takes s lead w f rest e width some all fits closed =
    tested_takes s is_ink w f rest (at_text s.shape lead e) width some ((all_is is_ink (λ b. is_white b ≡ false) ink_is f).1 all) fits
    closed

pub set_takes : (s : Conversion) (members : List Bool) (w : ℕ) (f rest : List ℕ) → s.shape ≡ shape.Set members → s.width ≡ Some w
    → 0 < length f → AllByRecursion (λ b. has_byte members b ≡ true) f → length f ≤ w
    → (length f ≡ w) ⊎ FirstOut (has_byte members) rest → Takes s f rest
set_takes s members w f rest e width some all fits closed =
    tested_takes s (has_byte members) w f rest (at_set s.shape members e) width some
    ((all_is (has_byte members) (λ b. has_byte members b ≡ true) (λ b. (λ h. h, λ h. h)) f).1 all) fits closed

pub chars_takes : (s : Conversion) (w : ℕ) (f rest : List ℕ) → s.shape ≡ shape.Chars → s.width ≡ Some w → 0 < length f → length f ≡ w
    → Takes s f rest
chars_takes s w f rest e width some full = record {
  some = some;
  item = ap has_item e;
  taken = taken_within s f w width (omega (arith, full)) (ap (λ (h : Shape). shape_begins h s.width f) e
      ∙ ap (λ (o : Option ℕ). nat_le (length f) (unwrap_or o 1)) width ∙ most_test (length f) w full);
  ends = full_ends s f rest w width full;
  matches_it = ap (λ (h : Shape). shape_matches h s.width f) e ∙ ap (λ (o : Option ℕ). nat_eq (length f) (unwrap_or o 1)) width
      ∙ same_test (length f) w full;
}

-- ---- what is stored

pub text_stored : (s : Conversion) (lead : Lead) (slot : ℕ) (f : List ℕ) → s.slot ≡ Some slot → s.shape ≡ (shape.Text lead)
    → passed_end s s.slot f ≡ Stores slot (Bytes f)
text_stored s lead slot f at e = ap (λ (o : Option ℕ). passed_end s o f) at ∙ ap (λ (h : Shape). stored_end s slot h f) e

pub set_stored : (s : Conversion) (members : List Bool) (slot : ℕ) (f : List ℕ) → s.slot ≡ Some slot → s.shape ≡ shape.Set members
    → passed_end s s.slot f ≡ Stores slot (Bytes f)
set_stored s members slot f at e = ap (λ (o : Option ℕ). passed_end s o f) at ∙ ap (λ (h : Shape). stored_end s slot h f) e

pub chars_stored : (s : Conversion) (slot : ℕ) (f : List ℕ) → s.slot ≡ Some slot → s.shape ≡ shape.Chars
    → passed_end s s.slot f ≡ Stores slot (Bytes f)
chars_stored s slot f at e = ap (λ (o : Option ℕ). passed_end s o f) at ∙ ap (λ (h : Shape). stored_end s slot h f) e

pub suppressed_passes : (s : Conversion) (f : List ℕ) → s.slot ≡ None → passed_end s s.slot f ≡ Passes
suppressed_passes s f none = ap (λ (o : Option ℕ). passed_end s o f) none
