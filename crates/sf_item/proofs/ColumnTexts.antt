-- The bytes of a column and of its text.
use Rattle.std.proofs.Common.{◌≡◌, ◌∙◌, ℕ, Bool, true, false, cond, not, nat_lt, ◌&&◌, List, [], ◌∷◌, ◌++◌, length, refl, sym, ap}
use Rattle.std.proofs.Common.{true≢false, append-nil, arith}
use Rattle.std.proofs.lemmas.Bool.{and_parts, and_from, and_right}
use Rattle.std.proofs.lemmas.Bool.Decides.{nat_tests}
use Rattle.std.specs.List.{list_all}
use Rattle.sf_base.specs.Bytes.{is_white, is_ink}
use Rattle.sf_base.specs.Blanks.{are_white, trimmed_front, kept_before, trimmed_end, trimmed}
use Rattle.sf_format.specs.declared.directive.Conversion.{Conversion}
use Rattle.sf_format.specs.Leads.{is_strict}
use Rattle.std.specs.Prelude.{if◌then◌else◌}
use Rattle.sf_item.specs.ColumnTests.{column_text}
use Rattle.sf_item.proofs.Blanks.{trimmed_front_append}

-- ---- tests

pub ink_is : (b : ℕ) → is_ink b ≡ true → is_white b ≡ false
ink_is b e = go (is_white b) e
  where
    go : (v : Bool) → not v ≡ true → v ≡ false
    go true e = absurd (true≢false (sym e))
    go false e = refl

pub white_both : (f t : List ℕ) → are_white f ≡ true → are_white t ≡ true → are_white (f ++ t) ≡ true
white_both [] t first second = second
white_both (b ∷ f) t first second =
    let parts = and_parts (is_white b) (are_white f) first in
    and_from (is_white b) (are_white (f ++ t)) parts.0 (white_both f t parts.1 second)

pub ink_before : (f t : List ℕ) → are_white f ≡ false → are_white (f ++ t) ≡ false
ink_before [] t ink = cc
ink_before (b ∷ f) t ink = go (is_white b) ink (ink_before f t)
  where
    go : (w : Bool) → (w && are_white f) ≡ false → (are_white f ≡ false → are_white (f ++ t) ≡ false) → (w && are_white (f ++ t)) ≡ false
    go true h rest = rest h
    go false h rest = refl

pub ink_behind : (f t : List ℕ) → are_white t ≡ false → are_white (f ++ t) ≡ false
ink_behind [] t ink = ink
ink_behind (b ∷ f) t ink = and_right (is_white b) (are_white (f ++ t)) (ink_behind f t ink)

pub one_white : (b : ℕ) → is_white b ≡ true → are_white (b ∷ []) ≡ true
one_white b white = rw white refl

pub one_ink : (b : ℕ) (z : List ℕ) → is_white b ≡ false → are_white (b ∷ z) ≡ false
one_ink b z ink = rw ink refl

-- ---- the front

pub white_front : (f : List ℕ) → are_white f ≡ true → trimmed_front f ≡ []
white_front f white = ap trimmed_front (sym (append-nil f)) ∙ trimmed_front_append f [] white

pub ink_front : (b : ℕ) (z : List ℕ) → is_white b ≡ false → trimmed_front (b ∷ z) ≡ b ∷ z
ink_front b z ink = rw ink refl

-- with a byte that is the first of its text
pub text_begins : (f : List ℕ) (b : ℕ) (z : List ℕ) → are_white f ≡ true → is_white b ≡ false → trimmed_front (f ++ b ∷ z) ≡ b ∷ z
text_begins f b z white ink = trimmed_front_append f (b ∷ z) white ∙ ink_front b z ink

pub front_ink : (f : List ℕ) → are_white f ≡ false → are_white (trimmed_front f) ≡ false
front_ink [] ink = ink
front_ink (b ∷ f) ink = go (is_white b) refl ink (front_ink f)
  where
    go : (w : Bool) → is_white b ≡ w → (w && are_white f) ≡ false → (are_white f ≡ false → are_white (trimmed_front f) ≡ false)
        → are_white (cond w (trimmed_front f) (b ∷ f)) ≡ false
    go true e h rest = rest h
    go false e h rest = one_ink b f e

-- ---- the end

kept_ink_before : (b : ℕ) (t : List ℕ) → is_white b ≡ false → kept_before b t ≡ b ∷ t
kept_ink_before b [] ink = rw ink refl
kept_ink_before b (c ∷ t) ink = refl

kept_some : (c : ℕ) (s : List ℕ) (b : ℕ) (z : List ℕ) → kept_before c (s ++ b ∷ z) ≡ c ∷ (s ++ b ∷ z)
kept_some c [] b z = refl
kept_some c (d ∷ s) b z = refl

-- what stands before a byte that is no white space stays
pub end_after_ink : (s : List ℕ) (b : ℕ) (z : List ℕ) → is_white b ≡ false → trimmed_end (s ++ b ∷ z) ≡ s ++ b ∷ trimmed_end z
end_after_ink [] b z ink = kept_ink_before b (trimmed_end z) ink
end_after_ink (c ∷ s) b z ink = ap (kept_before c) (end_after_ink s b z ink) ∙ kept_some c s b (trimmed_end z)

pub end_of_inks : (t : List ℕ) → list_all is_ink t ≡ true → trimmed_end t ≡ t
end_of_inks [] h = refl
end_of_inks (b ∷ t) h =
    let parts = and_parts (is_ink b) (list_all is_ink t) h in
    ap (kept_before b) (end_of_inks t parts.1) ∙ kept_ink_before b t (ink_is b parts.0)

kept_all : (p : ℕ → Bool) (b : ℕ) (t : List ℕ) → p b ≡ true → list_all p t ≡ true → list_all p (kept_before b t) ≡ true
kept_all p b [] first rest = go (is_white b)
  where
    go : (w : Bool) → list_all p (cond w [] (b ∷ [])) ≡ true
    go true = refl
    go false = and_from (p b) true first refl
kept_all p b (c ∷ t) first rest = and_from (p b) (list_all p (c ∷ t)) first rest

-- members of a set are still members
pub end_all : (p : ℕ → Bool) (t : List ℕ) → list_all p t ≡ true → list_all p (trimmed_end t) ≡ true
end_all p [] h = refl
end_all p (b ∷ t) h =
    let parts = and_parts (p b) (list_all p t) h in
    kept_all p b (trimmed_end t) parts.0 (end_all p t parts.1)

kept_has : (b : ℕ) (t : List ℕ) → nat_lt 0 (length t) ≡ true → nat_lt 0 (length (kept_before b t)) ≡ true
kept_has b [] some = absurd (true≢false (sym some))
kept_has b (c ∷ t) some = grind (arith, nat_tests)

some_byte : (b : ℕ) (t : List ℕ) → nat_lt 0 (length (b ∷ t)) ≡ true
some_byte b t = grind (arith, nat_tests)

pub end_has : (t : List ℕ) → are_white t ≡ false → nat_lt 0 (length (trimmed_end t)) ≡ true
end_has [] ink = cc
end_has (b ∷ t) ink = go (is_white b) refl ink (end_has t)
  where
    go : (w : Bool) → is_white b ≡ w → (w && are_white t) ≡ false → (are_white t ≡ false → nat_lt 0 (length (trimmed_end t)) ≡ true)
        → nat_lt 0 (length (trimmed_end (b ∷ t))) ≡ true
    go true e h rest = kept_has b (trimmed_end t) (rest h)
    go false e h rest =
        ap (λ s. nat_lt 0 (length s)) (kept_ink_before b (trimmed_end t) e) ∙ some_byte b (trimmed_end t)

-- ---- the text

pub text_strict : (c : Conversion) (s : List ℕ) → is_strict c.shape ≡ true → column_text c s ≡ s
text_strict c s e = ap (λ v. if v then s else trimmed s) e

pub text_trimmed : (c : Conversion) (s : List ℕ) → is_strict c.shape ≡ false → column_text c s ≡ trimmed s
text_trimmed c s e = ap (λ v. if v then s else trimmed s) e
