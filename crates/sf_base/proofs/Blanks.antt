-- Texts with white space at their ends, and without.
use Rattle.std.proofs.Common.{◌≡◌, ℕ, suc, ◌≤◌, ◌-◌, Bool, true, false, cond, ◌&&◌, List, [], ◌∷◌, ◌++◌, length, take, get_or}
use Rattle.std.proofs.Common.{refl, ap, sym, ◌∙◌, ◌⊎◌, inl, inr, arith}
use Rattle.std.proofs.lemmas.Bool.{and_parts, and_from, and_left, and_right}
use Rattle.std.proofs.Math.Seq.{take-length, take-suc}
use Rattle.sf_base.specs.Bytes.{is_white, AreWhite}
use Rattle.sf_base.specs.Blanks.{StartsWithInk, EndsWithInk, IsTrimmed, are_white, trimmed_front, kept_before, trimmed_end, trimmed}

-- ---- the test

white_by_test : (s : List ℕ) → are_white s ≡ true → AreWhite s
white_by_test [] white = tt
white_by_test (b ∷ s) white =
    let both = and_parts (is_white b) (are_white s) white in
    (both.0, white_by_test s both.1)

test_by_white : (s : List ℕ) → AreWhite s → are_white s ≡ true
test_by_white [] white = refl
test_by_white (b ∷ s) white = and_from (is_white b) (are_white s) white.0 (test_by_white s white.1)

pub white_is : (s : List ℕ) → (are_white s ≡ true → AreWhite s) × (AreWhite s → are_white s ≡ true)
white_is s = (white_by_test s, test_by_white s)

-- ---- the front

pub trimmed_front_append : (a s : List ℕ) → are_white a ≡ true → trimmed_front (a ++ s) ≡ trimmed_front s
trimmed_front_append [] s white = refl
trimmed_front_append (b ∷ a) s white =
    let both = and_parts (is_white b) (are_white a) white in
    rw both.0 (trimmed_front_append a s both.1)

pub trimmed_front_more : (s z : List ℕ) → are_white s ≡ false → trimmed_front (s ++ z) ≡ trimmed_front s ++ z
trimmed_front_more [] z ink = cc
trimmed_front_more (b ∷ s) z ink = go (is_white b) ink (trimmed_front_more s z)
  where
    go : (w : Bool) → (w && are_white s) ≡ false → (are_white s ≡ false → trimmed_front (s ++ z) ≡ trimmed_front s ++ z)
        → cond w (trimmed_front (s ++ z)) (b ∷ (s ++ z)) ≡ cond w (trimmed_front s) (b ∷ s) ++ z
    go true h rest = rest h
    go false h rest = refl

-- what starts with ink stays
front_stays : (t z : List ℕ) → StartsWithInk t → trimmed_front (t ++ z) ≡ t ++ z
front_stays [] z starts = absurd starts
front_stays (b ∷ t) z starts = rw starts refl

front_starts : (s : List ℕ) → are_white s ≡ false → StartsWithInk (trimmed_front s)
front_starts [] ink = cc
front_starts (b ∷ s) ink = go (is_white b) refl ink (front_starts s)
  where
    go : (w : Bool) → is_white b ≡ w → (w && are_white s) ≡ false → (are_white s ≡ false → StartsWithInk (trimmed_front s))
        → StartsWithInk (cond w (trimmed_front s) (b ∷ s))
    go true e h rest = rest h
    go false e h rest = e

-- s is white space and then t
abbrev IsAfter : List ℕ → List ℕ → Type 0
IsAfter s t = (before : List ℕ) × (s ≡ before ++ t) × AreWhite before

front_after : (s : List ℕ) → IsAfter s (trimmed_front s)
front_after [] = ([], refl, tt)
front_after (b ∷ s) = go (is_white b) refl (front_after s)
  where
    go : (w : Bool) → is_white b ≡ w → IsAfter s (trimmed_front s) → IsAfter (b ∷ s) (cond w (trimmed_front s) (b ∷ s))
    go true e rest = (b ∷ rest.0, ap (λ x. b ∷ x) rest.1, (e, rest.2))
    go false e rest = ([], refl, tt)

-- ---- the end

-- a white byte alone goes
kept_white : (b : ℕ) → is_white b ≡ true → kept_before b [] ≡ []
kept_white b white = rw white refl

kept_ink : (b : ℕ) → is_white b ≡ false → kept_before b [] ≡ b ∷ []
kept_ink b ink = rw ink refl

trimmed_end_none : (z : List ℕ) → are_white z ≡ true → trimmed_end z ≡ []
trimmed_end_none [] white = refl
trimmed_end_none (b ∷ z) white =
    let both = and_parts (is_white b) (are_white z) white in
    ap (kept_before b) (trimmed_end_none z both.1) ∙ kept_white b both.0

pub trimmed_end_white : (s z : List ℕ) → are_white z ≡ true → trimmed_end (s ++ z) ≡ trimmed_end s
trimmed_end_white [] z white = trimmed_end_none z white
trimmed_end_white (b ∷ s) z white = ap (kept_before b) (trimmed_end_white s z white)

-- what ends with ink stays
kept_more : (b : ℕ) (s : List ℕ) (c : ℕ) → kept_before b (s ++ c ∷ []) ≡ b ∷ (s ++ c ∷ [])
kept_more b [] c = refl
kept_more b (d ∷ s) c = refl

pub trimmed_end_ink : (s : List ℕ) (b : ℕ) → is_white b ≡ false → trimmed_end (s ++ b ∷ []) ≡ s ++ b ∷ []
trimmed_end_ink [] b ink = kept_ink b ink
trimmed_end_ink (c ∷ s) b ink = ap (kept_before c) (trimmed_end_ink s b ink) ∙ kept_more c s b

last_apart : (s : List ℕ) (n : ℕ) → suc n ≡ length s → s ≡ take n s ++ get_or s n 0 ∷ []
last_apart s n e = sym (take-length s) ∙ (ap (λ k. take k s) (sym e) ∙ take-suc s n 0 (omega (arith, e)))

-- with a white byte last
pub trimmed_end_last_white : (s : List ℕ) → 1 ≤ length s → is_white (get_or s (length s - 1) 0) ≡ true
    → trimmed_end (take (length s - 1) s) ≡ trimmed_end s
trimmed_end_last_white s some white =
    let n = length s - 1 in
    let all = last_apart s n (omega (arith, some)) in
    sym (trimmed_end_white (take n s) (get_or s n 0 ∷ []) (rw white refl)) ∙ sym (ap trimmed_end all)

-- with another byte last
pub trimmed_end_last_ink : (s : List ℕ) → 1 ≤ length s → is_white (get_or s (length s - 1) 0) ≡ false → trimmed_end s ≡ s
trimmed_end_last_ink s some ink =
    let n = length s - 1 in
    let all = last_apart s n (omega (arith, some)) in
    ap trimmed_end all ∙ (trimmed_end_ink (take n s) (get_or s n 0) ink ∙ sym all)

-- s is t and then white space
abbrev IsBefore : List ℕ → List ℕ → Type 0
IsBefore s t = (after : List ℕ) × (s ≡ t ++ after) × AreWhite after

kept_before_white : (b : ℕ) (s t : List ℕ) → IsBefore s t → IsBefore (b ∷ s) (kept_before b t)
kept_before_white b s [] rest = go (is_white b) refl
  where
    go : (w : Bool) → is_white b ≡ w → IsBefore (b ∷ s) (cond w [] (b ∷ []))
    go true e = (b ∷ rest.0, ap (λ x. b ∷ x) rest.1, (e, rest.2))
    go false e = (rest.0, ap (λ x. b ∷ x) rest.1, rest.2)
kept_before_white b s (c ∷ t) rest = (rest.0, ap (λ x. b ∷ x) rest.1, rest.2)

end_before : (s : List ℕ) → IsBefore s (trimmed_end s)
end_before [] = ([], refl, tt)
end_before (b ∷ s) = kept_before_white b s (trimmed_end s) (end_before s)

kept_starts : (b : ℕ) (t : List ℕ) → is_white b ≡ false → StartsWithInk (kept_before b t)
kept_starts b [] ink = rw ink ink
kept_starts b (c ∷ t) ink = ink

end_starts : (s : List ℕ) → StartsWithInk s → StartsWithInk (trimmed_end s)
end_starts [] starts = starts
end_starts (b ∷ s) starts = kept_starts b (trimmed_end s) starts

-- nothing, or the last byte is no white space
abbrev IsClean : List ℕ → Type 0
IsClean t = (t ≡ []) ⊎ EndsWithInk t

kept_clean : (b : ℕ) (t : List ℕ) → IsClean t → IsClean (kept_before b t)
kept_clean b [] clean = go (is_white b) refl
  where
    go : (w : Bool) → is_white b ≡ w → IsClean (cond w [] (b ∷ []))
    go true e = inl refl
    go false e = inr ([], b, refl, e)
kept_clean b (c ∷ t) (inl none) = cc
kept_clean b (c ∷ t) (inr ends) = inr (b ∷ ends.0, ends.1, ap (λ x. b ∷ x) ends.2, ends.3)

end_clean : (s : List ℕ) → IsClean (trimmed_end s)
end_clean [] = inl refl
end_clean (b ∷ s) = kept_clean b (trimmed_end s) (end_clean s)

ends_of : (t : List ℕ) → StartsWithInk t → IsClean t → EndsWithInk t
ends_of [] starts clean = absurd starts
ends_of (b ∷ t) starts (inl none) = cc
ends_of (b ∷ t) starts (inr ends) = ends

-- ---- both ends

pub trimmed_is : (s : List ℕ) → are_white s ≡ false → IsTrimmed s (trimmed s)
trimmed_is s ink =
    let front = front_after s in
    let end = end_before (trimmed_front s) in
    let starts = end_starts (trimmed_front s) (front_starts s ink) in
    record {
      before = front.0;
      after = end.0;
      whole = front.1 ∙ ap (λ x. front.0 ++ x) end.1;
      white_before = front.2;
      white_after = end.2;
      starts = starts;
      ends = ends_of (trimmed s) starts (end_clean (trimmed_front s));
    }

end_stays : (t : List ℕ) → EndsWithInk t → trimmed_end t ≡ t
end_stays t ends = rw ends.2 (trimmed_end_ink ends.0 ends.1 ends.3)

pub trimmed_only : (s t : List ℕ) → IsTrimmed s t → t ≡ trimmed s
trimmed_only s t h =
    let front : trimmed_front s ≡ t ++ h.after =
    ap trimmed_front h.whole
    ∙ (trimmed_front_append h.before (t ++ h.after) (test_by_white h.before h.white_before) ∙ front_stays t h.after h.starts) in
    sym (ap trimmed_end front ∙ (trimmed_end_white t h.after (test_by_white h.after h.white_after) ∙ end_stays t h.ends))

ink_after : (a s : List ℕ) → are_white s ≡ false → are_white (a ++ s) ≡ false
ink_after [] s ink = ink
ink_after (b ∷ a) s ink = and_right (is_white b) (are_white (a ++ s)) (ink_after a s ink)

ink_first : (t z : List ℕ) → StartsWithInk t → are_white (t ++ z) ≡ false
ink_first [] z starts = absurd starts
ink_first (b ∷ t) z starts = and_left (is_white b) (are_white (t ++ z)) starts

pub not_trimmed_white : (s t : List ℕ) → IsTrimmed s t → are_white s ≡ false
not_trimmed_white s t h = ap are_white h.whole ∙ ink_after h.before (t ++ h.after) (ink_first t h.after h.starts)
