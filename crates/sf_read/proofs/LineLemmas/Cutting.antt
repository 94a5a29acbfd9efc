-- Texts cut into lines.
use Rattle.std.proofs.Common.{◌≡◌, ◌==◌, ℕ, ◌<◌, Bool, true, false, List, [], ◌∷◌, ◌++◌, length, ◌⊎◌, inl, inr, refl, sym, ap, ◌∙◌, arith}
use Rattle.std.proofs.Common.{append_assoc}
use Rattle.std.proofs.lemmas.Bool.Decides.{nat_tests}
use Rattle.std.specs.List.{AllByRecursion}
use Rattle.sf_run.specs.outcome.Ending.{Ending}
use Rattle.sf_run.specs.outcome.Ending.TheVariants.{End, Fault}
use Rattle.sf_read.specs.line.Cut.{IsLine, begun_by, lines_by, lines_of, joined}

pub line_append : (a b : List ℕ) → IsLine a → IsLine b → IsLine (a ++ b)
line_append [] b p q = q
line_append (x ∷ a) b p q = (p.0, line_append a b p.1 q)

-- a line and its newline, and then more
pub cut_line : (ending : Ending) (line rest : List ℕ) → IsLine line → lines_by ending (line ++ 10 ∷ rest) ≡ line ∷ lines_by ending rest
cut_line ending [] rest h = refl
cut_line ending (b ∷ line) rest h = rw (h.0, cut_line ending line rest h.1) refl

-- a last line without its newline
pub cut_last : (line : List ℕ) → IsLine line → 0 < length line → lines_by End line ≡ line ∷ []
cut_last [] h some = absurd (omega arith)
cut_last (b ∷ []) h some = rw (h.0) refl
cut_last (b ∷ c ∷ line) h some = let rest : 0 < length (c ∷ line) = omega arith in rw (h.0, cut_last (c ∷ line) h.1 rest) refl

-- the first line of a text that begins so
first_begun : (b : ℕ) (lines : List (List ℕ)) → (more : List ℕ) × (others : List (List ℕ)) × (begun_by b lines End ≡ (b ∷ more) ∷ others)
first_begun b [] = ([], [], refl)
first_begun b (line ∷ lines) = (line, lines, refl)

pub first_line : (part rest : List ℕ) → IsLine part → 0 < length part → (more : List ℕ) × (others : List (List ℕ))
    × (lines_of (part ++ rest) ≡ (part ++ more) ∷ others)
first_line [] rest h some = absurd (omega (arith, some))
first_line (b ∷ []) rest h some = let first = first_begun b (lines_of rest) in (first.0, first.1, rw (h.0) first.2)
first_line (b ∷ c ∷ part) rest h some =
    let later = first_line (c ∷ part) rest h.1 (omega arith) in (later.0, later.1, rw (h.0, later.2) refl)

-- where a read failed within a line, that is none
pub cut_none : (part : List ℕ) → IsLine part → lines_by Fault part ≡ []
cut_none [] h = refl
cut_none (b ∷ part) h = rw (h.0, cut_none part h.1) refl

-- ---- joined lines

pub cut_joined : (lines : List (List ℕ)) → AllByRecursion IsLine lines → lines_of (joined lines) ≡ lines
cut_joined [] h = refl
cut_joined (line ∷ lines) h =
    ap lines_of (append_assoc line (10 ∷ []) (joined lines)) ∙ cut_line End line (joined lines) h.0
    ∙ ap (λ (rest : List (List ℕ)). line ∷ rest) (cut_joined lines h.1)

-- a byte before lines
begun_are_lines : (b : ℕ) → (b == 10) ≡ false → (lines : List (List ℕ)) → AllByRecursion IsLine lines
    → AllByRecursion IsLine (begun_by b lines End)
begun_are_lines b e [] h = ((e, tt), tt)
begun_are_lines b e (line ∷ lines) h = ((e, h.0), h.1)

begun_joined : (b : ℕ) (text : List ℕ) (lines : List (List ℕ)) → (lines ≡ [] → text ≡ []) → (joined lines ≡ text)
    ⊎ (joined lines ≡ text ++ 10 ∷ [])
    → (joined (begun_by b lines End) ≡ b ∷ text) ⊎ (joined (begun_by b lines End) ≡ b ∷ text ++ 10 ∷ [])
begun_joined b text [] q h = inr (ap (λ (y : List ℕ). b ∷ y ++ 10 ∷ []) (sym (q refl)))
begun_joined b text (line ∷ lines) q (inl h) = inl (ap (λ (y : List ℕ). b ∷ y) h)
begun_joined b text (line ∷ lines) q (inr h) = inr (ap (λ (y : List ℕ). b ∷ y) h)

split_on : (b : Bool) → (b ≡ true) ⊎ (b ≡ false)
split_on true = inl refl
split_on false = inr refl

line_end_is : (b : ℕ) → (b == 10) ≡ true → b ≡ 10
line_end_is b e = grind (arith, nat_tests)

pub lines_of_text : (text : List ℕ) → AllByRecursion IsLine (lines_of text)
lines_of_text [] = tt
lines_of_text (b ∷ rest) = elim (split_on (b == 10)) [
  | inl e ↦ rw e (tt, lines_of_text rest)
  | inr e ↦ rw e (begun_are_lines b e (lines_of rest) (lines_of_text rest))
]

begun_some : (b : ℕ) (lines : List (List ℕ)) → begun_by b lines End ≡ [] → ⊥
begun_some b [] e = cc
begun_some b (line ∷ lines) e = cc

-- a text with no line is empty
no_lines : (text : List ℕ) → lines_of text ≡ [] → text ≡ []
no_lines [] e = refl
no_lines (b ∷ rest) e = absurd (elim (split_on (b == 10)) [
  | inl t ↦ some_end t
  | inr f ↦ begun_some b (lines_of rest) (sym (lines_within f) ∙ e)
])
  where
    lines_within : (b == 10) ≡ false → lines_of (b ∷ rest) ≡ begun_by b (lines_of rest) End
    lines_within f = rw f refl

    some_end : (b == 10) ≡ true → ⊥
    some_end t = let h : [] ∷ lines_of rest ≡ [] = rw t at e in cc

pub joined_cut : (text : List ℕ) → (joined (lines_of text) ≡ text) ⊎ (joined (lines_of text) ≡ text ++ 10 ∷ [])
joined_cut [] = inl refl
joined_cut (b ∷ rest) = elim (split_on (b == 10)) [
  | inl e ↦ rw (e, line_end_is b e) (ended (joined_cut rest))
  | inr e ↦ rw e (begun_joined b rest (lines_of rest) (no_lines rest) (joined_cut rest))
]
  where
    ended : (joined (lines_of rest) ≡ rest) ⊎ (joined (lines_of rest) ≡ rest ++ 10 ∷ []) → (10 ∷ joined (lines_of rest) ≡ 10 ∷ rest)
        ⊎ (10 ∷ joined (lines_of rest) ≡ 10 ∷ rest ++ 10 ∷ [])
    ended (inl h) = inl (ap (λ (y : List ℕ). 10 ∷ y) h)
    ended (inr h) = inr (ap (λ (y : List ℕ). 10 ∷ y) h)
