-- A line that is held whole, with its newline.
use Rattle.std.proofs.Common.{◌≡◌, ℕ, ◌+◌, false, true≢false, List, [], ◌∷◌, ◌++◌, length, take, drop, Option}
use Rattle.std.proofs.Common.{inl, refl, sym, ap, ap₂, subst, ◌==◌, ◌∙◌, arith, append_assoc}
use Rattle.std.proofs.lemmas.List.{take_all}
use Rattle.sf_read.specs.source.Ahead.{Ahead}
use Rattle.sf_read.specs.line.Cut.{IsLine}
use Rattle.sf_read.specs.line.Reading.{IsHeld, Took}
use Rattle.sf_read.proofs.LineLemmas.Gathering.{loses}

-- ---- the line

-- it was taken, with its newline
pub takes : {S : Type 0} (to_come : S → Option (List ℕ)) (old new : Ahead S) (len : ℕ) → IsHeld old.held len → old.at_end ≡ false
    → new.held ≡ drop (len + 1) old.held → new.source ≡ old.source
    → Took to_come old new (take len old.held)
takes to_come old new len held open' rest source = record {
  is_line = held.is_line;
  before = open';
  bytes = inl (loses to_come old new (take len old.held ++ 10 ∷ [])
      (held.ended ∙ sym (append_assoc (take len old.held) (10 ∷ []) (drop (len + 1) old.held))
      ∙ ap (λ (y : List ℕ). (take len old.held ++ 10 ∷ []) ++ y) (sym rest)) source);
}

-- ---- the first newline

abbrev first_byte : List ℕ → ℕ
first_byte [] = 0
first_byte (b ∷ bytes) = b

-- a line and its newline stand in front in one way
pub one_front : (line rest front behind : List ℕ) → IsLine line → IsLine front → line ++ 10 ∷ rest ≡ front ++ 10 ∷ behind → line ≡ front
one_front [] rest [] behind p q e = refl
one_front [] rest (b ∷ front) behind p q e = absurd (true≢false (ap (λ c. c == 10) (ap (first_byte) e) ∙ q.0))
one_front (b ∷ line) rest [] behind p q e = absurd (true≢false (sym (ap (λ c. c == 10) (ap (first_byte) e)) ∙ p.0))
one_front (b ∷ line) rest (c ∷ front) behind p q e = ap₂ (λ x xs. x ∷ xs) (ap (first_byte) e)
    (one_front line rest front behind p.1 q.1 (ap (drop 1) e))

no_line : (line rest : List ℕ) → IsLine (line ++ 10 ∷ rest) → ⊥
no_line [] rest h = true≢false h.0
no_line (b ∷ line) rest h = no_line line rest h.1

-- bytes that have one are no line
pub no_line_end : (held line rest : List ℕ) (len : ℕ) → held ≡ line ++ 10 ∷ rest → IsLine (take len held) → len ≡ length held → ⊥
no_line_end held line rest len is front all = no_line line rest (subst IsLine (take_all len held (omega (arith, all)) ∙ is) front)
