-- Digits that leave the place as it is.
use Rattle.std.proofs.Common.{◌≡◌, ℕ, suc, ◌+◌, Bool, true, false, cond, List, [], ◌∷◌, take, drop, Some, refl, ap, ◌∙◌, arith}
use Rattle.std.proofs.Math.Seq.{take-add}
use Rattle.std.specs.Char.{is_ascii_digit}
use Rattle.std.specs.List.{prefix_len}
use Rattle.sf_float_read.specs.declared.item.reached.Reached.{Reached}
use Rattle.sf_float_read.specs.item.Tests.{next, read}
use Rattle.sf_float_read.proofs.ItemLemmas.Deciding.{read_more}

-- so many of them
pub read_digits : (r : Reached) → ((b : ℕ) → is_ascii_digit b ≡ true → next r b ≡ Some r) → (x : List ℕ)
    → read (Some r) (take (prefix_len is_ascii_digit x) x) ≡ Some r
read_digits r stays [] = refl
read_digits r stays (b ∷ x) = by (is_ascii_digit b) refl (read_digits r stays x)
  where
    one_more : (n : ℕ) → 1 + n ≡ suc n
    one_more n = omega arith

    by : (t : Bool) → is_ascii_digit b ≡ t → read (Some r) (take (prefix_len is_ascii_digit x) x) ≡ Some r
        → read (Some r) (take (cond t (1 + prefix_len is_ascii_digit x) 0) (b ∷ x)) ≡ Some r
    by true e h = rw (one_more (prefix_len is_ascii_digit x))
        (ap (λ o. read o (take (prefix_len is_ascii_digit x) x)) (stays b e) ∙ h)
    by false e h = refl

-- a part of the piece after another
pub read_further : (r s t : Reached) (piece : List ℕ) (at k : ℕ) → read (Some r) (take at piece) ≡ Some s
    → read (Some s) (take k (drop at piece)) ≡ Some t → read (Some r) (take (at + k) piece) ≡ Some t
read_further r s t piece at k p q =
    ap (read (Some r)) (take-add at k piece) ∙ read_more (Some r) (take at piece) (take k (drop at piece))
    ∙ ap (λ o. read o (take k (drop at piece))) p ∙ q
