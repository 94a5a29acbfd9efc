-- How far an integer is read with the bytes of a piece.
use Rattle.std.proofs.Common.{◌≡◌, ℕ, ◌+◌, ◌-◌, ◌*◌, ◌<◌, ◌≤◌, Bool, false, cond, List, [], ◌∷◌, ◌++◌, length, take, drop, slice_index_or}
use Rattle.std.proofs.Common.{Option, Some, None, is_some, refl, sym, ap, ◌∙◌, subst, arith}
use Rattle.std.proofs.lemmas.Bool.Decides.{nat_tests}
use Rattle.std.proofs.Math.Seq.{take-add, take-length}
use Rattle.std.proofs.lemmas.List.{length-drop}
use Rattle.std.specs.Char.{digit_value, is_ascii_digit}
use Rattle.sf_format.specs.declared.directive.Numeral.{Numeral}
use Rattle.sf_item.specs.declared.reached.Reached.{Reached}
use Rattle.sf_item.specs.declared.reading.Reading.TheVariants as reading
use Rattle.sf_item.specs.Progress.{Progress, Start, Digits, with_digit, advance}
use Rattle.sf_item.specs.Scan.{Shows, ShowsNext, HasRead, ReadsNext}
use Rattle.sf_item.specs.Tests.{read}
use Rattle.sf_item.proofs.Fronts.{one_more, read_more}
use Rattle.sf_item.proofs.Integers.{by_lt}
use Rattle.sf_item.proofs.Scanning.{shows_some, shows_none, read_nothing}

-- what is shown of what is read after a text is shown of both
behind : (numeral : Numeral) (p : Progress) (f t : List ℕ) (now : Reached) (after : Option Reached)
    → ShowsNext (Some now) (read numeral (Some p) f) → ((q : Progress) → Shows now q → ShowsNext after (read numeral (Some q) t))
    → ShowsNext after (read numeral (Some p) (f ++ t))
behind numeral p f t now after before then =
    let (q, is, shows) = shows_some now (read numeral (Some p) f) before in
    subst (ShowsNext after) (sym (read_more numeral (Some p) f t ∙ ap (λ o. read numeral o t) is)) (then q shows)

abbrev pub rest : List ℕ → ℕ → List ℕ
rest piece i = take (length piece - i) (drop i piece)

pub rest_is : (piece : List ℕ) (i : ℕ) → rest piece i ≡ drop i piece
rest_is piece i = ap (λ n. take n (drop i piece)) (sym (length-drop i piece)) ∙ take-length (drop i piece)

pub length_rest : (piece : List ℕ) (i : ℕ) → length (rest piece i) ≡ length piece - i
length_rest piece i = ap length (rest_is piece i) ∙ length-drop i piece

module _ (numeral : Numeral) (piece : List ℕ) (i : ℕ) (p : Progress) (now : Reached) (after : Option Reached)
    (before : ShowsNext (Some now) (read numeral (Some p) (take i piece))) where
  -- with one byte more
  pub byte_read : i < length piece → ((q : Progress) → Shows now q → ShowsNext after (advance numeral q (slice_index_or piece i 0)))
      → ShowsNext after (read numeral (Some p) (take (i + 1) piece))
  byte_read below then =
      let b = slice_index_or piece i 0 in
      subst (λ t. ShowsNext after (read numeral (Some p) t)) (one_more [] piece i 0 below)
      (behind numeral p (take i piece) (b ∷ []) now after before (λ q shows. subst (ShowsNext after)
      (sym (read_nothing numeral (advance numeral q b))) (then q shows)))

  -- with k bytes of the rest, which is `&piece[i..]`
  pub bytes_read : (k : ℕ) → ((q : Progress) → Shows now q → ShowsNext after (read numeral (Some q) (take k (rest piece i))))
      → ShowsNext after (read numeral (Some p) (take (i + k) piece))
  bytes_read k then =
      subst (λ t. ShowsNext after (read numeral (Some p) t))
      (ap (λ t. take i piece ++ take k t) (rest_is piece i) ∙ sym (take-add i k piece))
      (behind numeral p (take i piece) (take k (rest piece i)) now after before then)

-- the decimal digits
pub decimal_value : (b : ℕ) → 48 ≤ b → b ≤ 57 → digit_value b ≡ b - 48
decimal_value b low high = grind (arith, nat_tests, low, high)

-- another byte has no value as one
pub no_decimal : (b : ℕ) → is_ascii_digit b ≡ false → 10 ≤ digit_value b
no_decimal b h = grind (arith, nat_tests, h)

-- with one decimal digit more
pub decimal_read : (numeral : Numeral) (sign : Bool) (piece : List ℕ) (i before value digit : ℕ) → i < length piece
    → digit_value (slice_index_or piece i 0) < 10 → digit ≡ digit_value (slice_index_or piece i 0)
    → read numeral (Some (Digits sign 10 before)) (take i piece) ≡ Some (Digits sign 10 value)
    → read numeral (Some (Digits sign 10 before)) (take (i + 1) piece) ≡ Some (Digits sign 10 (value * 10 + digit))
decimal_read numeral sign piece i before value digit below is_digit same is =
    let b = slice_index_or piece i 0 in
    subst (λ t. read numeral (Some (Digits sign 10 before)) t ≡ Some (Digits sign 10 (value * 10 + digit))) (one_more [] piece i 0 below)
    (read_more numeral (Some (Digits sign 10 before)) (take i piece) (b ∷ [])
    ∙ ap (λ o. read numeral o (b ∷ [])) is
    ∙ read_nothing numeral (with_digit sign 10 value b)
    ∙ by_lt (digit_value b) 10 (λ v. cond v (Some (Digits sign 10 (value * 10 + digit_value b))) None
    ≡ Some (Digits sign 10 (value * 10 + digit_value b)))
    (λ _. refl) (λ above. absurd (omega (arith, is_digit, above)))
    ∙ ap (λ d. Some (Digits sign 10 (value * 10 + d))) (sym same))

module _ (numeral : Numeral) (before : Reached) (f t : List ℕ) (h : HasRead (reading.Integer numeral before) f) where
  -- the bytes f and t of an integer
  pub integer_read : (after : Reached) → ((p : Progress) → Shows before p → ShowsNext (Some after) (read numeral (Some p) t))
      → ReadsNext (reading.Integer numeral before) (Some (reading.Integer numeral after)) (f ++ t)
  integer_read after then =
      let (q, is, shows) = shows_some after (read numeral (Some h.0) t) (then h.0 h.1) in
      (refl, (q, shows, read_more numeral (Some Start) f t ∙ ap (λ o. read numeral o t) h.2 ∙ is))

  pub integer_ends : ((p : Progress) → Shows before p → ShowsNext None (read numeral (Some p) t))
      → ReadsNext (reading.Integer numeral before) None (f ++ t)
  integer_ends then = λ width.
      ap is_some (read_more numeral (Some Start) f t ∙ ap (λ o. read numeral o t) h.2
      ∙ shows_none (read numeral (Some h.0) t) (then h.0 h.1))
