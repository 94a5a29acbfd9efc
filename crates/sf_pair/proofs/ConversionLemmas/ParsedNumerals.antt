-- What a decimal numeral is read as, with an exponent of either case and any sign.
use Rattle.std.proofs.Common.{◌≡◌, inl, inr, ℕ, suc, ◌+◌, ◌-◌, ◌<◌, Bool, true, false, cond, eqb, ◌&&◌, ◌||◌, List, [], ◌∷◌, ◌++◌, length}
use Rattle.std.proofs.Common.{get_or, slice_range, Some, refl, sym, subst, arith, add-zero, append-nil, append_assoc, length-append}
use Rattle.std.proofs.Common.{drop_at, take_at, lt-ltb, ne_eqb}
use Rattle.std.proofs.lemmas.Bool.{eq-eqb, eqb-true}
use Rattle.std.proofs.lemmas.Str.Parse.{digit_from_value}
use Rattle.std.proofs.lemmas.Bool.Decides.{nat_tests}
use Rattle.std.specs.Char.{digit_value, is_ascii_digit}
use Rattle.std.specs.Str.Parse.{AllDigits}
use Rattle.std.specs.Float.Ieee.{Format}
use Rattle.std.specs.Float.Numeral.{Parts, digits_len, digits_end, exponent_start, has_exponent, scan_numeral, nearest_float}
use Rattle.std.specs.Float.Parse.{read_float, parse_float}
use Rattle.sf_float_read.specs.item.Parts.{IsSign}
use Rattle.sf_float_read.specs.value.Values.{is_minus}
use lib.Seq.{get_or-append-add}

abbrev pub made : List ℕ → Bool → List ℕ → Bool → List ℕ → ℕ → Parts
made whole point fraction negative exponent len =
    record { whole = whole; point = point; fraction = fraction; exponent_negative = negative; exponent = exponent; len = len }

pub digit_is : (d : ℕ) → digit_value d < 10 → is_ascii_digit d ≡ true
digit_is d h = let r = digit_from_value d h in grind (arith, nat_tests)

digits_len-append : (ds rest : List ℕ) → AllDigits 10 ds → digits_len (ds ++ rest) ≡ length ds + digits_len rest
digits_len-append [] rest h = omega arith
digits_len-append (d ∷ ds) rest h = rw (digit_is d h.0) (omega (arith, digits_len-append ds rest h.1))

module _ (front ds rest : List ℕ) (i : ℕ) (at : length front ≡ i) (digits : AllDigits 10 ds) (ends : digits_len rest ≡ 0) where
  run_end : digits_end (front ++ (ds ++ rest)) i ≡ i + length ds
  run_end = rw (drop_at front _ i at, digits_len-append ds rest digits, ends, add-zero)

  run_is : slice_range (front ++ (ds ++ rest)) i (i + length ds) ≡ ds
  run_is = rw (drop_at front _ i at) (take_at ds rest (i + length ds - i) (omega arith))

byte_after : (front rest : List ℕ) (i k : ℕ) → length front ≡ i → get_or (front ++ rest) (i + k) 0 ≡ get_or rest k 0
byte_after front rest i k e = rw (← e) (get_or-append-add front rest k 0)

byte_at_end : (front rest : List ℕ) (i : ℕ) → length front ≡ i → get_or (front ++ rest) i 0 ≡ get_or rest 0 0
byte_at_end front rest i e = rw add-zero at (byte_after front rest i 0 e)

abbrev Tail : List ℕ → ℕ → Bool → List ℕ → Type 0
Tail bs b negative exponent =
    ((has_exponent bs b && eqb (get_or bs (b + 1) 0) 45) ≡ negative)
    × (cond (has_exponent bs b) (slice_range bs (exponent_start bs b) (digits_end bs (exponent_start bs b))) [] ≡ exponent)
    × (cond (has_exponent bs b) (digits_end bs (exponent_start bs b)) b ≡ length bs)

tail_of : (bs : List ℕ) (b c : ℕ) (negative : Bool) (exponent : List ℕ) → has_exponent bs b ≡ true → exponent_start bs b ≡ c
    → eqb (get_or bs (b + 1) 0) 45 ≡ negative → digits_end bs c ≡ c + length exponent
    → slice_range bs c (c + length exponent) ≡ exponent → c + length exponent ≡ length bs → Tail bs b negative exponent
tail_of bs b c negative exponent has start sign end is long = (rw has sign, rw (has, start, end) is, rw (has, start, end) long)

-- an e of either case
abbrev pub is_e : ℕ → Bool
is_e l = eqb l 101 || eqb l 69

-- nothing, or such a letter, a sign or none, and digits
pub data Raised : List ℕ → Bool → List ℕ → Type 0 where
  none : Raised [] false []
  bare : (l d : ℕ) (ds : List ℕ) → is_e l ≡ true → AllDigits 10 (d ∷ ds) → Raised (l ∷ d ∷ ds) false (d ∷ ds)
  up : (l d : ℕ) (ds : List ℕ) → is_e l ≡ true → AllDigits 10 (d ∷ ds) → Raised (l ∷ 43 ∷ d ∷ ds) false (d ∷ ds)
  down : (l d : ℕ) (ds : List ℕ) → is_e l ≡ true → AllDigits 10 (d ∷ ds) → Raised (l ∷ 45 ∷ d ∷ ds) true (d ∷ ds)

tail : (front x : List ℕ) (b : ℕ) (negative : Bool) (exponent : List ℕ) → length front ≡ b → Raised x negative exponent
    → Tail (front ++ x) b negative exponent
tail front x b negative exponent at none =
    let has : has_exponent (front ++ []) b ≡ false = rw (byte_at_end front [] b at) in
    (rw has, rw has, rw (has, append-nil) (sym at))
tail front x b negative exponent at (bare l d ds e digits) =
    let r = digit_from_value d digits.0 in
    let bs = front ++ l ∷ d ∷ ds in
    let next : get_or bs (b + 1) 0 ≡ d = byte_after front _ b 1 at in
    let start : exponent_start bs b ≡ b + 1 = rw (next, ne_eqb d 45 (λ e. omega arith), ne_eqb d 43 (λ e. omega arith)) in
    let cut : (front ++ l ∷ []) ++ ((d ∷ ds) ++ []) ≡ bs = rw (append-nil, append_assoc) in
    let long : length (front ++ l ∷ []) ≡ b + 1 = rw (length-append, at) in
    tail_of bs b (b + 1) false (d ∷ ds) (rw (start, next, byte_at_end front _ b at, e) (digit_is d digits.0)) start
    (rw next (ne_eqb d 45 (λ e. omega arith)))
    (rw cut at (run_end _ (d ∷ ds) [] (b + 1) long digits refl)) (rw cut at (run_is _ (d ∷ ds) [] (b + 1) long digits refl))
    (omega (arith, length-append front (l ∷ d ∷ ds)))
tail front x b negative exponent at (up l d ds e digits) =
    let r = digit_from_value d digits.0 in
    let bs = front ++ l ∷ 43 ∷ d ∷ ds in
    let next : get_or bs (b + 1) 0 ≡ 43 = byte_after front _ b 1 at in
    let start : exponent_start bs b ≡ b + 2 = rw next in
    let cut : (front ++ l ∷ 43 ∷ []) ++ ((d ∷ ds) ++ []) ≡ bs = rw (append-nil, append_assoc) in
    let long : length (front ++ l ∷ 43 ∷ []) ≡ b + 2 = rw (length-append, at) in
    tail_of bs b (b + 2) false (d ∷ ds) (rw (start, byte_after front _ b 2 at, byte_at_end front _ b at, e) (digit_is d digits.0)) start
    (rw next)
    (rw cut at (run_end _ (d ∷ ds) [] (b + 2) long digits refl)) (rw cut at (run_is _ (d ∷ ds) [] (b + 2) long digits refl))
    (omega (arith, length-append front (l ∷ 43 ∷ d ∷ ds)))
tail front x b negative exponent at (down l d ds e digits) =
    let r = digit_from_value d digits.0 in
    let bs = front ++ l ∷ 45 ∷ d ∷ ds in
    let next : get_or bs (b + 1) 0 ≡ 45 = byte_after front _ b 1 at in
    let start : exponent_start bs b ≡ b + 2 = rw next in
    let cut : (front ++ l ∷ 45 ∷ []) ++ ((d ∷ ds) ++ []) ≡ bs = rw (append-nil, append_assoc) in
    let long : length (front ++ l ∷ 45 ∷ []) ≡ b + 2 = rw (length-append, at) in
    tail_of bs b (b + 2) true (d ∷ ds) (rw (start, byte_after front _ b 2 at, byte_at_end front _ b at, e) (digit_is d digits.0)) start
    (rw next)
    (rw cut at (run_end _ (d ∷ ds) [] (b + 2) long digits refl)) (rw cut at (run_is _ (d ∷ ds) [] (b + 2) long digits refl))
    (omega (arith, length-append front (l ∷ 45 ∷ d ∷ ds)))

-- it begins with no digit and no point
e_first : (l : ℕ) (xs : List ℕ) → is_e l ≡ true → (digits_len (l ∷ xs) ≡ 0) × (eqb l 46 ≡ false)
e_first l xs e = by (eqb l 101) refl
  where
    at : (k : ℕ) → l ≡ k → (digits_len (k ∷ xs) ≡ 0) → (eqb k 46 ≡ false) → (digits_len (l ∷ xs) ≡ 0) × (eqb l 46 ≡ false)
    at k is d p = subst (λ (j : ℕ). (digits_len (j ∷ xs) ≡ 0) × (eqb j 46 ≡ false)) (sym is) (d, p)

    by : (t : Bool) → eqb l 101 ≡ t → (digits_len (l ∷ xs) ≡ 0) × (eqb l 46 ≡ false)
    by true is = at 101 (eqb-true l 101 is) refl refl
    by false is = at 69 (eqb-true l 69 (rw is at e)) refl refl

raised_ends : (x : List ℕ) (negative : Bool) (exponent : List ℕ) → Raised x negative exponent
    → (digits_len x ≡ 0) × (eqb (get_or x 0 0) 46 ≡ false)
raised_ends x negative exponent none = (refl, refl)
raised_ends x negative exponent (bare l d ds e digits) = e_first l (d ∷ ds) e
raised_ends x negative exponent (up l d ds e digits) = e_first l (43 ∷ d ∷ ds) e
raised_ends x negative exponent (down l d ds e digits) = e_first l (45 ∷ d ∷ ds) e

scan_is : (bs whole fraction exponent : List ℕ) (point negative : Bool) (a b : ℕ) → digits_end bs 0 ≡ a → eqb (get_or bs a 0) 46 ≡ point
    → cond point (digits_end bs (a + 1)) a ≡ b → slice_range bs 0 a ≡ whole → cond point (slice_range bs (a + 1) b) [] ≡ fraction
    → Tail bs b negative exponent
    → scan_numeral bs ≡ made whole point fraction negative exponent (length bs)
unfolding scan_numeral
scan_is bs whole fraction exponent point negative a b ea ep eb ew ef t =
    rw (ea, ep, eb) (λ i. made (ew i) point (ef i) (t.0 i) (t.1 i) (t.2 i))

-- the text of a numeral
abbrev pub written : List ℕ → Bool → List ℕ → List ℕ → List ℕ
written whole point fraction x = whole ++ (cond point (46 ∷ fraction) [] ++ x)

scanned : (whole fraction x exponent : List ℕ) (point negative : Bool) → AllDigits 10 whole → AllDigits 10 fraction
    → (point ≡ false → fraction ≡ []) → Raised x negative exponent
    → let bs = written whole point fraction x in scan_numeral bs ≡ made whole point fraction negative exponent (length bs)
scanned whole fraction x exponent false negative w f bare_of e =
    let ends = raised_ends x negative exponent e in
    let a = 0 + length whole in
    let at : length whole ≡ a = omega arith in
    scan_is _ whole fraction exponent false negative a a (run_end [] whole x 0 refl w ends.0) (rw (byte_at_end whole x a at) ends.1) refl
    (run_is [] whole x 0 refl w ends.0) (sym (bare_of refl)) (tail whole x a negative exponent at e)
scanned whole fraction x exponent true negative w f bare_of e =
    let ends = raised_ends x negative exponent e in
    let a = 0 + length whole in
    let at : length whole ≡ a = omega arith in
    let cut : (whole ++ 46 ∷ []) ++ (fraction ++ x) ≡ whole ++ 46 ∷ (fraction ++ x) = append_assoc whole (46 ∷ []) _ in
    let long : length (whole ++ 46 ∷ []) ≡ a + 1 = omega (arith, length-append whole (46 ∷ [])) in
    let front : (whole ++ 46 ∷ fraction) ++ x ≡ whole ++ 46 ∷ (fraction ++ x) = append_assoc whole (46 ∷ fraction) x in
    scan_is _ whole fraction exponent true negative a (a + 1 + length fraction) (run_end [] whole _ 0 refl w refl)
    (rw (byte_at_end whole _ a at)) (rw cut at (run_end _ fraction x (a + 1) long f ends.0))
    (run_is [] whole _ 0 refl w refl) (rw cut at (run_is _ fraction x (a + 1) long f ends.0))
    (rw front at (tail (whole ++ 46 ∷ fraction) x (a + 1 + length fraction) negative exponent
    (omega (arith, length-append whole (46 ∷ fraction))) e))

first_digit : (ds rest : List ℕ) → AllDigits 10 ds → 0 < length ds
    → (eqb (get_or (ds ++ rest) 0 0) 45 ≡ false) × (eqb (get_or (ds ++ rest) 0 0) 43 ≡ false)
first_digit [] rest h l = absurd (omega arith)
first_digit (d ∷ ds) rest h l = let r = digit_from_value d h.0 in (ne_eqb d 45 (λ e. omega arith), ne_eqb d 43 (λ e. omega arith))

-- after a sign or none it is read as the float nearest to its number
pub parsed : (f : Format) (sign whole fraction x exponent : List ℕ) (point negative : Bool) → IsSign sign → AllDigits 10 whole
    → AllDigits 10 fraction → 0 < length whole → (point ≡ false → fraction ≡ []) → Raised x negative exponent
    → let bs = written whole point fraction x in
    parse_float f (sign ++ bs) ≡ Some (nearest_float f (is_minus sign) (made whole point fraction negative exponent (length bs)))
unfolding read_float
parsed f sign whole fraction x exponent point negative signed w t some bare_of e =
    elim signed [
      | inl empty ↦
          let first = first_digit whole (cond point (46 ∷ fraction) [] ++ x) w some in
          rw empty (rw (
            first.0,
            first.1,
            scanned whole fraction x exponent point negative w t bare_of e,
            lt-ltb 0 (length whole + length fraction) (omega arith),
            eq-eqb (0 + n) n (omega arith),
          ))
      | inr marked ↦ elim marked [
        | inl plus ↦ rw plus (rw (
          scanned whole fraction x exponent point negative w t bare_of e,
          lt-ltb 0 (length whole + length fraction) (omega arith),
          eq-eqb (1 + n) (suc n) (omega arith),
        ))
        | inr minus ↦ rw minus (rw (
          scanned whole fraction x exponent point negative w t bare_of e,
          lt-ltb 0 (length whole + length fraction) (omega arith),
          eq-eqb (1 + n) (suc n) (omega arith),
        ))
      ]
    ]
  where
    n : ℕ
    n = length (written whole point fraction x)
