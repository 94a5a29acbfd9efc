-- The first digits of a number, with one more; numbers that are counted up to a bound.
use Rattle.std.proofs.Common.{◌≡◌, ℕ, zero, suc, ◌+◌, ◌-◌, ◌*◌, ◌^◌, ◌<◌, ◌≤◌, Bool, true, false, List, [], ◌∷◌, length, take, drop, get_or}
use Rattle.std.proofs.Common.{if◌then◌else◌, refl, sym, ap, ◌∙◌, inl, inr, arith, lt-ltb, le-ltb, add-one}
use Rattle.std.proofs.Math.Seq.{drop-cons, take-suc}
use Rattle.std.proofs.lemmas.Nat.{pow-add}
use Rattle.std.proofs.lemmas.Int.Digits.{digits_value_push}
use Rattle.std.specs.Prelude.{◌==◌}
use Rattle.std.specs.Char.{is_ascii_digit, is_ascii_hexdigit, digit_value}
use Rattle.std.specs.Str.Parse.{digits_value}
use mir.Val.{bool_byte}
use Rattle.sf_float.proofs.Limbs.{power_pos}
use Rattle.sf_float_read.specs.item.Sequences.{AllDecimal}
use Rattle.sf_float_read.specs.value.Hexadecimals.{IsFront, IsCapped, digits_read}

-- ---- a digit that is not kept

one_more : (cut : ℕ) → 16 ^ (cut + 1) ≡ 16 ^ cut * 16
one_more cut = pow-add 16 cut 1

pub skipped_zero : (v m cut : ℕ) (lost : Bool) → 2 ^ 56 ≤ m → IsFront v m cut lost → IsFront (v * 16 + 0) m (cut + 1) lost
skipped_zero v m cut true h f =
    let q = f.quotient in
    record {
      quotient = (
        q.0 * 16,
        (omega (arith, q.1, one_more cut, ap (λ k. m * k) (one_more cut))),
        (omega (arith, q.2)),
        (omega (arith, q.3, one_more cut)),
      );
      few = f.few;
      long = λ _. h;
      known = λ _. omega arith;
    }
skipped_zero v m cut false h f =
    record {
      quotient = omega (arith, f.quotient, ap (λ k. m * k) (one_more cut));
      few = f.few;
      long = λ _. h;
      known = λ _. omega arith;
    }

pub skipped_more : (v m cut d : ℕ) (lost : Bool) → 2 ^ 56 ≤ m → 0 < d → d < 16 → IsFront v m cut lost
    → IsFront (v * 16 + d) m (cut + 1) true
skipped_more v m cut d true h s l f =
    let q = f.quotient in
    record {
      quotient = (q.0 * 16 + d, (omega (arith, q.1, ap (λ k. m * k) (one_more cut))), (omega arith), (omega (arith, q.3, one_more cut)));
      few = f.few;
      long = λ _. h;
      known = λ _. omega arith;
    }
skipped_more v m cut d false h s l f =
    record {
      quotient = (d, (omega (arith, f.quotient, ap (λ k. m * k) (one_more cut))), s, (omega (arith, one_more cut, pow_some cut)));
      few = f.few;
      long = λ _. h;
      known = λ _. omega arith;
    }
  where
    pow_some : (k : ℕ) → 0 < 16 ^ k
    pow_some k = power_pos 16 k (omega arith)

-- ---- a byte of the text

pub at_digit : (text : List ℕ) (at v p : ℕ) (after : Bool) → at < length text → is_ascii_hexdigit (get_or text at 0) ≡ true
    → digits_read v p after (drop at text) ≡ digits_read (v * 16 + digit_value (get_or text at 0)) (if after then suc p else p) after
    (drop (at + 1) text)
at_digit text at v p after l h =
    ap (digits_read v p after) (drop-cons text at 0 l)
    ∙ ap (λ k. if k then digits_read (v * 16 + digit_value (get_or text at 0)) (if after then suc p else p) after (drop (suc at) text) else
    (if get_or text at 0 == 46 then digits_read v p true (drop (suc at) text) else (v, p, get_or text at 0 ∷ drop (suc at) text))) h
    ∙ ap (λ k. digits_read (v * 16 + digit_value (get_or text at 0)) (if after then suc p else p) after (drop k text)) (sym (add-one at))

pub at_point : (text : List ℕ) (at v p : ℕ) (after : Bool) → at < length text → get_or text at 0 ≡ 46
    → digits_read v p after (drop at text) ≡ digits_read v p true (drop (at + 1) text)
at_point text at v p after l e =
    ap (digits_read v p after) (drop-cons text at 0 l)
    ∙ ap (λ b. digits_read v p after (b ∷ drop (suc at) text)) e
    ∙ ap (λ k. digits_read v p true (drop k text)) (sym (add-one at))

-- ---- decimal digits, counted up to a bound

pub digit_at : (t : List ℕ) (i : ℕ) → AllDecimal t → i < length t → is_ascii_digit (get_or t i 0) ≡ true
digit_at [] i h l = absurd (omega arith)
digit_at (b ∷ t) zero h l = h.0
digit_at (b ∷ t) (suc i) h l = digit_at t i h.1 (omega arith)

pub digit_from : (b : ℕ) → is_ascii_digit b ≡ true → 48 ≤ b
digit_from b h = grind arith

pub digit_below : (b : ℕ) → is_ascii_digit b ≡ true → b < 58
digit_below b h = grind arith

pub digit_is : (b : ℕ) → is_ascii_digit b ≡ true → digit_value b ≡ b - 48
digit_is b h = rw (le-ltb b 48 (digit_from b h), lt-ltb b 58 (digit_below b h)) refl

pub counted : (v r d : ℕ) → d < 10 → r < 2 ^ 100 → IsCapped v r → IsCapped (v * 10 + d) (r * 10 + d)
counted v r d l h c =
    record {
      either = elim c.either [ inl e ↦ inl (omega (arith, e)) | inr b ↦ absurd (omega (arith, b.1)) ];
      most = omega arith;
    }

pub full : (v r d : ℕ) → 2 ^ 100 ≤ r → IsCapped v r → IsCapped (v * 10 + d) r
full v r d h c =
    record {
      either = elim c.either [ inl e ↦ inr (omega (arith, e), h) | inr b ↦ inr (omega (arith, b.0), h) ];
      most = c.most;
    }

pub value_more : (t : List ℕ) (i : ℕ) → AllDecimal t → i < length t
    → digits_value 10 (take i t) * 10 + (get_or t i 0 - 48) ≡ digits_value 10 (take (i + 1) t)
value_more t i h l =
    let b = get_or t i 0 in
    ap (λ k. digits_value 10 (take i t) * 10 + k) (sym (digit_is b (digit_at t i h l)))
    ∙ sym (digits_value_push 10 (take i t) b)
    ∙ ap (digits_value 10) (sym (take-suc t i 0 l))
    ∙ ap (λ k. digits_value 10 (take k t)) (sym (add-one i))

-- one place more after the point
pub one_place : (p : ℕ) (after : Bool) → (if after then suc p else p) ≡ p + bool_byte after
one_place p true = omega arith
one_place p false = omega arith

pub one_at_most : (after : Bool) → bool_byte after ≤ 1
one_at_most true = omega arith
one_at_most false = omega arith
