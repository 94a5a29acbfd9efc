-- Records that are written in place where they are short.
use Rattle.std.proofs.Common.{◌≡◌, ℕ, zero, suc, ◌+◌, ◌-◌, ◌<◌, ◌≤◌, true, List, [], ◌∷◌, ◌++◌, map, length, take, Option, Some}
use Rattle.std.proofs.Common.{IfSome, sym, ap, subst, arith, length-append}
use Rattle.std.proofs.lemmas.List.{length-take-le}
use Rattle.std.specs.List.{join_with_byte, list_all, range_with_len}
use Rattle.std.specs.Option.{option_map_or}
use Rattle.sf_base.specs.Data.{Datum, Bytes}
use Rattle.sf_forms.specs.declared.form.OutputForm.{OutputForm}
use Rattle.sf_forms.specs.declared.form.OutputForm.TheVariants.{Plain, Tsv, Json, Csv}
use Rattle.sf_forms.specs.Forms.{missing_text, closing, filler, framed, opening, separator, value_text}
use Rattle.sf_forms.specs.JsonStrings.{json_string}
use Rattle.sf_forms.specs.Quotes.{is_plain, quoted}
use Rattle.sf_forms.proofs.Joining.{next_joined, opened, texts_more}
use Rattle.sf_forms.proofs.JsonWriting.{whole_plain}
use Rattle.sf_forms.proofs.Short.{front_of_all, plain_all}

-- ---- a text

pub text_room : (form : OutputForm) (given : Option Datum) (text : List ℕ) (at room : ℕ) → Some (Bytes text) ≡ given
    → at + length (option_map_or (value_text form) given (missing_text form)) + 21 ≤ room
    → at + length (value_text form (Bytes text)) + 21 ≤ room
text_room form given text at room is fits =
    subst (λ (d : Option Datum). at + length (option_map_or (value_text form) d (missing_text form)) + 21 ≤ room) (sym is) fits

-- what was written, by another name
pub written_as : (r : Option ℕ) (buf new text same : List ℕ) (at : ℕ) → text ≡ same
    → IfSome r (λ end. take end new ≡ take at buf ++ text) → IfSome r (λ end. take end new ≡ take at buf ++ same)
written_as r buf new text same at e written = subst (λ (t : List ℕ). IfSome r (λ end. take end new ≡ take at buf ++ t)) e written

-- a plain text stands as it is
pub plain_quotes : (text : List ℕ) → list_all is_plain text ≡ true → 34 ∷ (text ++ 34 ∷ []) ≡ quoted text
plain_quotes text e = ap (λ (t : List ℕ). 34 ∷ (t ++ 34 ∷ [])) (sym (plain_all text e))

pub plain_string : (text : List ℕ) → list_all is_plain text ≡ true → 34 ∷ (text ++ 34 ∷ []) ≡ json_string text
plain_string text e = ap (λ (t : List ℕ). 34 ∷ (t ++ 34 ∷ [])) (sym (whole_plain text (front_of_all text e)))

pub around : (text : List ℕ) → length (34 ∷ (text ++ 34 ∷ [])) ≡ length text + 2
around text = omega (arith, length-append text (34 ∷ []))

-- ---- texts that are joined

module _ (sep : ℕ) (f : ℕ → List ℕ) where
  abbrev joined : ℕ → List ℕ
  joined k = join_with_byte sep (map f (range_with_len 1 k))

  step : (k : ℕ) → length (joined k) ≤ length (joined (k + 1))
  step zero = omega arith
  step (suc k) = omega (arith, ap length (texts_more sep f (suc k) (omega arith)), length-append (joined (suc k)) (sep ∷ f (suc k + 1)))

  -- more of them are no shorter
  longer : (k d : ℕ) → length (joined k) ≤ length (joined (k + d))
  longer k zero = subst (λ (n : ℕ). length (joined k) ≤ length (joined n)) {x = k} {y = k + 0} (omega arith) (omega arith)
  longer k (suc d) =
      let more : length (joined k) ≤ length (joined (k + d + 1)) = omega (arith, longer k d, step (k + d)) in
      subst (λ (n : ℕ). length (joined k) ≤ length (joined n)) {x = k + d + 1} {y = k + suc d} (omega arith) more

  no_longer : (k n : ℕ) → k ≤ n → length (joined k) ≤ length (joined n)
  no_longer k n le = subst (λ (m : ℕ). length (joined k) ≤ length (joined m)) {x = k + (n - k)} {y = n} (omega (arith, le))
      (longer k (n - k))

  -- what the next text leaves of the room
  next_long : (k : ℕ) → length (joined (k + 1)) ≡ length (opened sep f k) + length (f (k + 1))
  next_long k = omega (arith, ap length (next_joined sep f k), length-append (opened sep f k) (f (k + 1)))

  module _ (n k at next : ℕ) (old buf : List ℕ) (few : k < n) (low : at ≤ length old) (within : next ≤ length buf)
      (written : take next buf ≡ take at old ++ opened sep f k) (short : at + length (joined n) + 22 ≤ length buf) where
    -- the next text begins there
    next_is : next ≡ at + length (opened sep f k)
    next_is = omega (
      arith,
      length-take-le next buf within,
      ap length written,
      length-append (take at old) (opened sep f k),
      length-take-le at old low,
    )

    module _ (head value : List ℕ) (parts : f (k + 1) ≡ head ++ value) where
      -- how long both are
      both : length (f (k + 1)) ≡ length head + length value
      both = omega (arith, ap length parts, length-append head value)

      -- there is room for its head, and for a number and a separator
      pub room_head : next + length head + 22 ≤ length buf
      room_head = omega (arith, next_is, next_long k, both, no_longer (k + 1) n (omega (arith, few)), short)

      -- and for what stands after the head
      pub room_value : (start : ℕ) → start ≡ next + length head → start + length value + 21 ≤ length buf
      room_value start is = omega (arith, is, next_is, next_long k, both, no_longer (k + 1) n (omega (arith, few)), short)

-- ---- a record

pub closing_some : (form : OutputForm) → 1 ≤ length (closing form)
closing_some Plain = omega arith
closing_some Tsv = omega arith
closing_some Json = omega arith
closing_some Csv = omega arith

-- its length, by those of its parts
pub record_length : (form : OutputForm) (texts : List (List ℕ)) → length (framed form texts)
    ≡ length (opening form) + length (join_with_byte (separator form) texts) + length (filler form texts) + length (closing form)
record_length form texts =
    let values : List ℕ = join_with_byte (separator form) texts in
    omega (
      arith,
      length-append (opening form) (values ++ (filler form texts ++ closing form)),
      length-append values (filler form texts ++ closing form),
      length-append (filler form texts) (closing form),
    )
