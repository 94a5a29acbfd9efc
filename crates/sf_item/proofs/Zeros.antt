-- Digits after zeros, and digits that are the front of a piece.
use Rattle.std.proofs.Common.{◌≡◌, ◌∙◌, ℕ, zero, suc, ◌+◌, ◌-◌, ◌<◌, ◌≤◌, List, [], ◌∷◌, length, take, drop, get_or, Some, refl, sym}
use Rattle.std.proofs.Common.{ap, subst, arith}
use Rattle.std.proofs.Math.Seq.{take-add}
use Rattle.std.proofs.lemmas.List.{drop-take, get_or-drop, get_or-take, length-drop, take-take}
use Rattle.std.specs.Char.{digit_value}
use Rattle.sf_item.specs.Progress.{Digits, with_digit}
use Rattle.sf_item.specs.Tests.{read}
use Rattle.sf_item.specs.Wholes.{DigitsOf, ReadsIn}
use Rattle.sf_item.proofs.Fronts.{read_more}
use Rattle.sf_item.proofs.Readings.{length_rest, rest, rest_is}

-- zeros leave a number as it is that is nothing
pub zeros_read : (bytes : List ℕ) (z : ℕ) → z ≤ length bytes → ((k : ℕ) → k < z → get_or bytes k 0 ≡ 48) → ReadsIn 10 0 (take z bytes) 0
zeros_read bytes zero le are numeral sign = refl
zeros_read [] (suc z) le are numeral sign = absurd (omega (arith, le))
zeros_read (b ∷ bytes) (suc z) le are numeral sign =
    subst (λ c. read numeral (with_digit sign 10 0 c) (take z bytes) ≡ Some (Digits sign 10 0)) (sym (are 0 (omega arith)))
    (zeros_read bytes z (omega (arith, le)) (λ k below. are (suc k) (omega (arith, below))) numeral sign)

-- the digits after zeros have their number
pub behind_zeros : (bytes : List ℕ) (z n number : ℕ) → z ≤ length bytes → ((k : ℕ) → k < z → get_or bytes k 0 ≡ 48)
    → DigitsOf 10 (drop z bytes) n number → DigitsOf 10 bytes (z + n) number
behind_zeros bytes z n number le are own =
    let left : length (drop z bytes) + z ≡ length bytes = omega (arith, length-drop z bytes, le) in
    let within = own.within in
    record {
      within = omega (arith, left, within);
      read = λ numeral sign.
          ap (read numeral (Some (Digits sign 10 0))) (take-add z n bytes)
          ∙ read_more numeral (Some (Digits sign 10 0)) (take z bytes) (take n (drop z bytes))
          ∙ ap (λ o. read numeral o (take n (drop z bytes))) (zeros_read bytes z le are numeral sign)
          ∙ own.read numeral sign;
      stops = λ below. subst (λ d. 10 ≤ digit_value d) (get_or-drop z bytes n 0) (own.stops (omega (arith, left, below)));
    }

-- the digits that are the front of a piece stand in the piece
pub front_at : (digits piece : List ℕ) (n : ℕ) → digits ≡ take (length digits) piece → n < length digits
    → get_or digits n 0 ≡ get_or piece n 0
front_at digits piece n front below = ap (λ l. get_or l n 0) front ∙ get_or-take (length digits) piece n 0 below

-- and are read from it
pub front_read : (radix : ℕ) (digits piece : List ℕ) (n number : ℕ) → digits ≡ take (length digits) piece → n ≤ length digits
    → ReadsIn radix 0 (take n piece) number → ReadsIn radix 0 (take n digits) number
front_read radix digits piece n number front within reads = λ numeral sign.
    let same : take n digits ≡ take n piece = ap (take n) front ∙ take-take n (length digits) piece within in
    ap (read numeral (Some (Digits sign radix 0))) same ∙ reads numeral sign

-- with what stands after them
pub front_digits : (radix : ℕ) (digits piece : List ℕ) (n number : ℕ) → digits ≡ take (length digits) piece → n ≤ length digits
    → ReadsIn radix 0 (take n piece) number
    → (n < length digits → radix ≤ digit_value (get_or digits n 0)) → DigitsOf radix digits n number
front_digits radix digits piece n number front within reads stops = record {
  within = within;
  read = front_read radix digits piece n number front within reads;
  stops = stops;
}

-- what is left of such a front is the front of what is left
pub rest_front : (front piece : List ℕ) (start : ℕ) → front ≡ take (length front) piece → start ≤ length front
    → rest front start ≡ take (length (rest front start)) (rest piece start)
rest_front front piece start is within =
    let k = length front - start in
    let all : length front ≡ start + k = omega (arith, within) in
    rest_is front start
    ∙ ap (drop start) (is ∙ ap (λ n. take n piece) all)
    ∙ drop-take start k piece
    ∙ ap (take k) (sym (rest_is piece start))
    ∙ ap (λ n. take n (rest piece start)) (sym (length_rest front start))
