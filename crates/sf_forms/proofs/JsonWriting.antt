-- What stands for bytes in a string of JSON, byte by byte.
use Rattle.std.proofs.Common.{◌≡◌, ℕ, zero, suc, ◌+◌, ◌-◌, ◌<◌, ◌≤◌, nat_eq, cond, List, [], ◌∷◌, ◌++◌, length, take, drop, append_assoc}
use Rattle.std.proofs.Common.{refl, sym, ap, subst, ◌∙◌, arith}
use Rattle.std.proofs.lemmas.Bool.{ne_eqb}
use Rattle.std.proofs.lemmas.List.{append-nil, drop-drop, take_all, length-append, length-take, length-drop}
use Rattle.std.proofs.lemmas.Str.{IsUtf8-append, IsUtf8-encode, IsUtf8-nil, encode_ascii, utf8_valid_len-IsUtf8}
use Rattle.std.proofs.Math.Seq.{take-length, drop-length}
use Rattle.std.specs.List.{AllByRecursion, flat_map, prefix_len, slice_range}
use Rattle.std.specs.Str.{IsUtf8}
use Rattle.std.specs.Str.Lossy.{utf8_valid_len}
use lib.Utf8.{low_scalar}
use Rattle.sf_forms.specs.JsonStrings.{json_escaped, json_from, json_string, stray}
use Rattle.sf_forms.specs.Quotes.{is_plain}
use Rattle.sf_forms.proofs.Escaping.{all_plain, json_keeps, plain_text}

-- the bytes that are known to be UTF-8 are kept, one by one
pub known_front : (n : ℕ) (xs : List ℕ) → n ≤ length xs → json_from n xs ≡ flat_map json_escaped (take n xs) ++ json_from 0 (drop n xs)
known_front zero xs few = refl
known_front (suc n) [] few = absurd (omega (arith, few))
known_front (suc n) (x ∷ xs) few =
    ap (λ (t : List ℕ). json_escaped x ++ t) (known_front n xs (omega (arith, few)))
    ∙ sym (append_assoc (json_escaped x) (flat_map json_escaped (take n xs)) (json_from 0 (drop n xs)))

-- so is the longest front that is
pub longest_kept : (xs : List ℕ) → utf8_valid_len xs ≤ length xs → (utf8_valid_len xs ≡ 0 → ⊥)
    → json_from 0 xs ≡ flat_map json_escaped (take (utf8_valid_len xs) xs) ++ json_from 0 (drop (utf8_valid_len xs) xs)
longest_kept [] few some = absurd (some (omega (arith, few)))
longest_kept (x ∷ xs) few some = go (utf8_valid_len (x ∷ xs)) some ∙ known_front (utf8_valid_len (x ∷ xs)) (x ∷ xs) few
  where
    go : (v : ℕ) → (v ≡ 0 → ⊥) → cond (nat_eq v 0) (stray x ++ json_from 0 xs) (json_escaped x ++ json_from (v - 1) xs) ≡ json_from v
        (x ∷ xs)
    go zero none = absurd (none refl)
    go (suc v) none =
        rw (ne_eqb (suc v) 0 none) (ap (λ (k : ℕ). json_escaped x ++ json_from k xs) {x = suc v - 1} {y = v} (omega arith))

-- ---- the loop: what is left to be written is the same when the front has been

rest_of : (xs : List ℕ) (d : ℕ) → d ≤ length xs → slice_range xs d (length xs) ≡ drop d xs
rest_of xs d within = take_all (length xs - d) (drop d xs) (omega (arith, within, length-drop d xs))

pub kept_written : (xs out new : List ℕ) (d k : ℕ) → d < length xs → k ≡ utf8_valid_len (slice_range xs d (length xs))
    → k ≤ length (slice_range xs d (length xs)) → (k ≡ 0 → ⊥)
    → new ≡ out ++ flat_map json_escaped (slice_range xs d (d + k)) → new ++ json_from 0 (drop (d + k) xs) ≡ out ++ json_from 0 (drop d xs)
kept_written xs out new d k within count few some e =
    let all : slice_range xs d (length xs) ≡ drop d xs = rest_of xs d (omega (arith, within)) in
    let n : k ≡ utf8_valid_len (drop d xs) = count ∙ ap utf8_valid_len all in
    let front : slice_range xs d (d + k) ≡ take k (drop d xs) = ap (λ (k : ℕ). take k (drop d xs)) {x = d + k - d} {y = k} (omega arith) in
    let rest : drop (d + k) xs ≡ drop k (drop d xs) = sym (drop-drop k d xs) in
    let fits : utf8_valid_len (drop d xs) ≤ length (drop d xs) = omega (arith, few, ap length all, n) in
    let kept : json_from 0 (drop d xs) ≡ flat_map json_escaped (take k (drop d xs)) ++ json_from 0 (drop k (drop d xs)) =
    rw n (longest_kept (drop d xs) fits (λ none. some (n ∙ none))) in
    rw (e, front, rest, kept) (append_assoc out (flat_map json_escaped (take k (drop d xs))) (json_from 0 (drop k (drop d xs))))

-- they are no more than all that is left
pub kept_length : (xs : List ℕ) (d k : ℕ) → d < length xs → k ≡ utf8_valid_len (slice_range xs d (length xs))
    → k ≤ length (slice_range xs d (length xs)) → (k ≡ 0 → ⊥)
    → length (flat_map json_escaped (slice_range xs d (d + k))) ≤ length (json_from 0 (drop d xs))
kept_length xs d k within count few some =
    let part : List ℕ = flat_map json_escaped (slice_range xs d (d + k)) in
    let rest : List ℕ = json_from 0 (drop (d + k) xs) in
    omega (arith, ap length (kept_written xs [] part d k within count few some refl), length-append part rest)

-- how far the loop has come
pub kept_within : (xs : List ℕ) (d k : ℕ) → d < length xs → k ≤ length (slice_range xs d (length xs)) → d + k ≤ length xs
kept_within xs d k within few = omega (arith, within, few, length-drop d xs, length-take (length xs - d) (drop d xs))

-- ---- whole strings

-- a text that is UTF-8 as a whole
pub whole_kept : (xs : List ℕ) → IsUtf8 xs → json_from 0 xs ≡ flat_map json_escaped xs
whole_kept [] is = refl
whole_kept (x ∷ xs) is =
    let v : utf8_valid_len (x ∷ xs) ≡ length (x ∷ xs) = utf8_valid_len-IsUtf8 (x ∷ xs) is in
    let kept = longest_kept (x ∷ xs) (omega (arith, v)) (λ none. omega (arith, none, v)) in
    let all : take (utf8_valid_len (x ∷ xs)) (x ∷ xs) ≡ x ∷ xs = rw v (take-length (x ∷ xs)) in
    let rest : drop (utf8_valid_len (x ∷ xs)) (x ∷ xs) ≡ [] = rw v (drop-length (x ∷ xs)) in
    kept ∙ rw (all, rest) (append-nil (flat_map json_escaped (x ∷ xs)))

-- ASCII is UTF-8
pub ascii_byte : (b : ℕ) → b < 128 → IsUtf8 (b ∷ [])
ascii_byte b few = subst IsUtf8 (encode_ascii b few) (IsUtf8-encode b (low_scalar b (omega (arith, few))))

pub ascii_utf8 : (xs : List ℕ) → AllByRecursion (λ b. b < 128) xs → IsUtf8 xs
ascii_utf8 [] all = IsUtf8-nil
ascii_utf8 (x ∷ xs) all = IsUtf8-append (x ∷ []) xs (ascii_byte x all.0) (ascii_utf8 xs all.1)

-- a plain text stands as it is
pub whole_plain : (xs : List ℕ) → prefix_len is_plain xs ≡ length xs → json_from 0 xs ≡ xs
whole_plain xs e = whole_kept xs (ascii_utf8 xs (all_plain xs e)) ∙ plain_text json_escaped json_keeps xs e

-- a string with its quotes
pub string_is : (out begun written new xs text : List ℕ) → begun ≡ out ++ 34 ∷ [] → written ≡ begun ++ text → text ≡ json_from 0 xs
    → new ≡ written ++ 34 ∷ [] → new ≡ out ++ json_string xs
string_is out begun written new xs text first middle is last =
    rw (last, middle, first, ← is) (append_assoc (out ++ 34 ∷ []) text (34 ∷ []) ∙ append_assoc out (34 ∷ []) (text ++ 34 ∷ []))
