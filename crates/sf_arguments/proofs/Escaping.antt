-- Words piece by piece: a word stands for one list of bytes, or has one first bad escape.
use Rattle.std.proofs.Common.{◌≡◌, ◌∙◌, ℕ, Bool, true, false, ◌+◌, ◌-◌, ◌<◌, ◌≤◌, ◌*◌, ◌&&◌, ◌⊎◌, inl, inr, cond, nat_eq, nat_lt, ap, arith}
use Rattle.std.proofs.Common.{refl, sym, subst, List, [], ◌∷◌, ◌++◌, length, take, drop, Option, Some, None}
use Rattle.std.proofs.lemmas.List.{drop-drop, length-drop, take_all}
use Rattle.std.proofs.lemmas.Bool.{cases_order}
use Rattle.std.specs.Char.{digit_value}
use Rattle.sf_arguments.specs.declared.escape.Piece.{Piece}
use Rattle.sf_arguments.specs.Escapes.{IsBadEscape, Stands, Unescapes, escape_behind, hex_behind, letter_byte, letter_piece, piece_of}

pub one_more_piece : (bytes word : List ℕ) (at b size : ℕ) → Stands word at bytes
    → piece_of (drop at word) ≡ Some (record { byte = b; size = size })
    → Stands word (at + size) (bytes ++ b ∷ [])
one_more_piece [] word at b size none is =
    let front : piece_of word ≡ Some (record { byte = b; size = size }) =
    subst (λ n. piece_of (drop n word) ≡ Some (record { byte = b; size = size })) none is in
    (size, 0, front, omega (arith, none), refl)
one_more_piece (c ∷ bytes) word at b size stands is =
    let rest = stands.1 in
    let same : drop at word ≡ drop rest (drop stands.0 word) = ap (λ n. drop n word) stands.3 ∙ sym (drop-drop rest stands.0 word) in
    let next : piece_of (drop rest (drop stands.0 word)) ≡ Some (record { byte = b; size = size }) =
    subst (λ left. piece_of left ≡ Some (record { byte = b; size = size })) same is in
    (stands.0, rest + size, stands.2, omega (arith, stands.3), one_more_piece bytes (drop stands.0 word) rest b size stands.4 next)

-- what was found at the front of the rest
pub front_of : (word : List ℕ) (at : ℕ) (found : Option Piece) (piece : Piece) → found ≡ piece_of (take (length word - at) (drop at word))
    → found ≡ Some piece
    → piece_of (drop at word) ≡ Some piece
front_of word at found piece is some = ap piece_of (sym (take_all (length word - at) (drop at word) (omega (arith, length-drop at word))))
    ∙ sym is ∙ some

pub none_of : (word : List ℕ) (at : ℕ) (found : Option Piece) → found ≡ piece_of (take (length word - at) (drop at word)) → found ≡ None
    → piece_of (drop at word) ≡ None
none_of word at found is none = ap piece_of (sym (take_all (length word - at) (drop at word) (omega (arith, length-drop at word))))
    ∙ sym is ∙ none

-- the same front has the same piece
same_piece : (o : Option Piece) (b size c more : ℕ) → o ≡ Some (record { byte = b; size = size })
    → o ≡ Some (record { byte = c; size = more }) → (b ≡ c) × (size ≡ more)
same_piece o b size c more is too =
    let e : record { byte = b; size = size } ≡ record { byte = c; size = more } = cc in
    (ap (λ (p : Piece). p.byte) e, ap (λ (p : Piece). p.size) e)

-- pieces that reach less far end before a piece that is there
pub no_end_within : {A : Type 0} (xs ys word : List ℕ) (a n : ℕ) → Stands word a xs → Stands word n ys → a < n
    → piece_of (drop a word) ≡ None → A
no_end_within xs [] word a n some none less ends = absurd (omega (arith, none))
no_end_within [] (y ∷ ys) word a n none (size, rest, is, sum, more) less ends =
    let at : piece_of word ≡ None = subst (λ m. piece_of (drop m word) ≡ None) none ends in absurd (cc)
no_end_within (x ∷ xs) (y ∷ ys) word a n (size, rest, is, sum, more) (long, left, too, total, further) less ends =
    let same = (same_piece (piece_of word) x size y long is too).1 in
    let there : drop a word ≡ drop rest (drop size word) = ap (λ m. drop m word) sum ∙ sym (drop-drop rest size word) in
    no_end_within xs ys (drop size word) rest left more (subst (λ m. Stands (drop m word) left ys) (sym same) further)
    (omega (arith, sum, total, same))
    (subst (λ w. piece_of w ≡ None) there ends)

-- a word that stands for bytes has no bad escape
pub bad_or_good : {A : Type 0} (word bytes : List ℕ) (at : ℕ) → IsBadEscape word at → Unescapes word bytes → A
bad_or_good word bytes at (within, ends, (before, stands)) good = no_end_within before bytes word at (length word) stands good within ends

pub one_bad_escape : (word : List ℕ) (a b : ℕ) → IsBadEscape word a → IsBadEscape word b → a ≡ b
one_bad_escape word a b (within, ends, (before, stands)) (inside, stops, (earlier, also)) = by (cases_order a b)
  where
    by : (a ≡ b) ⊎ ((a < b) ⊎ (b < a)) → a ≡ b
    by (inl e) = e
    by (inr (inl less)) = no_end_within before earlier word a b stands also less ends
    by (inr (inr greater)) = no_end_within earlier before word b a also stands greater stops

-- ---- one reading

by_test : (t : Bool) (P : Bool → Type 0) → P true → P false → P t
by_test t P for_true for_false = elim t as P [ true ↦ for_true | false ↦ for_false ]

abbrev IsLong : Option Piece → Type 0
IsLong o = (b size : ℕ) → o ≡ Some (record { byte = b; size = size }) → 1 ≤ size

none_is_long : IsLong None
none_is_long b size is = absurd (cc)

some_is_long : (c n : ℕ) → 1 ≤ n → IsLong (Some (record { byte = c; size = n }))
some_is_long c n long b size is = let e = (same_piece (Some (record { byte = c; size = n })) c n b size refl is).1 in omega (arith, e)

letter_is_long : (o : Option ℕ) → IsLong (letter_piece o)
letter_is_long None = none_is_long
letter_is_long (Some c) = some_is_long c 2 (omega arith)

hex_is_long : (rest : List ℕ) → IsLong (hex_behind rest)
hex_is_long [] = none_is_long
hex_is_long (high ∷ []) = none_is_long
hex_is_long (high ∷ low ∷ rest) =
    by_test (nat_lt (digit_value high) 16 && nat_lt (digit_value low) 16)
    (λ t. IsLong (cond t (Some (record { byte = digit_value high * 16 + digit_value low; size = 4 })) None))
    (some_is_long (digit_value high * 16 + digit_value low) 4 (omega arith)) none_is_long

escape_is_long : (rest : List ℕ) → IsLong (escape_behind rest)
escape_is_long [] = none_is_long
escape_is_long (c ∷ rest) = by_test (nat_eq c 120) (λ t. IsLong (cond t (hex_behind rest) (letter_piece (letter_byte c))))
    (hex_is_long rest) (letter_is_long (letter_byte c))

piece_is_long : (word : List ℕ) → IsLong (piece_of word)
piece_is_long [] = none_is_long
piece_is_long (b ∷ rest) = by_test (nat_eq b 92) (λ t. IsLong (cond t (escape_behind rest) (Some (record { byte = b; size = 1 }))))
    (escape_is_long rest) (some_is_long b 1 (omega arith))

same_pieces : (xs ys word : List ℕ) (n : ℕ) → Stands word n xs → Stands word n ys → xs ≡ ys
same_pieces [] [] word n none also = refl
same_pieces [] (y ∷ ys) word n none (size, rest, is, sum, more) = let long = piece_is_long word y size is in
    absurd (omega (arith, none, sum, long))
same_pieces (x ∷ xs) [] word n (size, rest, is, sum, more) none = let long = piece_is_long word x size is in
    absurd (omega (arith, none, sum, long))
same_pieces (x ∷ xs) (y ∷ ys) word n (size, rest, is, sum, more) (long, left, too, total, further) =
    let same = same_piece (piece_of word) x size y long is too in
    let lefts : left ≡ rest = omega (arith, sum, total, same.1) in
    let moved : Stands (drop size word) rest ys = subst (λ m. Stands (drop size word) m ys) lefts
    (subst (λ m. Stands (drop m word) left ys) (sym same.1) further) in
    let tails : xs ≡ ys = same_pieces xs ys (drop size word) rest more moved in
    let heads : x ≡ y = same.0 in cc

pub one_reading : (word a b : List ℕ) → Unescapes word a → Unescapes word b → a ≡ b
one_reading word a b is too = same_pieces a b word (length word) is too
