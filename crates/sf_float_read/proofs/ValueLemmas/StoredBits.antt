-- A pattern that is stored is that of a float of the format.
use Rattle.std.proofs.Common.{◌≡◌, ℕ, ◌+◌, ◌*◌, ◌^◌, ◌<◌, Bool, true, false, List, length, drop, slice_index, if◌then◌else◌, Option, Some}
use Rattle.std.proofs.Common.{None, option_map, option_and_then, refl, sym, subst, inl, inr, T, to_bits, codes}
use Rattle.std.specs.Prelude.{◌==◌}
use Rattle.std.specs.Float.{float_is_infinite}
use Rattle.std.specs.Float.Ieee.{Float, Format, nan, inf, fits, binary32, binary64, top}
use Rattle.std.specs.Float.Numeral.{scan_numeral, has_digits, nearest_float}
use Rattle.std.specs.Float.Parse.{parse_float, read_float, read_unsigned, read_word, begins_with, sign_len}
use lib.Ieee.Bits.{to_bits-lt}
use lib.Ieee.Fits.{round-fits, nan-fits, inf-fits}
use Rattle.sf_float_read.specs.value.Values.{is_minus, stored, IsStoredSize}
use Rattle.sf_float_read.specs.value.Laws.{width, StoredBits}

-- ---- what `parse` gives is a float of the format

abbrev Fitting : Format → Option (Float × ℕ) → Type 0
Fitting f None = Unit {0}
Fitting f (Some r) = T (fits f r.0)

word_fits : (f : Format) (negative : Bool) (bs : List ℕ) → Fitting f (read_word negative bs)
word_fits f negative bs = go (begins_with bs (codes "infinity")) (begins_with bs (codes "inf")) (begins_with bs (codes "nan"))
  where
    go : (a b c : Bool)
        → Fitting f (if a then Some (inf negative, 8) else (if b then Some (inf negative, 3) else (if c then Some (nan, 3) else None)))
    go true b c = inf-fits f negative
    go false true c = inf-fits f negative
    go false false true = nan-fits f
    go false false false = tt

unsigned_fits : (f : Format) (negative : Bool) (bs : List ℕ) → Fitting f (read_unsigned f negative bs)
unsigned_fits f negative bs = go (has_digits (scan_numeral bs))
  where
    go : (b : Bool)
        → Fitting f (if b then Some (nearest_float f negative (scan_numeral bs), (scan_numeral bs).len) else read_word negative bs)
    go true = round-fits f negative _ _
    go false = word_fits f negative bs

whole_fits : (f : Format) (sign len : ℕ) (o : Option (Float × ℕ)) (x : Float) → Fitting f o
    → option_and_then (λ r. if r.1 == len then Some r.0 else None) (option_map {U = Float × ℕ} (λ r. (r.0, sign + r.1)) o) ≡ Some x
    → T (fits f x)
whole_fits f sign len None x h e = cc
whole_fits f sign len (Some r) x h e = go (sign + r.1 == len) e
  where
    go : (b : Bool) → (if b then Some r.0 else None) ≡ Some x → T (fits f x)
    go true e = let same : r.0 ≡ x = cc in subst (λ y. T (fits f y)) same h
    go false e = cc

parse_fits : (f : Format) (bs : List ℕ) (x : Float) → parse_float f bs ≡ Some x → T (fits f x)
unfolding read_float
parse_fits f bs x e = whole_fits f (sign_len bs) (length bs) _ x (unsigned_fits f (slice_index bs 0 == 45) (drop (sign_len bs) bs)) e

-- ---- what is stored

abbrev IsPattern : Format → ℕ → Type 0
IsPattern f bits = (x : Float) × T (fits f x) × (bits ≡ to_bits f x)

stored_pattern : (f : Format) (x : Float) (bits : ℕ) → T (fits f x) → Some bits ≡ stored f x → IsPattern f bits
stored_pattern f x bits h e = go (float_is_infinite x) e
  where
    go : (b : Bool) → Some bits ≡ (if b then None else Some (to_bits f x)) → IsPattern f bits
    go true e = cc
    go false e = let same : bits ≡ to_bits f x = cc in (x, h, same)

some_bits : (f : Format) (x : Float) (bits : ℕ) → T (fits f x) → Some bits ≡ Some (to_bits f x) → IsPattern f bits
some_bits f x bits h e = let same : bits ≡ to_bits f x = cc in (x, h, same)

size_pattern : (f : Format) (negative : Bool) (item size : List ℕ) (bits : ℕ) → IsStoredSize f negative item size (Some bits)
    → IsPattern f bits
size_pattern f negative item size bits (inl (n, (x, parsed, is))) = stored_pattern f x bits (parse_fits f item x parsed) is
size_pattern f negative item size bits (inr (inl (c, numeral, e, is, (x, value, stores)))) =
    stored_pattern f x bits (subst (λ y. T (fits f y)) (sym value.1) (round-fits f negative _ _)) stores
size_pattern f negative item size bits (inr (inr (inl i))) = some_bits f (inf negative) bits (inf-fits f negative) i.1
size_pattern f negative item size bits (inr (inr (inr n))) = some_bits f nan bits (nan-fits f) n.1

twice_top : (f : Format) → 2 * top f ≡ 2 ^ width f
twice_top binary32 = refl
twice_top binary64 = refl

pub stored_bits : StoredBits
stored_bits f item bits (sign, size, s, is, stores) =
    let p = size_pattern f (is_minus sign) item size bits stores in
    (subst (λ b. b < 2 ^ width f) (sym p.2) (subst (λ k. to_bits f p.0 < k) (twice_top f) (to_bits-lt f p.0 p.1)), p)
