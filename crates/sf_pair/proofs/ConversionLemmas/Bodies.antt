-- What a scan sees of an integer's text: a sign, the mark of its base and digits.
use Rattle.std.proofs.Common.{◌≡◌, ℕ, zero, suc, ◌+◌, ◌-◌, ◌*◌, ◌^◌, ◌<◌, ◌≤◌, Bool, true, false, cond, eqb, ltb, List, [], ◌∷◌, ◌++◌}
use Rattle.std.proofs.Common.{length, slice_index, ℤ, pos, negsuc, unsigned_abs, refl, sym, ap, subst, ◌∙◌, arith, length-append}
use Rattle.std.proofs.lemmas.List.{length-replicate}
use Rattle.std.proofs.lemmas.Bool.{lt-ltb, le-ltb}
use Rattle.std.proofs.lemmas.Bool.Decides.{nat_tests}
use Rattle.std.specs.Char.{digit_value}
use Rattle.std.specs.Str.Parse.{AllDigits, digits_value, digits_value_after}
use Rattle.sf_base.specs.Bytes.{is_white}
use Rattle.sf_format.specs.declared.unit.PrintConv.{PrintConv}
use Rattle.sf_format.specs.declared.unit.PrintLetter.{PrintLetter}
use Rattle.sf_format.specs.declared.unit.PrintLetter.TheVariants as letter
use Rattle.sf_print.specs.texts.Text.{integer_text, sign, all_digits, mark, least_digits, blanks, zeros, left_blanks, inner_zeros, base_of}
use Rattle.sf_print.specs.texts.Text.{base_mark, is_upper, is_octal, pads_with_zeros}
use Rattle.sf_print.specs.texts.Visible.{without_blanks, visible}
use Rattle.sf_pair.specs.conversions.Below.{LawsBelow}
use Rattle.sf_pair.proofs.ConversionLemmas.Parts.{bare_sign, hidden, sign_is, digits_of, Filled, fill, counted_length, parts_of}

-- ---- digits are no white space

below_digits : (b : ℕ) → b < 48 → digit_value b ≡ 36
below_digits b h = rw (lt-ltb b 48 h) refl

above_letters : (b : ℕ) → 123 ≤ b → digit_value b ≡ 36
above_letters b h = rw (
  le-ltb b 48 (omega arith),
  le-ltb b 58 (omega arith),
  le-ltb b 65 (omega arith),
  le-ltb b 91 (omega arith),
  le-ltb b 97 (omega arith),
  le-ltb b 123 h,
) refl

pub digit_above : (b : ℕ) → digit_value b < 16 → 48 ≤ b
digit_above b h = by (ltb b 48) refl
  where
    by : (t : Bool) → ltb b 48 ≡ t → 48 ≤ b
    by true e = let low : b < 48 = grind (arith, nat_tests) in let d = below_digits b low in absurd (omega (arith, d))
    by false e = grind (arith, nat_tests)

pub ink_above : (b : ℕ) → 33 ≤ b → is_white b ≡ false
ink_above b h = grind (arith, nat_tests)

-- the text has a byte, and no white space stands first
abbrev pub StartsInk : List ℕ → Type 0
StartsInk [] = ⊥
StartsInk (b ∷ bs) = is_white b ≡ false

pub numeral_ink : (r : ℕ) (ds : List ℕ) → r ≤ 16 → 0 < length ds → AllDigits r ds → StartsInk ds
numeral_ink r [] small some all = absurd (omega arith)
numeral_ink r (d ∷ ds) small some all = let h = all.0 in let k = digit_above d (omega arith) in ink_above d (omega arith)

mark_by : (t : Bool) (l : PrintLetter) (xs : List ℕ) → StartsInk xs → StartsInk (cond t (base_mark l) [] ++ xs)
mark_by true letter.Signed xs h = h
mark_by true letter.Unsigned xs h = h
mark_by true letter.Octal xs h = h
mark_by true letter.HexLower xs h = refl
mark_by true letter.HexUpper xs h = refl
mark_by true letter.Binary xs h = refl
mark_by true letter.Text xs h = h
mark_by true letter.One xs h = h
mark_by true (letter.Float style upper) xs h = h
mark_by false l xs h = h

sign_ink : (c : PrintConv) (z : ℤ) (xs : List ℕ) → StartsInk xs → StartsInk (bare_sign c z ++ xs)
sign_ink c (negsuc n) xs h = refl
sign_ink c (pos n) xs h = by c.plus
  where
    plus : List ℕ
    plus = 43 ∷ []

    by : (p : Bool) → StartsInk (cond p plus [] ++ xs)
    by true = refl
    by false = h

-- the first byte, if there is one, is a byte
abbrev pub FirstByte : List ℕ → Type 0
FirstByte [] = Unit {0}
FirstByte (b ∷ bs) = b < 256

digit_below : (b : ℕ) → digit_value b < 16 → b < 256
digit_below b h = by (ltb b 123) refl
  where
    by : (t : Bool) → ltb b 123 ≡ t → b < 256
    by true e = let low : b < 123 = grind (arith, nat_tests) in omega arith
    by false e = let high : 123 ≤ b = grind (arith, nat_tests) in let d = above_letters b high in absurd (omega (arith, d))

numeral_byte : (r : ℕ) (ds : List ℕ) → r ≤ 16 → AllDigits r ds → FirstByte ds
numeral_byte r [] small all = tt
numeral_byte r (d ∷ ds) small all = let h = all.0 in digit_below d (omega arith)

mark_byte : (t : Bool) (l : PrintLetter) (xs : List ℕ) → FirstByte xs → FirstByte (cond t (base_mark l) [] ++ xs)
mark_byte true letter.Signed xs h = h
mark_byte true letter.Unsigned xs h = h
mark_byte true letter.Octal xs h = h
mark_byte true letter.HexLower xs h = omega arith
mark_byte true letter.HexUpper xs h = omega arith
mark_byte true letter.Binary xs h = omega arith
mark_byte true letter.Text xs h = h
mark_byte true letter.One xs h = h
mark_byte true (letter.Float style upper) xs h = h
mark_byte false l xs h = h

sign_byte : (c : PrintConv) (z : ℤ) (xs : List ℕ) → FirstByte xs → FirstByte (bare_sign c z ++ xs)
sign_byte c (negsuc n) xs h = omega arith
sign_byte c (pos n) xs h = by c.plus
  where
    plus : List ℕ
    plus = 43 ∷ []

    by : (p : Bool) → FirstByte (cond p plus [] ++ xs)
    by true = omega arith
    by false = h

pub blanks_byte : (k : ℕ) (xs : List ℕ) → FirstByte xs → FirstByte (blanks k ++ xs)
blanks_byte zero xs h = h
blanks_byte (suc k) xs h = omega arith

-- ---- the blanks before it

not_blank : (b : ℕ) → is_white b ≡ false → eqb b 32 ≡ false
not_blank b h = grind (arith, nat_tests)

pub without_none : (xs : List ℕ) → StartsInk xs → without_blanks xs ≡ xs
without_none [] h = absurd h
without_none (b ∷ bs) h = ap (λ (t : Bool). cond t (without_blanks bs) (b ∷ bs)) (not_blank b h)

pub without_some : (n : ℕ) (xs : List ℕ) → StartsInk xs → without_blanks (blanks n ++ xs) ≡ xs
without_some zero xs h = without_none xs h
without_some (suc n) xs h = without_some n xs h

-- ---- zeros before a numeral

pub AllDigits-zeros : (r k : ℕ) (ds : List ℕ) → 0 < r → AllDigits r ds → AllDigits r (zeros k ++ ds)
AllDigits-zeros r zero ds some h = h
AllDigits-zeros r (suc k) ds some h = (some, AllDigits-zeros r k ds some h)

no_first : (r : ℕ) → 0 * r + 0 ≡ 0
no_first r = omega arith

pub value-zeros : (r k : ℕ) (ds : List ℕ) → digits_value r (zeros k ++ ds) ≡ digits_value r ds
value-zeros r zero ds = refl
value-zeros r (suc k) ds = ap (λ (v : ℕ). digits_value_after r v (zeros k ++ ds)) (no_first r) ∙ value-zeros r k ds

-- ---- the whole

pub record Body (c : PrintConv) (z : ℤ) : Type 0 where
  pub before : ℕ
  pub before_is : before ≡ left_blanks c (counted_length c z) + hidden c z
  pub filling : ℕ
  pub lead : ℕ
  -- the zeros and the digits
  pub body : List ℕ
  pub body_is : body ≡ zeros filling ++ digits_of c z
  pub text_is : integer_text c z ≡ blanks before ++ (bare_sign c z ++ (mark c (unsigned_abs z) ++ body))
  pub visible_is : visible c z ≡ bare_sign c z ++ (mark c (unsigned_abs z) ++ body)
  pub ink : StartsInk (bare_sign c z ++ (mark c (unsigned_abs z) ++ body))
  pub first_byte : FirstByte (integer_text c z)
  pub all : AllDigits (base_of c.letter) body
  pub some : 0 < length body
  pub value : digits_value (base_of c.letter) body ≡ unsigned_abs z
  -- no zero is needless where none is asked for
  pub bare : least_digits c ≡ 1 → pads_with_zeros c ≡ false → is_octal c.letter ≡ false → slice_index body 0 ≡ 48 → length body ≡ 1
  -- its length
  pub size : length body ≡ inner_zeros c (counted_length c z) + (lead + length (digits_of c z))
  pub enough : least_digits c ≤ lead + length (digits_of c z)
  pub of_zero : unsigned_abs z ≡ 0 → lead + length (digits_of c z) ≡ least_digits c
  pub counted : counted_length c z ≡ hidden c z + length (bare_sign c z) + length
      (mark c (unsigned_abs z)) + (lead + length (digits_of c z))

pub small_base : (l : PrintLetter) → (2 ≤ base_of l) × (base_of l ≤ 16)
small_base letter.Octal = (omega arith, omega arith)
small_base letter.HexLower = (omega arith, omega arith)
small_base letter.HexUpper = (omega arith, omega arith)
small_base letter.Binary = (omega arith, omega arith)
small_base _ = (omega arith, omega arith)

no_padding : (c : PrintConv) (len : ℕ) → pads_with_zeros c ≡ false → inner_zeros c len ≡ 0
no_padding c len e = ap (λ (t : Bool). cond t (c.width - len) 0) e

counted_is : (c : PrintConv) (z : ℤ) (f : Filled c (unsigned_abs z))
    → counted_length c z ≡ hidden c z + length (bare_sign c z) + length (mark c (unsigned_abs z)) + (f.lead + length (digits_of c z))
counted_is c z f =
    let m : ℕ = unsigned_abs z in
    let signs : length (sign c z ++ mark c m) ≡ hidden c z + length (bare_sign c z) + length (mark c m) =
    ap (λ (xs : List ℕ). length (xs ++ mark c m)) (sign_is c z) ∙ omega (
      arith,
      length-append (blanks (hidden c z) ++ bare_sign c z) (mark c m),
      length-append (blanks (hidden c z)) (bare_sign c z),
      length-replicate {A = ℕ} (hidden c z) 32,
    ) in
    let ds : length (all_digits c m) ≡ f.lead + length (digits_of c z) =
    ap length f.is ∙ omega (arith, length-append (zeros f.lead) (digits_of c z), length-replicate {A = ℕ} f.lead 48) in
    omega (arith, signs, ds)

pub body_of : LawsBelow → (c : PrintConv) (z : ℤ) → c.minus ≡ false → 0 < least_digits c → unsigned_abs z < 2 ^ 64 → Body c z
body_of laws c z right some small =
    let m : ℕ = unsigned_abs z in
    let b = small_base c.letter in
    let n = laws.numerals (base_of c.letter) (is_upper c.letter) m b.0 b.1 small in
    let any : 0 < length (digits_of c z) = n.numeral.0 in
    let f = fill laws c m some any in
    let k : ℕ = inner_zeros c (counted_length c z) + f.lead in
    let body : List ℕ = zeros k ++ digits_of c z in
    let all : AllDigits (base_of c.letter) body = AllDigits-zeros (base_of c.letter) k (digits_of c z) (omega (arith, b.0)) n.numeral.1 in
    let size : length body ≡ k + length (digits_of c z) = omega (
      arith,
      length-append (zeros k) (digits_of c z),
      length-replicate {A = ℕ} k 48,
    ) in
    let t = parts_of c z f right in
    let ink : StartsInk (bare_sign c z ++ (mark c m ++ body)) = sign_ink c z _
    (mark_by _ c.letter body (numeral_ink (base_of c.letter) body b.1 (omega (arith, size, any)) all)) in
    record {
      before = left_blanks c (counted_length c z) + hidden c z;
      before_is = refl;
      filling = k;
      lead = f.lead;
      body = body;
      body_is = refl;
      text_is = t;
      visible_is = ap without_blanks t ∙ without_some (left_blanks c (counted_length c z) + hidden c z)
          (bare_sign c z ++ (mark c m ++ body)) ink;
      ink = ink;
      first_byte = subst FirstByte (sym t) (blanks_byte (left_blanks c (counted_length c z) + hidden c z) _
          (sign_byte c z _ (mark_byte _ c.letter body (numeral_byte (base_of c.letter) body b.1 all))));
      all = all;
      some = omega (arith, size, any);
      value = value-zeros (base_of c.letter) k (digits_of c z) ∙ n.value;
      bare = λ one pads octal first.
          let none : k ≡ 0 = omega (arith, no_padding c (counted_length c z) pads, f.few one octal) in
          let same : body ≡ digits_of c z = ap (λ (j : ℕ). zeros j ++ digits_of c z) none in
          ap length same ∙ n.shortest (ap (λ (xs : List ℕ). slice_index xs 0) (sym same) ∙ first);
      size = omega (arith, size);
      enough = f.enough;
      of_zero = f.of_zero;
      counted = counted_is c z f;
    }
