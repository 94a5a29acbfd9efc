-- The text of an integer begins with one of its first bytes.
use Rattle.std.proofs.Common.{◌≡◌, ℕ, zero, suc, ◌+◌, ◌-◌, ◌<◌, ◌⊎◌, inl, inr, Bool, true, false, cond, ltb, ◌&&◌, ◌||◌, List, [], ◌∷◌}
use Rattle.std.proofs.Common.{◌++◌, length, ℤ, pos, negsuc, unsigned_abs, refl, sym, ap, subst, arith}
use Rattle.std.specs.Prelude.{not}
use Rattle.std.proofs.lemmas.Bool.{lt-ltb}
use Rattle.std.specs.Char.{digit_value}
use Rattle.std.specs.Str.Parse.{AllDigits}
use Rattle.sf_format.specs.declared.unit.PrintConv.{PrintConv}
use Rattle.sf_format.specs.declared.unit.PrintLetter.{PrintLetter}
use Rattle.sf_format.specs.declared.unit.PrintLetter.TheVariants as letter
use Rattle.sf_print.specs.texts.Text.{integer_text, mark, base_mark, base_of, blanks, left_blanks, pads_with_zeros}
use Rattle.sf_pair.specs.conversions.Neighbours.{Bytes, only, or, digits_in, sign_or_digit, number_first, integer_first}
use Rattle.sf_pair.proofs.ConversionLemmas.Parts.{bare_sign, hidden, counted_length}
use Rattle.sf_pair.proofs.ConversionLemmas.Bodies.{Body}

abbrev pub FirstIn : Bytes → List ℕ → Type 0
FirstIn set [] = ⊥
FirstIn set (b ∷ bs) = set b ≡ true

pub first_weaker : (s t : Bytes) (xs : List ℕ) → ((b : ℕ) → s b ≡ true → t b ≡ true) → FirstIn s xs → FirstIn t xs
first_weaker s t [] h f = f
first_weaker s t (b ∷ bs) h f = h b f

pub first_append : (s : Bytes) (xs ys : List ℕ) → FirstIn s xs → FirstIn s (xs ++ ys)
first_append s [] ys f = absurd f
first_append s (b ∷ bs) ys f = f

pub or_right : (a b : Bool) → b ≡ true → (a || b) ≡ true
or_right true b e = refl
or_right false b e = e

digits_first : (r : ℕ) (ds : List ℕ) → 0 < length ds → AllDigits r ds → FirstIn (digits_in r) ds
digits_first r [] some all = absurd (omega arith)
digits_first r (d ∷ ds) some all = lt-ltb (digit_value d) r all.0

-- also after the mark of a base
marked_first : (t : Bool) (l : PrintLetter) (xs : List ℕ) → FirstIn (digits_in (base_of l)) xs
    → FirstIn (digits_in (base_of l)) (cond t (base_mark l) [] ++ xs)
marked_first false l xs f = f
marked_first true letter.HexLower xs f = refl
marked_first true letter.HexUpper xs f = refl
marked_first true letter.Binary xs f = refl
marked_first true letter.Octal xs f = f
marked_first true letter.Signed xs f = f
marked_first true letter.Unsigned xs f = f
marked_first true letter.Text xs f = f
marked_first true letter.One xs f = f
marked_first true (letter.Float style upper) xs f = f

abbrev plus_sign : List ℕ
plus_sign = 43 ∷ []

abbrev by_flags : Bool → Bool → Bytes
by_flags p b = cond p (only 43) (cond b (only 32) (digits_in 10))

signed_first : (c : PrintConv) (z : ℤ) (xs : List ℕ) → FirstIn (digits_in 10) xs
    → FirstIn (or (only 45) (sign_or_digit c)) (blanks (hidden c z) ++ (bare_sign c z ++ xs))
signed_first c (negsuc n) xs f = refl
signed_first c (pos n) xs f = by c.plus c.blank
  where
    by : (p b : Bool) → FirstIn (or (only 45) (by_flags p b)) (blanks (cond p 0 (cond b 1 0)) ++ (cond p plus_sign [] ++ xs))
    by true b = refl
    by false true = refl
    by false false = first_weaker (digits_in 10) (or (only 45) (digits_in 10)) xs (λ b k. or_right (only 45 b) (digits_in 10 b) k) f

-- a letter without a sign flag, and a value that isn't negative
pub record NoSign (c : PrintConv) (z : ℤ) : Type 0 where
  pub plus : c.plus ≡ false
  pub blank : c.blank ≡ false
  pub number : ℕ
  pub value : z ≡ pos number

unsigned_first : (set : Bytes) (c : PrintConv) (z : ℤ) (xs : List ℕ) → NoSign c z → FirstIn set xs
    → FirstIn set (blanks (hidden c z) ++ (bare_sign c z ++ xs))
unsigned_first set c z xs n f =
    let G : ℤ → Type 0 = λ z. FirstIn set (blanks (hidden c z) ++ (bare_sign c z ++ xs)) in
    subst G (sym n.value) (by c.plus c.blank n.plus n.blank)
  where
    by : (p b : Bool) → p ≡ false → b ≡ false → FirstIn set (blanks (cond p 0 (cond b 1 0)) ++ (cond p plus_sign [] ++ xs))
    by true b e g = absurd cc
    by false true e g = absurd cc
    by false false e g = f

-- either a signed letter, or no sign
abbrev pub SignFits : PrintConv → ℤ → Type 0
SignFits c z = (c.letter ≡ letter.Signed) ⊎ NoSign c z

visible_first : (l : PrintLetter) (c : PrintConv) (z : ℤ) (xs : List ℕ) → (l ≡ letter.Signed) ⊎ NoSign c z
    → FirstIn (digits_in (base_of l)) xs → FirstIn (number_first l c) (blanks (hidden c z) ++ (bare_sign c z ++ xs))
visible_first letter.Signed c z xs s f = signed_first c z xs f
visible_first letter.Unsigned c z xs (inr n) f = unsigned_first (digits_in 10) c z xs n f
visible_first letter.Octal c z xs (inr n) f = unsigned_first (digits_in 8) c z xs n f
visible_first letter.HexLower c z xs (inr n) f = unsigned_first (digits_in 16) c z xs n f
visible_first letter.HexUpper c z xs (inr n) f = unsigned_first (digits_in 16) c z xs n f
visible_first letter.Binary c z xs (inr n) f = unsigned_first (digits_in 2) c z xs n f
visible_first letter.Text c z xs (inr n) f = unsigned_first (digits_in 10) c z xs n f
visible_first letter.One c z xs (inr n) f = unsigned_first (digits_in 10) c z xs n f
visible_first (letter.Float style upper) c z xs (inr n) f = unsigned_first (digits_in 10) c z xs n f
visible_first _ c z xs (inl e) f = absurd cc

number_then_integer : (c : PrintConv) (b : ℕ) → number_first c.letter c b ≡ true → integer_first c b ≡ true
number_then_integer c b h = by (ltb 0 c.width && not (pads_with_zeros c))
  where
    by : (t : Bool) → cond t (or (only 32) (number_first c.letter c)) (number_first c.letter c) b ≡ true
    by true = or_right (only 32 b) (number_first c.letter c b) h
    by false = h

blank_padded : (c : PrintConv) (len k : ℕ) → left_blanks c len ≡ suc k → integer_first c 32 ≡ true
blank_padded c len k e = by c.minus (pads_with_zeros c) e
  where
    some : (w : ℕ) → w - len ≡ suc k → ltb 0 w ≡ true
    some w e = lt-ltb 0 w (omega arith)

    by : (m p : Bool) → cond m 0 (cond p 0 (c.width - len)) ≡ suc k
        → cond (ltb 0 c.width && not p) (or (only 32) (number_first c.letter c)) (number_first c.letter c) 32 ≡ true
    by true p e = absurd (omega arith)
    by false true e = absurd (omega arith)
    by false false e = ap (λ (t : Bool). cond (t && true) (or (only 32) (number_first c.letter c)) (number_first c.letter c) 32)
        (some c.width e)

pub integer_text_first : (c : PrintConv) (z : ℤ) (b : Body c z) → SignFits c z → FirstIn (integer_first c) (integer_text c z)
integer_text_first c z b s =
    let m : ℕ = unsigned_abs z in
    let xs : List ℕ = mark c m ++ b.body in
    let F : List ℕ → Type 0 = λ t. FirstIn (integer_first c) t in
    let G : ℕ → Type 0 = λ k. FirstIn (integer_first c) (blanks k ++ (bare_sign c z ++ xs)) in
    let all : FirstIn (digits_in (base_of c.letter)) xs = marked_first _ c.letter b.body
    (digits_first (base_of c.letter) b.body b.some b.all) in
    subst F (sym b.text_is) (subst G (sym b.before_is) (by xs (visible_first c.letter c z xs s all)
    (left_blanks c (counted_length c z)) refl))
  where
    by : (xs : List ℕ) → FirstIn (number_first c.letter c) (blanks (hidden c z) ++ (bare_sign c z ++ xs)) → (l : ℕ)
        → left_blanks c (counted_length c z) ≡ l → FirstIn (integer_first c) (blanks (l + hidden c z) ++ (bare_sign c z ++ xs))
    by xs f (suc l) e = let G : ℕ → Type 0 = λ k. FirstIn (integer_first c) (blanks k ++ (bare_sign c z ++ xs)) in
        let same : suc (l + hidden c z) ≡ suc l + hidden c z = omega arith in subst G same (blank_padded c _ l e)
    by xs f zero e = let G : ℕ → Type 0 = λ k. FirstIn (integer_first c) (blanks k ++ (bare_sign c z ++ xs)) in
        let same : hidden c z ≡ zero + hidden c z = omega arith in subst G same
        (first_weaker (number_first c.letter c) (integer_first c) _ (number_then_integer c) f)
