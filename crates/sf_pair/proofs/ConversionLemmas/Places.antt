-- How far the text of a float is read, by what it is made of and ends with; and that no byte outside the stop set goes on from there.
use Rattle.std.proofs.Common.{◌≡◌, ℕ, zero, suc, ◌+◌, ◌<◌, Bool, true, false, cond, eqb, ◌||◌, List, [], ◌∷◌, ◌++◌, length, Option, Some}
use Rattle.std.proofs.Common.{None, refl, ap, ◌∙◌, arith}
use Rattle.std.proofs.lemmas.Bool.{eqb-true}
use Rattle.std.proofs.lemmas.Bool.Decides.{nat_tests}
use Rattle.std.specs.List.{AllByRecursion, list_all, list_any}
use Rattle.std.specs.Char.{is_digit, is_ascii_digit, is_ascii_alphanumeric, to_ascii_lowercase}
use Rattle.sf_float_read.specs.declared.item.reached.Radix.{Radix}
use Rattle.sf_float_read.specs.declared.item.reached.Radix.TheVariants.{Ten, Sixteen}
use Rattle.sf_float_read.specs.declared.item.reached.Reached.{Reached}
use Rattle.sf_float_read.specs.declared.item.reached.Reached.TheVariants as at
use Rattle.sf_float_read.specs.item.Sequences.{is_digit as is_radix_digit, opens_exponent, is_sign}
use Rattle.sf_float_read.specs.item.Tests.{after_exponent, letter_of_exponent, after_digits, first_of_number, first, next, read, is_whole}
use Rattle.sf_float_read.specs.item.Tests.{is_whole_at, is_float}
use Rattle.sf_pair.specs.conversions.Neighbours.{exponent_stops, fraction_stops, whole_stops}
use Rattle.sf_pair.proofs.ConversionLemmas.Tests.{and_both, or_none}

-- ---- bytes of a list

abbrev pub is_one_of : List ℕ → ℕ → Bool
is_one_of ks b = list_any (λ k. eqb b k) ks

pub one_of : (P : ℕ → Bool) (ks : List ℕ) (b : ℕ) → list_all P ks ≡ true → is_one_of ks b ≡ true → P b ≡ true
one_of P [] b all is = absurd cc
one_of P (k ∷ ks) b all is =
    let h = and_both (P k) (list_all P ks) all in
    by (eqb b k) refl (one_of P ks b h.1) is
  where
    by : (t : Bool) → eqb b k ≡ t → (is_one_of ks b ≡ true → P b ≡ true) → (t || is_one_of ks b) ≡ true → P b ≡ true
    by true e more h = ap P (eqb-true b k e) ∙ (and_both (P k) (list_all P ks) all).0
    by false e more h = more h

abbrev pub digits : List ℕ
digits = 48 ∷ 49 ∷ 50 ∷ 51 ∷ 52 ∷ 53 ∷ 54 ∷ 55 ∷ 56 ∷ 57 ∷ []

abbrev pub signs : List ℕ
signs = 43 ∷ 45 ∷ []

-- digits, signs, a point and the letters of an exponent
abbrev pub decimals : List ℕ
decimals = 43 ∷ 45 ∷ 46 ∷ 69 ∷ 101 ∷ digits

abbrev pub All : List ℕ → List ℕ → Type 0
All ks f = AllByRecursion (λ b. is_one_of ks b ≡ true) f

pub digit_one : (d : ℕ) → d < 10 → is_one_of digits (48 + d) ≡ true
digit_one zero h = refl
digit_one (suc zero) h = refl
digit_one (suc (suc zero)) h = refl
digit_one (suc (suc (suc zero))) h = refl
digit_one (suc (suc (suc (suc zero)))) h = refl
digit_one (suc (suc (suc (suc (suc zero))))) h = refl
digit_one (suc (suc (suc (suc (suc (suc zero)))))) h = refl
digit_one (suc (suc (suc (suc (suc (suc (suc zero))))))) h = refl
digit_one (suc (suc (suc (suc (suc (suc (suc (suc zero)))))))) h = refl
digit_one (suc (suc (suc (suc (suc (suc (suc (suc (suc zero))))))))) h = refl
digit_one (suc (suc (suc (suc (suc (suc (suc (suc (suc (suc d)))))))))) h = absurd (omega arith)

pub digit_decimal : (b : ℕ) → is_one_of digits b ≡ true → is_one_of decimals b ≡ true
digit_decimal b is = one_of (is_one_of decimals) digits b refl is

pub digits_decimal : (f : List ℕ) → All digits f → All decimals f
digits_decimal [] all = tt
digits_decimal (b ∷ f) all = (digit_decimal b all.0, digits_decimal f all.1)

-- ---- places

abbrev pub passes : (Reached → Bool) → Option Reached → Bool
passes test None = true
passes test (Some r) = test r

-- read on from place to place, by bytes of a list
pub read_passes : (test : Reached → Bool) (ks : List ℕ)
    → ((r : Reached) → test r ≡ true → (b : ℕ) → is_one_of ks b ≡ true → passes test (next r b) ≡ true)
    → (o : Option Reached) → passes test o ≡ true → (f : List ℕ) → All ks f → passes test (read o f) ≡ true
read_passes test ks step None e f all = refl
read_passes test ks step (Some r) e [] all = e
read_passes test ks step (Some r) e (b ∷ f) all = read_passes test ks step (next r b) (step r e b all.0) f all.1

pub read_more : (o : Option Reached) (f g : List ℕ) → read o (f ++ g) ≡ read (read o f) g
read_more None f g = refl
read_more (Some r) [] g = refl
read_more (Some r) (b ∷ f) g = read_more (next r b) f g

-- ---- decimal numbers

abbrev pub decimal_place : Reached → Bool
decimal_place at.Start = true
decimal_place at.Signed = true
decimal_place at.Zero = true
decimal_place (at.Whole Ten) = true
decimal_place (at.Point Ten) = true
decimal_place (at.Fraction Ten) = true
decimal_place at.Letter = true
decimal_place at.LetterSign = true
decimal_place at.Exponent = true
decimal_place _ = false

decimal_next : (r : Reached) → decimal_place r ≡ true → (b : ℕ) → is_one_of decimals b ≡ true → passes decimal_place (next r b) ≡ true
decimal_next at.Start e b is = one_of (λ b. passes decimal_place (next at.Start b)) decimals b refl is
decimal_next at.Signed e b is = one_of (λ b. passes decimal_place (next at.Signed b)) decimals b refl is
decimal_next at.Zero e b is = one_of (λ b. passes decimal_place (next at.Zero b)) decimals b refl is
decimal_next (at.Whole Ten) e b is = one_of (λ b. passes decimal_place (next (at.Whole Ten) b)) decimals b refl is
decimal_next (at.Point Ten) e b is = one_of (λ b. passes decimal_place (next (at.Point Ten) b)) decimals b refl is
decimal_next (at.Fraction Ten) e b is = one_of (λ b. passes decimal_place (next (at.Fraction Ten) b)) decimals b refl is
decimal_next at.Letter e b is = one_of (λ b. passes decimal_place (next at.Letter b)) decimals b refl is
decimal_next at.LetterSign e b is = one_of (λ b. passes decimal_place (next at.LetterSign b)) decimals b refl is
decimal_next at.Exponent e b is = one_of (λ b. passes decimal_place (next at.Exponent b)) decimals b refl is
decimal_next _ e b is = absurd cc

pub decimal_read : (f : List ℕ) → All decimals f → passes decimal_place (read (Some at.Start) f) ≡ true
decimal_read f all = read_passes decimal_place decimals decimal_next (Some at.Start) refl f all

-- ---- numbers with a point, and no exponent

abbrev pub pointed_place : Reached → Bool
pointed_place (at.Point Ten) = true
pointed_place (at.Fraction Ten) = true
pointed_place _ = false

point_next : (o : Option Reached) → passes decimal_place o ≡ true → passes pointed_place (read o (46 ∷ [])) ≡ true
point_next None e = refl
point_next (Some at.Start) e = refl
point_next (Some at.Signed) e = refl
point_next (Some at.Zero) e = refl
point_next (Some (at.Whole Ten)) e = refl
point_next (Some (at.Point Ten)) e = refl
point_next (Some (at.Fraction Ten)) e = refl
point_next (Some at.Letter) e = refl
point_next (Some at.LetterSign) e = refl
point_next (Some at.Exponent) e = refl
point_next _ e = absurd cc

pointed_next : (r : Reached) → pointed_place r ≡ true → (b : ℕ) → is_one_of digits b ≡ true → passes pointed_place (next r b) ≡ true
pointed_next (at.Point Ten) e b is = one_of (λ b. passes pointed_place (next (at.Point Ten) b)) digits b refl is
pointed_next (at.Fraction Ten) e b is = one_of (λ b. passes pointed_place (next (at.Fraction Ten) b)) digits b refl is
pointed_next _ e b is = absurd cc

pub pointed_read : (pre ds : List ℕ) → All decimals pre → All digits ds
    → passes pointed_place (read (Some at.Start) (pre ++ 46 ∷ ds)) ≡ true
pointed_read pre ds before all =
    ap (passes pointed_place) (read_more (Some at.Start) pre (46 ∷ ds) ∙ read_more (read (Some at.Start) pre) (46 ∷ []) ds)
    ∙ read_passes pointed_place digits pointed_next (read (read (Some at.Start) pre) (46 ∷ []))
    (point_next (read (Some at.Start) pre) (decimal_read pre before)) ds all

-- ---- numbers that end with a sign and digits

abbrev begun : Reached → Bool
begun at.Start = false
begun at.DecimalStart = false
begun _ = true

either : (t : Bool) (x y : Option Reached) → passes begun x ≡ true → passes begun y ≡ true → passes begun (cond t x y) ≡ true
either true x y e f = e
either false x y e f = f

exponent_begun : (b : ℕ) → passes begun (after_exponent b) ≡ true
exponent_begun b = either (is_ascii_digit b) (Some at.Exponent) None refl refl

letter_begun : (radix : Radix) (b : ℕ) → passes begun (letter_of_exponent radix b) ≡ true
letter_begun radix b = either (opens_exponent radix b) (Some at.Letter) None refl refl

point_begun : (radix : Radix) (b : ℕ) (more : Option Reached) → passes begun more ≡ true
    → passes begun (cond (is_radix_digit radix b) (Some (at.Fraction radix)) more) ≡ true
point_begun radix b more e = either (is_radix_digit radix b) (Some (at.Fraction radix)) more refl e

dot_begun : (b : ℕ) (r : Reached) (more : Option Reached) → begun r ≡ true → passes begun more ≡ true
    → passes begun (cond (eqb b 46) (Some r) more) ≡ true
dot_begun b r more e f = either (eqb b 46) (Some r) more e f

digits_begun : (radix : Radix) (b : ℕ) → passes begun (after_digits radix b) ≡ true
digits_begun radix b =
    either (is_radix_digit radix b) (Some (at.Whole radix)) (cond (eqb b 46) (Some (at.Fraction radix)) (letter_of_exponent radix b)) refl
    (dot_begun b (at.Fraction radix) (letter_of_exponent radix b) refl (letter_begun radix b))

number_begun : (radix : Radix) (b : ℕ) → passes begun (first_of_number radix b) ≡ true
number_begun radix b = either (is_radix_digit radix b) (Some (at.Whole radix)) (cond (eqb b 46) (Some (at.Point radix)) None) refl
    (dot_begun b (at.Point radix) None refl refl)

word_begun : (b lower : ℕ) (r : Reached) (more : Option Reached) → begun r ≡ true → passes begun more ≡ true
    → passes begun (cond (eqb (to_ascii_lowercase b) lower) (Some r) more) ≡ true
word_begun b lower r more e f = either (eqb (to_ascii_lowercase b) lower) (Some r) more e f

first_begun : (b : ℕ) → passes begun (first b) ≡ true
first_begun b =
    let words : Option Reached = cond (eqb (to_ascii_lowercase b) 105) (Some at.I)
    (cond (eqb (to_ascii_lowercase b) 110) (Some at.N) (first_of_number Ten b)) in
    either (eqb b 48) (Some at.Zero) words refl (word_begun b 105 at.I (cond (eqb (to_ascii_lowercase b) 110) (Some at.N)
    (first_of_number Ten b)) refl (word_begun b 110 at.N (first_of_number Ten b) refl (number_begun Ten b)))

next_begun : (r : Reached) (b : ℕ) → passes begun (next r b) ≡ true
next_begun at.Start b = either (is_sign b) (Some at.Signed) (first b) refl (first_begun b)
next_begun at.Signed b = first_begun b
next_begun at.DecimalStart b = either (eqb b 45) (Some at.DecimalSigned) (first_of_number Ten b) refl (number_begun Ten b)
next_begun at.DecimalSigned b = number_begun Ten b
next_begun at.Zero b = either (eqb b 120 || eqb b 88) (Some at.Prefix) (after_digits Ten b) refl (digits_begun Ten b)
next_begun at.Prefix b = number_begun Sixteen b
next_begun (at.Whole radix) b = digits_begun radix b
next_begun (at.Point radix) b = point_begun radix b None refl
next_begun (at.Fraction radix) b = point_begun radix b (letter_of_exponent radix b) (letter_begun radix b)
next_begun at.Letter b = either (is_sign b) (Some at.LetterSign) (after_exponent b) refl (exponent_begun b)
next_begun at.LetterSign b = exponent_begun b
next_begun at.Exponent b = exponent_begun b
next_begun at.I b = word_begun b 110 at.In None refl refl
next_begun at.In b = word_begun b 102 at.Inf None refl refl
next_begun at.Inf b = word_begun b 105 at.Infi None refl refl
next_begun at.Infi b = word_begun b 110 at.Infin None refl refl
next_begun at.Infin b = word_begun b 105 at.Infini None refl refl
next_begun at.Infini b = word_begun b 116 at.Infinit None refl refl
next_begun at.Infinit b = word_begun b 121 at.Infinity None refl refl
next_begun at.Infinity b = refl
next_begun at.N b = word_begun b 97 at.Na None refl refl
next_begun at.Na b = word_begun b 110 at.Nan None refl refl
next_begun at.Nan b = either (eqb b 40) (Some at.Open) None refl refl
next_begun at.Open b = either (eqb b 41) (Some at.Closed) (cond (is_ascii_alphanumeric b || eqb b 95) (Some at.Open) None) refl
    (either (is_ascii_alphanumeric b || eqb b 95) (Some at.Open) None refl refl)
next_begun at.Closed b = refl

read_begun : (o : Option Reached) → passes begun o ≡ true → (f : List ℕ) → passes begun (read o f) ≡ true
read_begun None e f = refl
read_begun (Some r) e [] = e
read_begun (Some r) e (b ∷ f) = read_begun (next r b) (next_begun r b) f

abbrev raised_place : Reached → Bool
raised_place at.LetterSign = true
raised_place at.Exponent = true
raised_place _ = false

abbrev pub exponent_place : Reached → Bool
exponent_place at.Exponent = true
exponent_place _ = false

sign_next : (r : Reached) → begun r ≡ true → (b : ℕ) → is_one_of signs b ≡ true → passes raised_place (next r b) ≡ true
sign_next at.Start e b is = absurd cc
sign_next at.Signed e b is = one_of (λ b. passes raised_place (next at.Signed b)) signs b refl is
sign_next at.DecimalStart e b is = absurd cc
sign_next at.DecimalSigned e b is = one_of (λ b. passes raised_place (next at.DecimalSigned b)) signs b refl is
sign_next at.Zero e b is = one_of (λ b. passes raised_place (next at.Zero b)) signs b refl is
sign_next at.Prefix e b is = one_of (λ b. passes raised_place (next at.Prefix b)) signs b refl is
sign_next (at.Whole Ten) e b is = one_of (λ b. passes raised_place (next (at.Whole Ten) b)) signs b refl is
sign_next (at.Whole Sixteen) e b is = one_of (λ b. passes raised_place (next (at.Whole Sixteen) b)) signs b refl is
sign_next (at.Point Ten) e b is = one_of (λ b. passes raised_place (next (at.Point Ten) b)) signs b refl is
sign_next (at.Point Sixteen) e b is = one_of (λ b. passes raised_place (next (at.Point Sixteen) b)) signs b refl is
sign_next (at.Fraction Ten) e b is = one_of (λ b. passes raised_place (next (at.Fraction Ten) b)) signs b refl is
sign_next (at.Fraction Sixteen) e b is = one_of (λ b. passes raised_place (next (at.Fraction Sixteen) b)) signs b refl is
sign_next at.Letter e b is = one_of (λ b. passes raised_place (next at.Letter b)) signs b refl is
sign_next at.LetterSign e b is = one_of (λ b. passes raised_place (next at.LetterSign b)) signs b refl is
sign_next at.Exponent e b is = one_of (λ b. passes raised_place (next at.Exponent b)) signs b refl is
sign_next at.I e b is = one_of (λ b. passes raised_place (next at.I b)) signs b refl is
sign_next at.In e b is = one_of (λ b. passes raised_place (next at.In b)) signs b refl is
sign_next at.Inf e b is = one_of (λ b. passes raised_place (next at.Inf b)) signs b refl is
sign_next at.Infi e b is = one_of (λ b. passes raised_place (next at.Infi b)) signs b refl is
sign_next at.Infin e b is = one_of (λ b. passes raised_place (next at.Infin b)) signs b refl is
sign_next at.Infini e b is = one_of (λ b. passes raised_place (next at.Infini b)) signs b refl is
sign_next at.Infinit e b is = one_of (λ b. passes raised_place (next at.Infinit b)) signs b refl is
sign_next at.Infinity e b is = refl
sign_next at.N e b is = one_of (λ b. passes raised_place (next at.N b)) signs b refl is
sign_next at.Na e b is = one_of (λ b. passes raised_place (next at.Na b)) signs b refl is
sign_next at.Nan e b is = one_of (λ b. passes raised_place (next at.Nan b)) signs b refl is
sign_next at.Open e b is = one_of (λ b. passes raised_place (next at.Open b)) signs b refl is
sign_next at.Closed e b is = refl

sign_read : (o : Option Reached) → passes begun o ≡ true → (b : ℕ) → is_one_of signs b ≡ true
    → passes raised_place (read o (b ∷ [])) ≡ true
sign_read None e b is = refl
sign_read (Some r) e b is = one (next r b) (sign_next r e b is)
  where
    one : (o : Option Reached) → passes raised_place o ≡ true → passes raised_place (read o []) ≡ true
    one None h = refl
    one (Some q) h = h

digit_next : (r : Reached) → raised_place r ≡ true → (b : ℕ) → is_one_of digits b ≡ true → passes exponent_place (next r b) ≡ true
digit_next at.LetterSign e b is = one_of (λ b. passes exponent_place (next at.LetterSign b)) digits b refl is
digit_next at.Exponent e b is = one_of (λ b. passes exponent_place (next at.Exponent b)) digits b refl is
digit_next _ e b is = absurd cc

exponent_next : (r : Reached) → exponent_place r ≡ true → (b : ℕ) → is_one_of digits b ≡ true → passes exponent_place (next r b) ≡ true
exponent_next at.Exponent e b is = one_of (λ b. passes exponent_place (next at.Exponent b)) digits b refl is
exponent_next _ e b is = absurd cc

digits_read : (o : Option Reached) → passes raised_place o ≡ true → (ds : List ℕ) → 0 < length ds → All digits ds
    → passes exponent_place (read o ds) ≡ true
digits_read None e ds some all = refl
digits_read (Some r) e [] some all = absurd (omega arith)
digits_read (Some r) e (b ∷ ds) some all = read_passes exponent_place digits exponent_next (next r b) (digit_next r e b all.0) ds all.1

pub signed_read : (pre : List ℕ) (s : ℕ) (ds : List ℕ) → 0 < length pre → is_one_of signs s ≡ true → 0 < length ds → All digits ds
    → passes exponent_place (read (Some at.Start) (pre ++ s ∷ ds)) ≡ true
signed_read [] s ds more sign some all = absurd (omega arith)
signed_read (p ∷ pre) s ds more sign some all =
    let o : Option Reached = read (next at.Start p) pre in
    ap (passes exponent_place) (read_more (next at.Start p) pre (s ∷ ds) ∙ read_more o (s ∷ []) ds)
    ∙ digits_read (read o (s ∷ [])) (sign_read o (read_begun (next at.Start p) (next_begun at.Start p) pre) s sign) ds some all

-- ---- what ends a number

no_digit : (b : ℕ) → is_digit b 10 ≡ false → is_ascii_digit b ≡ false
no_digit b e = grind (arith, nat_tests)

exponent_stopped : (b : ℕ) → exponent_stops b ≡ false → next at.Exponent b ≡ None
exponent_stopped b e = rw (no_digit b e) refl

fraction_stopped : (b : ℕ) → fraction_stops b ≡ false → next (at.Fraction Ten) b ≡ None
fraction_stopped b e =
    let h = or_none (exponent_stops b) (eqb b 101 || eqb b 69) e in
    rw (no_digit b h.0, h.1) refl

whole_stopped : (b : ℕ) → whole_stops b ≡ false → (next (at.Whole Ten) b ≡ None) × (next at.Zero b ≡ None)
whole_stopped b e =
    let h = or_none (fraction_stops b) (eqb b 46 || (eqb b 120 || eqb b 88)) e in
    let f = or_none (exponent_stops b) (eqb b 101 || eqb b 69) h.0 in
    let k = or_none (eqb b 46) (eqb b 120 || eqb b 88) h.1 in
    let digits : next (at.Whole Ten) b ≡ None = rw (no_digit b f.0, k.0, f.1) refl in
    (digits, rw k.1 digits)

-- a place where no byte outside the set goes on
abbrev pub Stopped : (ℕ → Bool) → Reached → Type 0
Stopped set r = (b : ℕ) → set b ≡ false → next r b ≡ None

pub stopped_exponent : (r : Reached) → exponent_place r ≡ true → Stopped exponent_stops r
stopped_exponent at.Exponent e b out = exponent_stopped b out
stopped_exponent _ e b out = absurd cc

pub stopped_fraction : (r : Reached) → is_whole r ≡ true → pointed_place r ≡ true → Stopped fraction_stops r
stopped_fraction (at.Fraction Ten) w e b out = fraction_stopped b out
stopped_fraction (at.Point Ten) w e b out = absurd cc
stopped_fraction _ w e b out = absurd cc

pub stopped_whole : (r : Reached) → is_whole r ≡ true → decimal_place r ≡ true → Stopped whole_stops r
stopped_whole at.Zero w e b out = (whole_stopped b out).1
stopped_whole (at.Whole Ten) w e b out = (whole_stopped b out).0
stopped_whole (at.Fraction Ten) w e b out =
    fraction_stopped b (or_none (fraction_stops b) (eqb b 46 || (eqb b 120 || eqb b 88)) out).0
stopped_whole at.Exponent w e b out =
    let h = or_none (fraction_stops b) (eqb b 46 || (eqb b 120 || eqb b 88)) out in
    exponent_stopped b (or_none (exponent_stops b) (eqb b 101 || eqb b 69) h.0).0
stopped_whole at.Start w e b out = absurd cc
stopped_whole at.Signed w e b out = absurd cc
stopped_whole (at.Point Ten) w e b out = absurd cc
stopped_whole at.Letter w e b out = absurd cc
stopped_whole at.LetterSign w e b out = absurd cc
stopped_whole _ w e b out = absurd cc

-- where a matching sequence was read
pub record WasRead (test : Reached → Bool) (f : List ℕ) : Type 0 where
  pub place : Reached
  pub is : read (Some at.Start) f ≡ Some place
  pub whole : is_whole place ≡ true
  pub tested : test place ≡ true

pub was_read : (test : Reached → Bool) (f : List ℕ) → is_float f ≡ true → passes test (read (Some at.Start) f) ≡ true → WasRead test f
was_read test f e h = by (read (Some at.Start) f) refl e h
  where
    by : (o : Option Reached) → read (Some at.Start) f ≡ o → is_whole_at o ≡ true → passes test o ≡ true → WasRead test f
    by None is e h = absurd cc
    by (Some r) is e h = record { place = r; is = is; whole = e; tested = h }

-- so it goes on with no such byte
pub none_follows : (start : Reached) (f : List ℕ) (r : Reached) → read (Some start) f ≡ Some r → (b : ℕ) → next r b ≡ None
    → read (Some start) (f ++ b ∷ []) ≡ None
none_follows start f r is b none =
    read_more (Some start) f (b ∷ []) ∙ ap (λ (o : Option Reached). read o (b ∷ [])) is ∙ ap (λ (o : Option Reached). read o []) none
