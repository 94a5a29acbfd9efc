-- A number has no white space inside.
use Rattle.std.proofs.Common.{◌≡◌, ◌∙◌, ℕ, ◌+◌, ◌*◌, ◌≤◌, Bool, true, false, not, cond, ◌&&◌, ◌||◌, ◌⊎◌, inl, inr, nat_eq, List, [], ◌∷◌}
use Rattle.std.proofs.Common.{Option, Some, None, is_some, refl, sym, ap, subst, arith, lit≤, true≢false}
use Rattle.std.proofs.lemmas.Bool.{and_from}
use Rattle.std.proofs.lemmas.Bool.Decides.{nat_tests}
use Rattle.std.specs.Char.{digit_value}
use Rattle.std.specs.List.{list_all}
use Rattle.sf_base.specs.Bytes.{is_white, is_ink}
use Rattle.sf_format.specs.declared.directive.Base.{Base}
use Rattle.sf_format.specs.declared.directive.Base.TheVariants.{Dec, Oct, Hex, Bin, Auto, AutoBin}
use Rattle.sf_format.specs.declared.directive.Numeral.{Numeral}
use Rattle.sf_format.specs.Leads.{has_plus, has_minus, has_prefix}
use Rattle.sf_float_read.specs.declared.item.reached.Radix.TheVariants.{Ten, Sixteen}
use Rattle.sf_float_read.specs.declared.item.reached.Reached.{Reached}
use Rattle.sf_float_read.specs.declared.item.reached.Reached.TheVariants as at
use Rattle.sf_float_read.specs.item.Tests.{next}
use Rattle.sf_float_read.specs.item.Tests as floats
use Rattle.sf_item.specs.Radices.{radices, first_radix, zero_radix, radix_of_letter, prefix_radix}
use Rattle.sf_item.specs.Progress.{Progress, Start, Signed, Zero, Prefix, Digits, with_digit, with_first_digit, after_zero, advance}
use Rattle.sf_item.specs.Tests.{read}
use Rattle.sf_item.proofs.Integers.{by_lt, by_eq}

-- ---- white space

-- the six of them
white_is_one : (b : ℕ) → is_white b ≡ true
    → (b ≡ 32) ⊎ (b ≡ 9) ⊎ (b ≡ 10) ⊎ (b ≡ 11) ⊎ (b ≡ 12) ⊎ (b ≡ 13)
white_is_one b h = grind (arith, nat_tests, h)

white_cases : (P : ℕ → Type 0) → P 32 → P 9 → P 10 → P 11 → P 12 → P 13 → (b : ℕ) → is_white b ≡ true → P b
white_cases P p32 p9 p10 p11 p12 p13 b h = elim (white_is_one b h) [
  | inl e ↦ subst P (sym e) p32
  | inr o ↦ elim o [
    | inl e ↦ subst P (sym e) p9
    | inr o ↦ elim o [
      | inl e ↦ subst P (sym e) p10
      | inr o ↦ elim o [
        | inl e ↦ subst P (sym e) p11
        | inr o ↦ elim o [ inl e ↦ subst P (sym e) p12 | inr e ↦ subst P (sym e) p13 ]
      ]
    ]
  ]
]

white_value : (b : ℕ) → is_white b ≡ true → digit_value b ≡ 36
white_value b h = white_cases (λ b. digit_value b ≡ 36) refl refl refl refl refl refl b h

-- a byte with which something goes on, where nothing goes on with white space
ink_by : {A : Type 0} (b : ℕ) (o : Option A) → (is_white b ≡ true → o ≡ None) → is_some o ≡ true → is_ink b ≡ true
ink_by b o ends some = go (is_white b) ends
  where
    go : (w : Bool) → (w ≡ true → o ≡ None) → not w ≡ true
    go true ends = absurd (true≢false (sym some ∙ ap is_some (ends refl)))
    go false ends = refl

-- ---- floats

white_ends : (r : Reached) (b : ℕ) → is_white b ≡ true → next r b ≡ None
white_ends at.Start b h = white_cases (λ b. next at.Start b ≡ None) refl refl refl refl refl refl b h
white_ends at.Signed b h = white_cases (λ b. next at.Signed b ≡ None) refl refl refl refl refl refl b h
white_ends at.DecimalStart b h = white_cases (λ b. next at.DecimalStart b ≡ None) refl refl refl refl refl refl b h
white_ends at.DecimalSigned b h = white_cases (λ b. next at.DecimalSigned b ≡ None) refl refl refl refl refl refl b h
white_ends at.Zero b h = white_cases (λ b. next at.Zero b ≡ None) refl refl refl refl refl refl b h
white_ends at.Prefix b h = white_cases (λ b. next at.Prefix b ≡ None) refl refl refl refl refl refl b h
white_ends (at.Whole Ten) b h = white_cases (λ b. next (at.Whole Ten) b ≡ None) refl refl refl refl refl refl b h
white_ends (at.Whole Sixteen) b h = white_cases (λ b. next (at.Whole Sixteen) b ≡ None) refl refl refl refl refl refl b h
white_ends (at.Point Ten) b h = white_cases (λ b. next (at.Point Ten) b ≡ None) refl refl refl refl refl refl b h
white_ends (at.Point Sixteen) b h = white_cases (λ b. next (at.Point Sixteen) b ≡ None) refl refl refl refl refl refl b h
white_ends (at.Fraction Ten) b h = white_cases (λ b. next (at.Fraction Ten) b ≡ None) refl refl refl refl refl refl b h
white_ends (at.Fraction Sixteen) b h = white_cases (λ b. next (at.Fraction Sixteen) b ≡ None) refl refl refl refl refl refl b h
white_ends at.Letter b h = white_cases (λ b. next at.Letter b ≡ None) refl refl refl refl refl refl b h
white_ends at.LetterSign b h = white_cases (λ b. next at.LetterSign b ≡ None) refl refl refl refl refl refl b h
white_ends at.Exponent b h = white_cases (λ b. next at.Exponent b ≡ None) refl refl refl refl refl refl b h
white_ends at.I b h = white_cases (λ b. next at.I b ≡ None) refl refl refl refl refl refl b h
white_ends at.In b h = white_cases (λ b. next at.In b ≡ None) refl refl refl refl refl refl b h
white_ends at.Inf b h = white_cases (λ b. next at.Inf b ≡ None) refl refl refl refl refl refl b h
white_ends at.Infi b h = white_cases (λ b. next at.Infi b ≡ None) refl refl refl refl refl refl b h
white_ends at.Infin b h = white_cases (λ b. next at.Infin b ≡ None) refl refl refl refl refl refl b h
white_ends at.Infini b h = white_cases (λ b. next at.Infini b ≡ None) refl refl refl refl refl refl b h
white_ends at.Infinit b h = white_cases (λ b. next at.Infinit b ≡ None) refl refl refl refl refl refl b h
white_ends at.Infinity b h = white_cases (λ b. next at.Infinity b ≡ None) refl refl refl refl refl refl b h
white_ends at.N b h = white_cases (λ b. next at.N b ≡ None) refl refl refl refl refl refl b h
white_ends at.Na b h = white_cases (λ b. next at.Na b ≡ None) refl refl refl refl refl refl b h
white_ends at.Nan b h = white_cases (λ b. next at.Nan b ≡ None) refl refl refl refl refl refl b h
white_ends at.Open b h = white_cases (λ b. next at.Open b ≡ None) refl refl refl refl refl refl b h
white_ends at.Closed b h = white_cases (λ b. next at.Closed b ≡ None) refl refl refl refl refl refl b h

pub float_inks : (r : Reached) (t : List ℕ) → is_some (floats.read (Some r) t) ≡ true → list_all is_ink t ≡ true
float_inks r [] some = refl
float_inks r (b ∷ t) some = go (next r b) refl some (λ q. float_inks q t)
  where
    go : (o : Option Reached) → next r b ≡ o → is_some (floats.read o t) ≡ true
        → ((q : Reached) → is_some (floats.read (Some q) t) ≡ true → list_all is_ink t ≡ true) → list_all is_ink (b ∷ t) ≡ true
    go None e some rest = absurd (true≢false (sym some))
    go (Some q) e some rest =
        and_from (is_ink b) (list_all is_ink t) (ink_by b (next r b) (white_ends r b) (ap is_some e)) (rest q some)

-- ---- integers

-- the radix is one whose digits have a value below 36
abbrev LowRadix : Progress → Type 0
LowRadix (Prefix sign radix) = radix ≤ 36
LowRadix (Digits sign radix value) = radix ≤ 36
LowRadix _ = Unit {0}

abbrev MayBeLow : Option Progress → Type 0
MayBeLow None = Unit {0}
MayBeLow (Some p) = LowRadix p

abbrev LowOption : Option ℕ → Type 0
LowOption None = Unit {0}
LowOption (Some radix) = radix ≤ 36

first_low : (base : Base) → (radices base).first ≤ 36
first_low Dec = lit≤ tt
first_low Oct = lit≤ tt
first_low Hex = lit≤ tt
first_low Bin = lit≤ tt
first_low Auto = lit≤ tt
first_low AutoBin = lit≤ tt

zero_low : (base : Base) → (radices base).zero ≤ 36
zero_low Dec = lit≤ tt
zero_low Oct = lit≤ tt
zero_low Hex = lit≤ tt
zero_low Bin = lit≤ tt
zero_low Auto = lit≤ tt
zero_low AutoBin = lit≤ tt

x_low : (base : Base) → LowOption (radices base).x
x_low Dec = tt
x_low Oct = tt
x_low Hex = lit≤ tt
x_low Bin = tt
x_low Auto = lit≤ tt
x_low AutoBin = lit≤ tt

b_low : (base : Base) → LowOption (radices base).b
b_low Dec = tt
b_low Oct = tt
b_low Hex = tt
b_low Bin = lit≤ tt
b_low Auto = tt
b_low AutoBin = lit≤ tt

-- one of two, by a test
either : {A : Type 0} (P : A → Type 0) (v : Bool) (x y : A) → P x → P y → P (cond v x y)
either P true x y px py = px
either P false x y px py = py

prefix_low : (numeral : Numeral) (b : ℕ) → LowOption (prefix_radix numeral b)
prefix_low numeral b =
    let row = radices numeral.base in
    either LowOption (has_prefix numeral.lead) (radix_of_letter row b) None
    (either LowOption (nat_eq b 120 || nat_eq b 88) row.x (cond (nat_eq b 98 || nat_eq b 66) row.b None) (x_low numeral.base)
    (either LowOption (nat_eq b 98 || nat_eq b 66) row.b None (b_low numeral.base) tt))
    tt

digit_low : (sign : Bool) (radix value b : ℕ) → radix ≤ 36 → MayBeLow (with_digit sign radix value b)
digit_low sign radix value b low =
    by_lt (digit_value b) radix (λ v. MayBeLow (cond v (Some (Digits sign radix (value * radix + digit_value b))) None))
    (λ _. low) (λ _. tt)

first_digit_low : (numeral : Numeral) (sign : Bool) (b : ℕ) → MayBeLow (with_first_digit numeral sign b)
first_digit_low numeral sign b =
    by_eq b 48 (λ v. MayBeLow (cond v (Some (Zero sign)) (with_digit sign (first_radix numeral) 0 b))) (λ _. tt)
    (λ _. digit_low sign (first_radix numeral) 0 b (first_low numeral.base))

after_zero_low : (numeral : Numeral) (sign : Bool) (b : ℕ) (o : Option ℕ) → LowOption o
    → MayBeLow (after_zero sign (zero_radix numeral) b o)
after_zero_low numeral sign b None low = digit_low sign (zero_radix numeral) 0 b (zero_low numeral.base)
after_zero_low numeral sign b (Some radix) low = low

next_low : (numeral : Numeral) (p : Progress) (b : ℕ) → LowRadix p → MayBeLow (advance numeral p b)
next_low numeral Start b low =
    either MayBeLow (has_plus numeral.lead && nat_eq b 43) (Some (Signed false))
    (cond (has_minus numeral.lead && nat_eq b 45) (Some (Signed true)) (with_first_digit numeral false b)) tt
    (either MayBeLow (has_minus numeral.lead && nat_eq b 45) (Some (Signed true)) (with_first_digit numeral false b) tt
    (first_digit_low numeral false b))
next_low numeral (Signed sign) b low = first_digit_low numeral sign b
next_low numeral (Zero sign) b low = after_zero_low numeral sign b (prefix_radix numeral b) (prefix_low numeral b)
next_low numeral (Prefix sign radix) b low = digit_low sign radix 0 b low
next_low numeral (Digits sign radix value) b low = digit_low sign radix value b low

white_no_digit : (sign : Bool) (radix value b : ℕ) → radix ≤ 36 → is_white b ≡ true → with_digit sign radix value b ≡ None
white_no_digit sign radix value b low white =
    let high = white_value b white in
    by_lt (digit_value b) radix (λ v. cond v (Some (Digits sign radix (value * radix + digit_value b))) None ≡ None)
    (λ below. absurd (omega (arith, below, high, low))) (λ _. refl)

white_no_first : (numeral : Numeral) (sign : Bool) (b : ℕ) → is_white b ≡ true → with_first_digit numeral sign b ≡ None
white_no_first numeral sign b white =
    ap (λ v. cond v (Some (Zero sign)) (with_digit sign (first_radix numeral) 0 b))
    (white_cases (λ b. nat_eq b 48 ≡ false) refl refl refl refl refl refl b white)
    ∙ white_no_digit sign (first_radix numeral) 0 b (first_low numeral.base) white

cond_same : {A : Type 0} (v : Bool) (x : A) → cond v x x ≡ x
cond_same true x = refl
cond_same false x = refl

white_no_prefix : (numeral : Numeral) (b : ℕ) → is_white b ≡ true → prefix_radix numeral b ≡ None
white_no_prefix numeral b white =
    ap (λ o. cond (has_prefix numeral.lead) o None)
    (white_cases (λ b. radix_of_letter (radices numeral.base) b ≡ None) refl refl refl refl refl refl b white)
    ∙ cond_same (has_prefix numeral.lead) None

no_and : (a b : Bool) → b ≡ false → (a && b) ≡ false
no_and true b e = e
no_and false b e = refl

white_no_start : (numeral : Numeral) (b : ℕ) → is_white b ≡ true → advance numeral Start b ≡ None
white_no_start numeral b white =
    ap (λ v. cond v (Some (Signed false)) (cond (has_minus numeral.lead && nat_eq b 45) (Some (Signed true))
    (with_first_digit numeral false b)))
    (no_and (has_plus numeral.lead) (nat_eq b 43) (white_cases (λ b. nat_eq b 43 ≡ false) refl refl refl refl refl refl b white))
    ∙ ap (λ v. cond v (Some (Signed true)) (with_first_digit numeral false b))
    (no_and (has_minus numeral.lead) (nat_eq b 45) (white_cases (λ b. nat_eq b 45 ≡ false) refl refl refl refl refl refl b white))
    ∙ white_no_first numeral false b white

white_stops : (numeral : Numeral) (p : Progress) (b : ℕ) → LowRadix p → is_white b ≡ true → advance numeral p b ≡ None
white_stops numeral Start b low white = white_no_start numeral b white
white_stops numeral (Signed sign) b low white = white_no_first numeral sign b white
white_stops numeral (Zero sign) b low white =
    ap (after_zero sign (zero_radix numeral) b) (white_no_prefix numeral b white)
    ∙ white_no_digit sign (zero_radix numeral) 0 b (zero_low numeral.base) white
white_stops numeral (Prefix sign radix) b low white = white_no_digit sign radix 0 b low white
white_stops numeral (Digits sign radix value) b low white = white_no_digit sign radix value b low white

integer_inks_from : (numeral : Numeral) (p : Progress) (t : List ℕ) → LowRadix p → is_some (read numeral (Some p) t) ≡ true
    → list_all is_ink t ≡ true
integer_inks_from numeral p [] low some = refl
integer_inks_from numeral p (b ∷ t) low some =
    go (advance numeral p b) refl (next_low numeral p b low) some (λ q. integer_inks_from numeral q t)
  where
    go : (o : Option Progress) → advance numeral p b ≡ o → MayBeLow o → is_some (read numeral o t) ≡ true
        → ((q : Progress) → LowRadix q → is_some (read numeral (Some q) t) ≡ true → list_all is_ink t ≡ true)
        → list_all is_ink (b ∷ t) ≡ true
    go None e low' some rest = absurd (true≢false (sym some))
    go (Some q) e low' some rest =
        and_from (is_ink b) (list_all is_ink t)
        (ink_by b (advance numeral p b) (white_stops numeral p b low) (ap is_some e)) (rest q low' some)

pub integer_inks : (numeral : Numeral) (t : List ℕ) → is_some (read numeral (Some Start) t) ≡ true → list_all is_ink t ≡ true
integer_inks numeral t some = integer_inks_from numeral Start t tt some
