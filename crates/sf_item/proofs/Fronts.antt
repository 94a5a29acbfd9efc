-- A front of what can be taken can be taken, and an integer can go on.
use Rattle.std.proofs.Common.{◌≡◌, ℕ, ◌+◌, ◌*◌, ◌<◌, Bool, true, false, ◌&&◌, nat_le, cond, List, [], ◌∷◌, ◌++◌, length, Option, Some, None}
use Rattle.std.proofs.Common.{is_some, unwrap_or, take, slice_index_or, refl, sym, ap, ◌∙◌, subst, arith, true≢false}
use Rattle.std.proofs.lemmas.Bool.Decides.{nat_tests}
use Rattle.std.proofs.lemmas.List.{append_assoc, append-nil}
use Rattle.std.proofs.lemmas.Grind.{common_steps}
use Rattle.std.specs.List.{list_all}
use Rattle.sf_base.specs.Sets.{has_byte}
use Rattle.sf_format.specs.declared.directive.Numeral.{Numeral}
use Rattle.sf_format.specs.declared.directive.Shape.{Shape}
use Rattle.sf_format.specs.declared.directive.Shape.TheVariants.{Int, Text, Set, Chars, Float, Count}
use Rattle.sf_format.specs.declared.directive.Conversion.{Conversion}
use Rattle.sf_float_read.specs.declared.item.reached.Reached as place
use Rattle.sf_float_read.specs.item.Tests as floats
use Rattle.sf_item.specs.Matching.{forms_of}
use Rattle.sf_item.specs.Radices.{zero_radix}
use Rattle.sf_item.specs.Progress.{Progress, Start, Signed, Zero, Prefix, Digits, with_digit, advance}
use Rattle.sf_item.specs.Taking.{IsInt}
use Rattle.sf_item.specs.Tests.{read, is_ink, shape_begins, is_within, can_take, has_item}
use Rattle.sf_item.proofs.Deciding.{Tests, read_radix}
use Rattle.sf_item.proofs.Integers.{by_lt, HasRadix, MayHaveRadix, some_zero_radix, second_zero, zero_first}

-- ---- tests

pub both : (a b : Bool) → a ≡ true → b ≡ true → (a && b) ≡ true
both true b first second = second
both false b first second = absurd (true≢false (sym first))

pub left_of : (a b : Bool) → (a && b) ≡ true → a ≡ true
left_of true b e = refl
left_of false b e = e

pub right_of : (a b : Bool) → (a && b) ≡ true → b ≡ true
right_of true b e = e
right_of false b e = absurd (true≢false (sym e))

-- ---- a front

pub length_more : (f : List ℕ) (b : ℕ) → length (f ++ b ∷ []) ≡ length f + 1
length_more f b = grind (arith, common_steps)

read_front : (numeral : Numeral) (o : Option Progress) (f : List ℕ) (b : ℕ)
    → is_some (read numeral o (f ++ b ∷ [])) ≡ true → is_some (read numeral o f) ≡ true
read_front numeral None f b e = e
read_front numeral (Some p) [] b e = refl
read_front numeral (Some p) (x ∷ f) b e = read_front numeral (advance numeral p x) f b e

float_front : (o : Option place.Reached) (f : List ℕ) (b : ℕ) → is_some (floats.read o (f ++ b ∷ [])) ≡ true
    → is_some (floats.read o f) ≡ true
float_front None f b e = e
float_front (Some r) [] b e = refl
float_front (Some r) (x ∷ f) b e = float_front (floats.next r x) f b e

all_front : (p : ℕ → Bool) (f : List ℕ) (b : ℕ) → list_all p (f ++ b ∷ []) ≡ true → list_all p f ≡ true
all_front p [] b e = refl
all_front p (x ∷ f) b e =
    both (p x) (list_all p f) (left_of (p x) (list_all p (f ++ b ∷ [])) e)
    (all_front p f b (right_of (p x) (list_all p (f ++ b ∷ [])) e))

less_at_most : (m n : ℕ) → nat_le (m + 1) n ≡ true → nat_le m n ≡ true
less_at_most m n e = grind (arith, nat_tests)

short_front : (f : List ℕ) (b n : ℕ) → nat_le (length (f ++ b ∷ [])) n ≡ true → nat_le (length f) n ≡ true
short_front f b n e = less_at_most (length f) n (subst (λ m. nat_le m n ≡ true) (length_more f b) e)

pub shape_front : (shape : Shape) (width : Option ℕ) (f : List ℕ) (b : ℕ)
    → shape_begins shape width (f ++ b ∷ []) ≡ true → shape_begins shape width f ≡ true
shape_front (Int numeral) width f b e = read_front numeral (Some Start) f b e
shape_front (Text lead) width f b e = all_front is_ink f b e
shape_front (Set members) width f b e = all_front (has_byte members) f b e
shape_front Chars width f b e = short_front f b (unwrap_or width 1) e
shape_front (Float lead) width f b e = float_front (Some (floats.start_of (forms_of lead))) f b e
shape_front Count width f b e = e

within_front : (width : Option ℕ) (f : List ℕ) (b : ℕ)
    → is_within width (length (f ++ b ∷ [])) ≡ true → is_within width (length f) ≡ true
within_front None f b e = refl
within_front (Some w) f b e = short_front f b w e

-- without its last byte, what can be taken can be taken
pub can_take_front : (c : Conversion) (f : List ℕ) (b : ℕ) → can_take c (f ++ b ∷ []) ≡ true → can_take c f ≡ true
can_take_front c f b e =
    both (is_within c.width (length f)) (shape_begins c.shape c.width f)
    (within_front c.width f b (left_of (is_within c.width (length (f ++ b ∷ []))) (shape_begins c.shape c.width (f ++ b ∷ [])) e))
    (shape_front c.shape c.width f b (right_of (is_within c.width (length (f ++ b ∷ []))) (shape_begins c.shape c.width (f ++ b ∷ [])) e))

-- ---- nothing

nothing_within : (width : Option ℕ) → is_within width 0 ≡ true
nothing_within None = refl
nothing_within (Some w) = grind (arith, nat_tests)

nothing_fits : (n : ℕ) → nat_le 0 n ≡ true
nothing_fits n = grind (arith, nat_tests)

-- the shape is of an item; the number of bytes consumed takes none
abbrev pub HasItem : Shape → Type 0
HasItem Count = ⊥
HasItem _ = Unit {0}

nothing_begins : (shape : Shape) (width : Option ℕ) → HasItem shape → shape_begins shape width [] ≡ true
nothing_begins (Int numeral) width h = refl
nothing_begins (Text lead) width h = refl
nothing_begins (Set members) width h = refl
nothing_begins Chars width h = nothing_fits (unwrap_or width 1)
nothing_begins (Float lead) width h = refl
nothing_begins Count width h = absurd h

-- before the first byte
pub item_can_take_nothing : (c : Conversion) → HasItem c.shape → can_take c [] ≡ true
item_can_take_nothing c h =
    both (is_within c.width 0) (shape_begins c.shape c.width []) (nothing_within c.width) (nothing_begins c.shape c.width h)

-- the test says so
pub tests_item : (shape : Shape) → Tests (has_item shape) (HasItem shape)
tests_item (Int numeral) = record { from = λ e. tt; to = λ h. refl }
tests_item (Text lead) = record { from = λ e. tt; to = λ h. refl }
tests_item (Set members) = record { from = λ e. tt; to = λ h. refl }
tests_item Chars = record { from = λ e. tt; to = λ h. refl }
tests_item (Float lead) = record { from = λ e. tt; to = λ h. refl }
tests_item Count = record { from = λ e. absurd (true≢false (sym e)); to = λ h. absurd h }

-- ---- one 0 more

digit_goes_on : (sign : Bool) (radix value : ℕ) → 0 < radix → (q : Progress) × (with_digit sign radix value 48 ≡ Some q)
digit_goes_on sign radix value some =
    by_lt 0 radix (λ v. (q : Progress) × (◌≡◌ {A = Option Progress} (cond v (Some (Digits sign radix (value * radix + 0))) None) (Some q)))
    (λ below. (Digits sign radix (value * radix + 0), refl))
    (λ above. absurd (omega (arith, some)))

-- an integer can always go on with a 0
goes_on : (numeral : Numeral) (p : Progress) → HasRadix p → (q : Progress) × (advance numeral p 48 ≡ Some q)
goes_on numeral Start h = (Zero false, zero_first numeral)
goes_on numeral (Signed sign) h = (Zero sign, refl)
goes_on numeral (Zero sign) h =
    subst (λ o. (q : Progress) × (o ≡ Some q)) (sym (second_zero numeral sign))
    (digit_goes_on sign (zero_radix numeral) 0 (some_zero_radix numeral))
goes_on numeral (Prefix sign radix) h = digit_goes_on sign radix 0 h
goes_on numeral (Digits sign radix value) h = digit_goes_on sign radix value h

pub read_more : (numeral : Numeral) (o : Option Progress) (f g : List ℕ) → read numeral o (f ++ g) ≡ read numeral (read numeral o f) g
read_more numeral None f g = refl
read_more numeral (Some p) [] g = refl
read_more numeral (Some p) (b ∷ f) g = read_more numeral (advance numeral p b) f g

zero_read : (numeral : Numeral) (o : Option Progress) → MayHaveRadix o → is_some o ≡ true → is_some (read numeral o (48 ∷ [])) ≡ true
zero_read numeral None h some = some
zero_read numeral (Some p) h some = let (q, is) = goes_on numeral p h in ap (λ o. is_some (read numeral o [])) is

pub zero_begins : (numeral : Numeral) (f : List ℕ) → is_some (read numeral (Some Start) f) ≡ true
    → is_some (read numeral (Some Start) (f ++ 48 ∷ [])) ≡ true
zero_begins numeral f some =
    ap is_some (read_more numeral (Some Start) f (48 ∷ []))
    ∙ zero_read numeral (read numeral (Some Start) f) (read_radix numeral (Some Start) f tt) some

integer_shape_goes_on : (shape : Shape) (width : Option ℕ) (f : List ℕ) → IsInt shape
    → shape_begins shape width f ≡ true → shape_begins shape width (f ++ 48 ∷ []) ≡ true
integer_shape_goes_on shape width f int =
    let (numeral, is) = int in
    subst (λ s. shape_begins s width f ≡ true → shape_begins s width (f ++ 48 ∷ []) ≡ true) (sym is) (zero_begins numeral f)

-- within the width, an integer can go on with a 0
pub integer_goes_on : (c : Conversion) (f : List ℕ) → IsInt c.shape → can_take c f ≡ true → is_within c.width (length f + 1) ≡ true
    → can_take c (f ++ 48 ∷ []) ≡ true
integer_goes_on c f int can room =
    both (is_within c.width (length (f ++ 48 ∷ []))) (shape_begins c.shape c.width (f ++ 48 ∷ []))
    (subst (λ n. is_within c.width n ≡ true) (sym (length_more f 48)) room)
    (integer_shape_goes_on c.shape c.width f int (right_of (is_within c.width (length f)) (shape_begins c.shape c.width f) can))

-- ---- the bytes of a piece

-- what was read of a piece, with its next byte
pub one_more : (f piece : List ℕ) (i d : ℕ) → i < length piece → (f ++ take i piece) ++ slice_index_or piece i d ∷ []
    ≡ f ++ take (i + 1) piece
one_more f piece i d below = grind (arith, common_steps, below)

-- the fronts of what can be taken can be taken
pub can_take_fronts : (c : Conversion) (f t : List ℕ) → can_take c (f ++ t) ≡ true → can_take c f ≡ true
can_take_fronts c f [] e = subst (λ g. can_take c g ≡ true) (append-nil f) e
can_take_fronts c f (b ∷ t) e =
    can_take_front c f b (can_take_fronts c (f ++ b ∷ []) t (subst (λ g. can_take c g ≡ true) (sym (append_assoc f (b ∷ []) t)) e))
