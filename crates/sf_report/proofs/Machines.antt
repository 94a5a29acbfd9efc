-- Laws of the directives' machines that the run rests on.
use Rattle.std.proofs.lemmas.Bool.{and_from, and_parts, not-false}
use Rattle.std.proofs.lemmas.Bool.Decides.{nat_tests}
use Rattle.std.proofs.lemmas.Grind.{common_steps}
use Rattle.std.proofs.Common.{◌≡◌, ℕ, zero, suc, ◌+◌, ◌<◌, ◌≤◌, Bool, true, false, not, cond, ◌&&◌, nat_eq, List, [], ◌∷◌, ◌++◌, length}
use Rattle.std.proofs.Common.{Option, Some, None, is_some, refl, sym, ap, subst, ◌∙◌, arith, lit<, true≢false, nat_le, nat_lt, unwrap_or}
use Rattle.std.proofs.Common.{length-append}
use Rattle.std.specs.List.{list_all}
use Rattle.sf_base.specs.Bytes.{is_white}
use Rattle.sf_base.specs.Blanks.{are_white}
use Rattle.sf_format.specs.declared.directive.Lead.{Lead}
use Rattle.sf_format.specs.declared.directive.Lead.TheVariants.{Any, Minus, Nothing}
use Rattle.sf_format.specs.declared.directive.Shape.{Shape}
use Rattle.sf_format.specs.declared.directive.Shape.TheVariants.{Int, Text, Set, Chars, Float, Count}
use Rattle.sf_format.specs.declared.directive.Conversion.{Conversion}
use Rattle.sf_format.specs.declared.directive.Directive.{Directive}
use Rattle.sf_format.specs.declared.directive.Directive.TheVariants.{Space, Byte, Percent, Conv, Opens}
use Rattle.sf_format.specs.declared.directive.Literal.{Literal}
use Rattle.sf_format.specs.declared.directive.Literal.TheVariants as literal
use Rattle.sf_format.specs.declared.directive.Opener.{Opener}
use Rattle.sf_format.specs.Proper.{IsProper, IsProperLiteral, IsProperShape, IsProperWidth}
use Rattle.sf_base.specs.Sets.{has_byte}
use Rattle.sf_float_read.specs.item.Tests.{begins_float_of}
use Rattle.sf_item.specs.Matching.{forms_of}
use Rattle.sf_item.specs.Columns.{column_width}
use Rattle.sf_item.specs.ColumnTests.{column_text}
use Rattle.sf_item.specs.Taking.{IsInt}
use Rattle.sf_item.specs.Tests.{is_within, shape_begins, can_take}
use Rattle.sf_item.proofs.Fronts.{HasItem, can_take_front, integer_goes_on, zero_begins}
use Rattle.sf_item.proofs.Deciding.{tests_same}
use Rattle.sf_report.proofs.FloatBytes.{float_byte}
use Rattle.sf_report.specs.declared.outcome.Status.TheVariants.{TooLong}
use Rattle.sf_report.specs.Steps.{StepEnd, Fails, missed}
use Rattle.sf_report.specs.Machine.{Stage, Skipping, Taken, Item, shape_skips, item_stepped, stepped, some_below, is_full, finished}
use Rattle.sf_report.specs.Machine.{conversion_stepped, column_taken, stepped_by, conversion_finished, column_finished, finished_by}
use Rattle.sf_report.specs.Machine.{byte_finished, empty_end, literal_stepped, text_end}
use Rattle.sf_report.specs.Residual.{Part, choose, one_from}

pub some_is : {A : Type 0} (a b : A) → Some a ≡ Some b → a ≡ b
some_is a b e = cc

-- ---- a byte that would be taken

abbrev SomeBelow : ℕ → (ℕ → Bool) → Type 0
SomeBelow n test = (b : ℕ) × (b < n) × (test b ≡ true)

pub some_from : (n : ℕ) (test : ℕ → Bool) → some_below n test ≡ true → SomeBelow n test
some_from zero test e = grind arith
some_from (suc n) test e = grind (arith, some_from n)

pub some_to : (n : ℕ) (test : ℕ → Bool) (b : ℕ) → b < n → test b ≡ true → some_below n test ≡ true
some_to zero test b below h = grind arith
some_to (suc n) test b below h = grind (arith, some_to n test b)

abbrev takes : Directive → Stage → ℕ → Bool
takes d q b = is_some (stepped d q b)

some_of : {A : Type 0} (o : Option A) → is_some o ≡ true → (a : A) × (o ≡ Some a)
some_of None e = absurd (true≢false (sym e))
some_of (Some a) e = (a, refl)

-- a directive that is not full takes some byte
pub can_take_one : (d : Directive) (q : Stage) → is_full d q ≡ false → (b : ℕ) × (b < 256) × (r : Stage) × (stepped d q b ≡ Some r)
unfolding is_full
can_take_one d q e =
    let (b, below, h) = some_from 256 (takes d q) (not-false _ e) in
    let (r, is) = some_of (stepped d q b) h in
    (b, below, r, is)

-- one that takes some byte is not full
pub not_full : (d : Directive) (q : Stage) (b : ℕ) (r : Stage) → b < 256 → stepped d q b ≡ Some r → is_full d q ≡ false
unfolding is_full
not_full d q b r below e = ap not (some_to 256 (takes d q) b below (ap is_some e))

-- one that takes no byte is full
pub full_of_none : (d : Directive) (q : Stage) → ((b : ℕ) → b < 256 → stepped d q b ≡ None) → is_full d q ≡ true
unfolding is_full
full_of_none d q none = ap not (no_byte (some_below 256 (takes d q)) refl)
  where
    no_byte : (v : Bool) → some_below 256 (takes d q) ≡ v → v ≡ false
    no_byte true e =
        let (b, below, h) = some_from 256 (takes d q) e in
        absurd (true≢false (sym h ∙ ap is_some (none b below)))
    no_byte false e = refl

-- ---- a full directive takes nothing

-- whether a byte is last is all that the lengths see
same_length : (f : List ℕ) (b e : ℕ) → length (f ++ b ∷ []) ≡ length (f ++ e ∷ [])
same_length f b e = omega (arith, length-append f (b ∷ []), length-append f (e ∷ []))

all_with : (p : ℕ → Bool) (f : List ℕ) (b e : ℕ) → list_all p (f ++ b ∷ []) ≡ true → p e ≡ true → list_all p (f ++ e ∷ []) ≡ true
all_with p f b e h one = grind (arith, common_steps)

abbrev Begins : Shape → Option ℕ → List ℕ → ℕ → Type 0
Begins shape width f b = shape_begins shape width (f ++ b ∷ []) ≡ true

-- a byte that goes on with each item of the shape, which is no float's, where some byte does
pub item_byte : (shape : Shape) → IsProperShape shape → ℕ
item_byte (Int numeral) proper = 48
item_byte (Text lead) proper = 65
item_byte (Set members) proper = proper.0
item_byte Chars proper = 0
item_byte (Float lead) proper = 0
item_byte Count proper = 0

pub item_byte-below : (shape : Shape) (proper : IsProperShape shape) → item_byte shape proper < 256
unfolding item_byte
item_byte-below shape proper = grind arith

-- the shape is that of a float
abbrev pub IsReal : Shape → Type 0
IsReal (Float lead) = Unit {0}
IsReal _ = ⊥

other_begins : (shape : Shape) (width : Option ℕ) → (IsInt shape → ⊥) → (IsReal shape → ⊥) → (proper : IsProperShape shape)
    → (f : List ℕ) (b : ℕ)
    → Begins shape width f b
    → Begins shape width f (item_byte shape proper)
unfolding item_byte
other_begins shape width other no_float proper f b h = grind (arith, all_with, same_length)

integer_byte : (shape : Shape) (proper : IsProperShape shape) → IsInt shape → item_byte shape proper ≡ 48
unfolding item_byte
integer_byte shape proper int = grind arith

-- where some number is taken after f, that byte is
pub item_byte-taken : (c : Conversion) (proper : IsProperShape c.shape) → (IsReal c.shape → ⊥) → (f : List ℕ) (b : ℕ)
    → can_take c (f ++ b ∷ []) ≡ true
    → can_take c (f ++ item_byte c.shape proper ∷ []) ≡ true
item_byte-taken c proper no_float f b h = by_shape c.shape refl
  where
    within : is_within c.width (length (f ++ b ∷ [])) ≡ true
    within = (and_parts (is_within c.width (length (f ++ b ∷ []))) (shape_begins c.shape c.width (f ++ b ∷ [])) h).0

    begins : Begins c.shape c.width f b
    begins = (and_parts (is_within c.width (length (f ++ b ∷ []))) (shape_begins c.shape c.width (f ++ b ∷ [])) h).1

    longer : length (f ++ b ∷ []) ≡ length f + 1
    longer = omega (arith, length-append f (b ∷ []))

    other : (IsInt c.shape → ⊥) → can_take c (f ++ item_byte c.shape proper ∷ []) ≡ true
    other no_integer = grind (arith, and_from, item_byte, same_length, within, other_begins, begins)

    integer : IsInt c.shape → can_take c (f ++ item_byte c.shape proper ∷ []) ≡ true
    integer int = grind (arith, integer_byte, integer_goes_on, can_take_front, longer, within)

    by_shape : (shape : Shape) → c.shape ≡ shape → can_take c (f ++ item_byte c.shape proper ∷ []) ≡ true
    by_shape shape e = grind (arith, integer, other)

-- where some number is taken after f, some byte is
some_byte-taken : (c : Conversion) (proper : IsProperShape c.shape) (f : List ℕ) (b : ℕ) → can_take c (f ++ b ∷ []) ≡ true
    → (o : ℕ) × (o < 256) × (can_take c (f ++ o ∷ []) ≡ true)
some_byte-taken c proper f b h = by_shape c.shape refl
  where
    begins : (shape : Shape) → c.shape ≡ shape → shape_begins shape c.width (f ++ b ∷ []) ≡ true
    begins shape e = ap (λ s. shape_begins s c.width (f ++ b ∷ [])) (sym e)
        ∙ (and_parts (is_within c.width (length (f ++ b ∷ []))) (shape_begins c.shape c.width (f ++ b ∷ [])) h).1

    fixed : (shape : Shape) → c.shape ≡ shape → (IsReal shape → ⊥) → (o : ℕ) × (o < 256) × (can_take c (f ++ o ∷ []) ≡ true)
    fixed shape e none = (
      item_byte c.shape proper,
      item_byte-below c.shape proper,
      item_byte-taken c proper (λ real. none (subst IsReal e real)) f b h,
    )

    by_shape : (shape : Shape) → c.shape ≡ shape → (o : ℕ) × (o < 256) × (can_take c (f ++ o ∷ []) ≡ true)
    by_shape (Float lead) e = (b, float_byte (forms_of lead) f b (begins (Float lead) e), h)
    by_shape (Int numeral) e = fixed (Int numeral) e (λ real. absurd real)
    by_shape (Text lead) e = fixed (Text lead) e (λ real. absurd real)
    by_shape (Set members) e = fixed (Set members) e (λ real. absurd real)
    by_shape Chars e = fixed Chars e (λ real. absurd real)
    by_shape Count e = fixed Count e (λ real. absurd real)

-- one that takes a byte isn't full
takes_one : (d : Directive) (q : Stage) (b : ℕ) (r : Stage) → b < 256 → stepped d q b ≡ Some r → is_full d q ≡ true → ⊥
takes_one d q b r below e full = true≢false (sym full ∙ not_full d q b r below e)

same_test : (a : ℕ) → nat_eq a a ≡ true
same_test a = (tests_same a a).to refl

item_nothing : (c : Conversion) → IsProperShape c.shape → (q : Stage) (f : List ℕ) → ((b : ℕ) → stepped (Conv c) q b ≡ item_stepped c f b)
    → is_full (Conv c) q ≡ true → (b : ℕ) → item_stepped c f b ≡ None
item_nothing c proper q f is full b = by_case (can_take c (f ++ b ∷ [])) refl
  where
    by_case : (v : Bool) → can_take c (f ++ b ∷ []) ≡ v → cond v (Some (Item (f ++ b ∷ []))) None ≡ None
    by_case false e = refl
    by_case true e =
        let (o, byte, takes) = some_byte-taken c proper f b e in
        absurd (takes_one (Conv c) q o (Item (f ++ o ∷ [])) byte
        (is o ∙ ap (λ v. cond v (Some (Item (f ++ o ∷ []))) None) takes) full)

-- by whether it has =
pub steps_by : (c : Conversion) (v : Bool) → c.column ≡ v → (q : Stage) (b : ℕ) → stepped (Conv c) q b ≡ stepped_by v c q b
steps_by c v e q b = ap (λ w. stepped_by w c q b) e

conversion_nothing : (c : Conversion) → c.column ≡ false → IsProperShape c.shape → (q : Stage) (b : ℕ) → is_full (Conv c) q ≡ true
    → conversion_stepped c q b ≡ None
conversion_nothing c no_column proper Skipping b full = by_skips (shape_skips c.shape) refl
  where
    by_skips : (v : Bool) → shape_skips c.shape ≡ v → cond (shape_skips c.shape && is_white b) (Some Skipping) (item_stepped c [] b) ≡ None
    by_skips true e = absurd (takes_one (Conv c) Skipping 32 Skipping (lit< tt)
        (steps_by c false no_column Skipping 32 ∙ ap (λ v. cond (v && true) (Some Skipping) (item_stepped c [] 32)) e) full)
    by_skips false e =
        ap (λ v. cond (v && is_white b) (Some Skipping) (item_stepped c [] b)) e
        ∙ item_nothing c proper Skipping [] (λ o. steps_by c false no_column Skipping o
        ∙ ap (λ v. cond (v && is_white o) (Some Skipping) (item_stepped c [] o)) e) full b
conversion_nothing c no_column proper Taken b full = refl
conversion_nothing c no_column proper (Item f) b full = item_nothing c proper (Item f) f (λ o. steps_by c false no_column (Item f) o) full b

-- a full column has all of its bytes
pub column_nothing : (c : Conversion) (q : Stage) (f : List ℕ) → ((b : ℕ) → stepped (Conv c) q b ≡ column_taken c f b)
    → is_full (Conv c) q ≡ true → nat_lt (length f) (column_width c) ≡ false
column_nothing c q f is full = by_case (nat_lt (length f) (column_width c)) refl
  where
    by_case : (v : Bool) → nat_lt (length f) (column_width c) ≡ v → v ≡ false
    by_case false e = refl
    by_case true e = absurd (takes_one (Conv c) q 0 (Item (f ++ 0 ∷ [])) (lit< tt)
        (is 0 ∙ ap (λ v. cond v (Some (Item (f ++ 0 ∷ []))) None) e) full)

taken_nothing : (c : Conversion) (q : Stage) (f : List ℕ) → ((b : ℕ) → stepped (Conv c) q b ≡ column_taken c f b)
    → is_full (Conv c) q ≡ true → (b : ℕ) → column_taken c f b ≡ None
taken_nothing c q f is full b = ap (λ v. cond v (Some (Item (f ++ b ∷ []))) None) (column_nothing c q f is full)

full_by : (c : Conversion) → IsProperShape c.shape → (v : Bool) → c.column ≡ v → (q : Stage) (b : ℕ) → is_full (Conv c) q ≡ true
    → stepped_by v c q b ≡ None
full_by c proper false e q b full = conversion_nothing c e proper q b full
full_by c proper true e Skipping b full = taken_nothing c Skipping [] (steps_by c true e Skipping) full b
full_by c proper true e Taken b full = refl
full_by c proper true e (Item f) b full = taken_nothing c (Item f) f (steps_by c true e (Item f)) full b

opener_full : (o : Opener) → IsProperLiteral o.literal → (q : Stage) (b : ℕ) → is_full (Opens o) q ≡ true → stepped (Opens o) q b ≡ None
opener_full o proper q b full = by o.literal refl
  where
    by : (l : Literal) → o.literal ≡ l → literal_stepped o.literal q b ≡ None
    by (literal.Byte a) e = grind (
      arith,
      (takes_one (Opens o) Skipping a Taken (rw e at proper) (rw (e, same_test) refl)),
    )
    by literal.Percent e = grind (arith, (takes_one (Opens o) Skipping 37 Taken (lit< tt) (rw e refl)))

pub full_takes_nothing : (d : Directive) → IsProper d → (q : Stage) (b : ℕ) → is_full d q ≡ true → stepped d q b ≡ None
full_takes_nothing Space proper q b full = grind (arith, (takes_one Space Skipping 32 Skipping (lit< tt) refl))
full_takes_nothing (Byte a) proper q b full = grind (arith, (takes_one (Byte a) Skipping a Taken proper (rw same_test refl)))
full_takes_nothing Percent proper q b full = grind (arith, (takes_one Percent Skipping 37 Taken (lit< tt) refl))
full_takes_nothing (Conv c) proper q b full = full_by c proper.0 c.column refl q b full
full_takes_nothing (Opens o) proper q b full = opener_full o proper q b full

-- ---- the end of a full directive

within_one : (width : Option ℕ) → IsProperWidth width → is_within width 1 ≡ true
within_one width h = grind arith

one_char : (width : Option ℕ) → IsProperWidth width → nat_le 1 (unwrap_or width 1) ≡ true
one_char width h = grind arith

zero_float : (lead : Lead) → begins_float_of (forms_of lead) (48 ∷ []) ≡ true
zero_float Any = refl
zero_float Minus = refl
zero_float Nothing = refl

-- some byte begins an item
first_begins : (shape : Shape) (width : Option ℕ) → IsProperShape shape → IsProperWidth width → HasItem shape
    → (e : ℕ) × (e < 256) × (shape_begins shape width (e ∷ []) ≡ true)
first_begins (Int numeral) width proper wide item = (48, lit< tt, zero_begins numeral [] refl)
first_begins (Text lead) width proper wide item = (65, lit< tt, refl)
first_begins (Set members) width proper wide item = (proper.0, proper.1, and_from (has_byte members proper.0) true proper.2 refl)
first_begins Chars width proper wide item = (0, lit< tt, one_char width wide)
first_begins (Float lead) width proper wide item = (48, lit< tt, zero_float lead)
first_begins Count width proper wide item = absurd item

-- a column isn't full before it
pub column_not_full : (c : Conversion) → c.column ≡ true → IsProper (Conv c) → is_full (Conv c) Skipping ≡ true → ⊥
column_not_full c column proper full =
    true≢false (sym (some_width c.width proper.1) ∙ column_nothing c Skipping [] (steps_by c true column Skipping) full)
  where
    some_width : (width : Option ℕ) → IsProperWidth width → nat_lt 0 (unwrap_or width 1) ≡ true
    some_width width wide = grind (arith, nat_tests)

-- a conversion with an item isn't full before it
pub item_not_full : (c : Conversion) → IsProper (Conv c) → HasItem c.shape → is_full (Conv c) Skipping ≡ true → ⊥
item_not_full c proper item full = by_column c.column refl
  where
    by_skips : c.column ≡ false → (e : ℕ) → e < 256 → can_take c (e ∷ []) ≡ true → (v : Bool) → (shape_skips c.shape && is_white e) ≡ v → ⊥
    by_skips no_column e byte can true is = takes_one (Conv c) Skipping e Skipping byte
        (steps_by c false no_column Skipping e ∙ ap (λ v. cond v (Some Skipping) (item_stepped c [] e)) is) full
    by_skips no_column e byte can false is =
        takes_one (Conv c) Skipping e (Item (e ∷ [])) byte (steps_by c false no_column Skipping e
        ∙ ap (λ v. cond v (Some Skipping) (item_stepped c [] e)) is ∙ ap (λ v. cond v (Some (Item (e ∷ []))) None) can) full

    by_column : (v : Bool) → c.column ≡ v → ⊥
    by_column true column = column_not_full c column proper full
    by_column false no_column =
        let (e, byte, begins) = first_begins c.shape c.width proper.0 proper.1 item in
        let can : can_take c (e ∷ []) ≡ true = and_from (is_within c.width 1) (shape_begins c.shape c.width (e ∷ []))
        (within_one c.width proper.1) begins in
        by_skips no_column e byte can (shape_skips c.shape && is_white e) refl

shape_full : (c : Conversion) (shape : Shape) (q : Stage) (n : ℕ) (more : Bool) → (q ≡ Skipping → HasItem shape → ⊥)
    → conversion_finished c shape q n more ≡ conversion_finished c shape q n true
shape_full c shape q n more none = grind arith

column_full : (c : Conversion) (q : Stage) (more : Bool) → (q ≡ Skipping → ⊥) → column_finished c q more ≡ column_finished c q true
column_full c q more none = grind arith

finished_full : (c : Conversion) → IsProper (Conv c) → (v : Bool) → c.column ≡ v → (q : Stage) (n : ℕ) (more : Bool)
    → is_full (Conv c) q ≡ true → finished_by v c q n more ≡ finished_by v c q n true
finished_full c proper true column q n more full =
    column_full c q more (λ e. column_not_full c column proper (subst (λ r. is_full (Conv c) r ≡ true) e full))
finished_full c proper false no_column q n more full =
    shape_full c c.shape q n more (λ e item. item_not_full c proper item (subst (λ r. is_full (Conv c) r ≡ true) e full))

-- a full literal has its byte
byte_full : (q : Stage) (more : Bool) → (q ≡ Skipping → ⊥) → byte_finished q more ≡ byte_finished q true
byte_full Skipping more none = absurd (none refl)
byte_full Taken more none = refl
byte_full (Item f) more none = refl

opener_not_full : (o : Opener) → IsProperLiteral o.literal → is_full (Opens o) Skipping ≡ true → ⊥
opener_not_full o proper full = by o.literal refl
  where
    by : (l : Literal) → o.literal ≡ l → ⊥
    by (literal.Byte a) e = takes_one (Opens o) Skipping a Taken (rw e at proper) (rw (e, same_test) refl) full
    by literal.Percent e = takes_one (Opens o) Skipping 37 Taken (lit< tt) (rw e refl) full

-- what follows a full directive makes no difference to its end
pub full_finish : (d : Directive) → IsProper d → (q : Stage) (n : ℕ) (more : Bool) → is_full d q ≡ true
    → finished d q n more ≡ finished d q n true
full_finish Space proper q n more full = refl
full_finish (Byte a) proper q n more full = grind (arith, (takes_one (Byte a) Skipping a Taken proper (rw same_test refl)))
full_finish Percent proper q n more full = grind (arith, (takes_one Percent Skipping 37 Taken (lit< tt) refl))
full_finish (Conv c) proper q n more full = finished_full c proper c.column refl q n more full
full_finish (Opens o) proper q n more full =
    ap missed (byte_full q more (λ e. opener_not_full o proper (subst (λ r. is_full (Opens o) r ≡ true) e full)))

-- a full directive takes nothing, and ends alike whatever follows
pub full_refuses : (d : Directive) → IsProper d → (q : Stage) (n : ℕ) (z : List ℕ) → is_full d q ≡ true
    → one_from d q n z ≡ record { used = n; left = z; end = finished d q n true }
full_refuses d proper q n [] full = grind (arith, full_finish)
full_refuses d proper q n (b ∷ z) full = grind (arith, full_takes_nothing)

-- ---- no directive is too long by itself

abbrev NotTooLong : StepEnd → Type 0
NotTooLong end = end ≡ Fails TooLong → ⊥

item_fits : (c : Conversion) (q : Stage) (n : ℕ) (more : Bool) → NotTooLong (conversion_finished c c.shape q n more)
item_fits c q n more = grind arith

text_fits : (c : Conversion) (t : List ℕ) → NotTooLong (text_end c t)
text_fits c t = grind arith

empty_fits : (c : Conversion) (more : Bool) → NotTooLong (empty_end c more)
empty_fits c more = grind arith

column_fits : (c : Conversion) (q : Stage) (more : Bool) → NotTooLong (column_finished c q more)
column_fits c Skipping more = empty_fits c more
column_fits c Taken more = grind arith
column_fits c (Item f) more = by_white (are_white f)
  where
    by_white : (v : Bool) → NotTooLong (cond v (empty_end c true) (text_end c (column_text c f)))
    by_white true = empty_fits c true
    by_white false = text_fits c (column_text c f)

finish_fits : (d : Directive) (q : Stage) (n : ℕ) (more : Bool) → NotTooLong (finished d q n more)
finish_fits d q n more = grind (arith, item_fits, column_fits)

pub by_option : (P : Part → Type 0) (o : Option Stage) (y : Part) (f : Stage → Part) → P y → ((r : Stage) → P (f r)) → P (choose o y f)
by_option P o y f a b = grind arith

pub never_too_long : (d : Directive) (q : Stage) (n : ℕ) (x : List ℕ) → (one_from d q n x).end ≡ Fails TooLong → ⊥
never_too_long d q n [] = finish_fits d q n false
never_too_long d q n (b ∷ x) =
    by_option (λ p. p.end ≡ Fails TooLong → ⊥) (stepped d q b) _ _ (finish_fits d q n true) (λ r. never_too_long d r (n + 1) x)

-- ---- bytes used and left

-- a directive never uses fewer bytes than were used
pub grows : (d : Directive) (q : Stage) (n : ℕ) (x : List ℕ) → n ≤ (one_from d q n x).used
grows d q n [] = omega arith
grows d q n (b ∷ x) = by_option (λ p. n ≤ p.used) (stepped d q b) _ _ (omega arith) (λ r. omega (arith, grows d r (n + 1) x))

-- what is used and what is left are all
pub keeps_all : (d : Directive) (q : Stage) (n : ℕ) (x : List ℕ) → (one_from d q n x).used + length (one_from d q n x).left ≡ n + length x
keeps_all d q n [] = refl
keeps_all d q n (b ∷ x) =
    by_option (λ p. p.used + length p.left ≡ n + suc (length x)) (stepped d q b) _ _ refl (λ r. omega (arith, keeps_all d r (n + 1) x))

-- ---- a byte that is taken whatever the item so far

-- what is taken after the item f, which is no float's
pub item_takes : (c : Conversion) (proper : IsProperShape c.shape) → (IsReal c.shape → ⊥) → (f : List ℕ) → is_full (Conv c) (Item f) ≡ false
    → (r : Stage) × (stepped (Conv c) (Item f) (item_byte c.shape proper) ≡ Some r)
item_takes c proper no_float f e = by_column c.column refl
  where
    o : ℕ
    o = item_byte c.shape proper

    can : (b : ℕ) (r : Stage) → item_stepped c f b ≡ Some r → can_take c (f ++ b ∷ []) ≡ true
    can b r h1 = grind arith

    lower : (b : ℕ) (r : Stage) → column_taken c f b ≡ Some r → nat_lt (length f) (column_width c) ≡ true
    lower b r h1 = grind arith

    by_column : (v : Bool) → c.column ≡ v → (r : Stage) × (stepped (Conv c) (Item f) o ≡ Some r)
    by_column true column =
        let (b, below, r, is) = can_take_one (Conv c) (Item f) e in (
          Item (f ++ o ∷ []),
          steps_by c true column (Item f) o
              ∙ ap (λ v. cond v (Some (Item (f ++ o ∷ []))) None) (lower b r (sym (steps_by c true column (Item f) b) ∙ is)),
        )
    by_column false no_column =
        let (b, below, r, is) = can_take_one (Conv c) (Item f) e in (
          Item (f ++ o ∷ []),
          steps_by c false no_column (Item f) o
              ∙ ap (λ v. cond v (Some (Item (f ++ o ∷ []))) None)
              (item_byte-taken c proper no_float f b (can b r (sym (steps_by c false no_column (Item f) b) ∙ is))),
        )
