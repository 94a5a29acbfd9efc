-- Each directive makes exactly one step.
use Rattle.std.proofs.Common.{◌≡◌, ℕ, zero, suc, ◌≤◌, Bool, true, false, cond, List, [], ◌∷◌, length, take, Option, Some, None, refl, sym}
use Rattle.std.proofs.Common.{ap, ◌∙◌, subst, inl, inr, arith, ℤ, length-drop, true≢false}
use Rattle.std.proofs.Math.Nat.{min-le_left, min-le_right, le-min}
use Rattle.std.specs.Option.{option_map}
use Rattle.std.specs.Float.Ieee.{binary32, binary64}
use Rattle.sf_base.specs.Bytes.{AreWhite}
use Rattle.sf_base.specs.Blanks.{are_white}
use Rattle.sf_base.specs.Data.{value_of}
use Rattle.sf_base.specs.declared.real.Real as real
use Rattle.sf_base.specs.declared.real.Real.TheVariants as reals
use Rattle.sf_base.specs.declared.values.Kind.{Kind}
use Rattle.sf_base.specs.declared.values.Kind.TheVariants as kinds
use Rattle.sf_float_read.specs.declared.item.reached.Forms.TheVariants.{All}
use Rattle.sf_float_read.specs.item.Sequences.{IsFloat, IsFloatOf}
use Rattle.sf_float_read.specs.item.Tests.{is_float}
use Rattle.sf_float_read.proofs.ItemLemmas.Deciding.{decided}
use Rattle.sf_float_read.proofs.ItemLemmas.Joined.{decimals_are_floats}
use Rattle.sf_float_read.specs.value.Computed.{stored_in}
use Rattle.sf_float_read.proofs.ValueLemmas.StoredComputed.{stored_is_computed}
use Rattle.sf_format.specs.declared.directive.Lead.{Lead}
use Rattle.sf_format.specs.declared.directive.Lead.TheVariants.{Any, Minus, Nothing}
use Rattle.sf_format.specs.declared.directive.Shape.{Shape}
use Rattle.sf_format.specs.declared.directive.Shape.TheVariants.{Int, Text, Set, Chars, Float, Count}
use Rattle.sf_format.specs.declared.directive.Conversion.{Conversion}
use Rattle.sf_format.specs.declared.directive.Directive.{Directive}
use Rattle.sf_format.specs.declared.directive.Literal.{Literal}
use Rattle.sf_format.specs.Proper.{IsProperShape, IsProper}
use Rattle.sf_item.specs.Matching.{ShapeMatches, Matches, forms_of}
use Rattle.sf_item.specs.Columns.{IsColumn, IsTextOf, ShapeFills, Fills, column_width}
use Rattle.sf_item.specs.ColumnTests.{column_text, fills}
use Rattle.sf_item.specs.Tests.{matches}
use Rattle.sf_item.proofs.Deciding.{integer_at_is, tests_matches}
use Rattle.sf_report.specs.declared.outcome.Status.TheVariants.{MatchingFailure}
use Rattle.sf_report.specs.Steps.{StepEnd, Fails, NumberStored, CountStep, IsReal, RealStored, ItemStored, ItemPasses, EmptyItem, ItemEnds}
use Rattle.sf_report.specs.Steps.{IsSkipUnder, IsSkipBefore, ConversionStep, BlankColumn, TextColumn, ColumnEnds, ColumnStep, StepBy, Step}
use Rattle.sf_report.specs.Steps.{LiteralStep, OpenerStep, missed}
use Rattle.sf_report.specs.Machine.{number_end, count_end, integer_end, real_in, real_at, real_end, stored_end, passed_end, empty_end}
use Rattle.sf_report.specs.Machine.{text_end}
use Rattle.sf_report.specs.Computed.{skip, has_more, byte_step, skip_under, skip_before, item_ended, item_step, conversion_step}
use Rattle.sf_report.specs.Computed.{column_len, column_ended, column_step, literal_step, opener_step, step_by, percent_step, step_of}
use Rattle.sf_base.proofs.Blanks.{white_is}
use Rattle.sf_item.proofs.Columns.{fills_is, text_is, text_only}
use Rattle.sf_report.proofs.Skips.{greatest_only, skip_is, skip_only, skip-le}
use Rattle.sf_report.proofs.Items.{len-le, item_is, item_only}

-- ---- what a step is

abbrev pub Is : ℕ × StepEnd → ℕ → StepEnd → Type 0
Is r k end = (k ≡ r.0) × (end ≡ r.1)

-- ---- a byte

byte_step-le : (a : ℕ) (x : List ℕ) → (byte_step a x).0 ≤ length x
byte_step-le a x = grind arith

-- ---- ends

number_is : (c : Conversion) (slot : ℕ) (v : Option ℤ) → NumberStored c slot v (number_end c slot v)
number_is c slot v = grind arith

number_only : (c : Conversion) (slot : ℕ) (v : Option ℤ) (end : StepEnd) → NumberStored c slot v end → end ≡ number_end c slot v
number_only c slot v end h = grind arith

count_is : (c : Conversion) (slot : Option ℕ) (n : ℕ) → CountStep c slot n (count_end c slot n)
count_is c slot n = grind arith

-- with ! or without
of_forms : (lead : Lead) (item : List ℕ) → IsFloatOf (forms_of lead) item → IsFloat item
of_forms Any item h = h
of_forms Minus item h = decimals_are_floats item h
of_forms Nothing item h = decimals_are_floats item h

-- a matching sequence passes the test
float_test : (item : List ℕ) → IsFloat item → is_float item ≡ true
float_test item h = (decided All item).0.1 h

real_test : (k : Kind) (item : List ℕ) → IsFloat item → real_at k item ≡ real_in k item
real_test k item h = rw (float_test item h) refl

real_in_is : (k : Kind) (item : List ℕ) → IsFloat item → IsReal k item (real_in k item)
real_in_is kinds.F32 item h = (stored_in binary32 item, (stored_is_computed binary32 item).0 h, refl)
real_in_is kinds.F64 item h = (stored_in binary64 item, (stored_is_computed binary64 item).0 h, refl)
real_in_is kinds.I8 item h = refl
real_in_is kinds.I16 item h = refl
real_in_is kinds.I32 item h = refl
real_in_is kinds.I64 item h = refl
real_in_is kinds.U8 item h = refl
real_in_is kinds.U16 item h = refl
real_in_is kinds.U32 item h = refl
real_in_is kinds.U64 item h = refl
real_in_is kinds.Text item h = refl

real_is : (k : Kind) (item : List ℕ) → IsFloat item → IsReal k item (real_at k item)
real_is k item h = subst (IsReal k item) (sym (real_test k item h)) (real_in_is k item h)

-- by the test: of other texts there is none
no_real : (k : Kind) (v : Bool) (item : List ℕ) → real_in k item ≡ None → None ≡ cond v (real_in k item) None
no_real k true item e = sym e
no_real k false item e = refl

real_only : (k : Kind) (item : List ℕ) (r : Option real.Real) → IsReal k item r → r ≡ real_at k item
real_only kinds.F32 item r (bits, stored, is) =
    let own = (stored_is_computed binary32 item).1 bits stored in
    is ∙ ap (option_map reals.F32) own.1 ∙ sym (real_test kinds.F32 item own.0)
real_only kinds.F64 item r (bits, stored, is) =
    let own = (stored_is_computed binary64 item).1 bits stored in
    is ∙ ap (option_map reals.F64) own.1 ∙ sym (real_test kinds.F64 item own.0)
real_only kinds.I8 item r is = is ∙ no_real kinds.I8 (is_float item) item refl
real_only kinds.I16 item r is = is ∙ no_real kinds.I16 (is_float item) item refl
real_only kinds.I32 item r is = is ∙ no_real kinds.I32 (is_float item) item refl
real_only kinds.I64 item r is = is ∙ no_real kinds.I64 (is_float item) item refl
real_only kinds.U8 item r is = is ∙ no_real kinds.U8 (is_float item) item refl
real_only kinds.U16 item r is = is ∙ no_real kinds.U16 (is_float item) item refl
real_only kinds.U32 item r is = is ∙ no_real kinds.U32 (is_float item) item refl
real_only kinds.U64 item r is = is ∙ no_real kinds.U64 (is_float item) item refl
real_only kinds.Text item r is = is ∙ no_real kinds.Text (is_float item) item refl

real_end_is : (slot : ℕ) (r : Option real.Real) → RealStored slot r (real_end slot r)
real_end_is slot None = refl
real_end_is slot (Some r) = refl

real_end_only : (slot : ℕ) (r : Option real.Real) (end : StepEnd) → RealStored slot r end → end ≡ real_end slot r
real_end_only slot None end h = h
real_end_only slot (Some r) end h = h

stored_is : (c : Conversion) (slot : ℕ) (shape : Shape) (width : Option ℕ) (item : List ℕ) → ShapeMatches shape width item
    → ItemStored c slot shape item (stored_end c slot shape item)
stored_is c slot (Int numeral) width item h = (
  h.0,
  h.1,
  h.2,
  subst (λ o. NumberStored c slot (value_of c.kind h.0 h.1) (integer_end c slot o)) (sym (integer_at_is numeral item h.0 h.1 h.2))
      (number_is c slot (value_of c.kind h.0 h.1)),
)
stored_is c slot (Text lead) width item h = refl
stored_is c slot (Set members) width item h = refl
stored_is c slot Chars width item h = refl
stored_is c slot (Float lead) width item h =
    (real_at c.kind item, real_is c.kind item (of_forms lead item h), real_end_is slot (real_at c.kind item))
stored_is c slot Count width item h = refl

stored_only : (c : Conversion) (slot : ℕ) (shape : Shape) (item : List ℕ) (end : StepEnd) → ItemStored c slot shape item end
    → end ≡ stored_end c slot shape item
stored_only c slot (Int numeral) item end h =
    number_only c slot (value_of c.kind h.0 h.1) end h.3 ∙ ap (integer_end c slot) (sym (integer_at_is numeral item h.0 h.1 h.2))
stored_only c slot (Text lead) item end h = h
stored_only c slot (Set members) item end h = h
stored_only c slot Chars item end h = h
stored_only c slot (Float lead) item end (r, read, h) = real_end_only slot r end h ∙ ap (real_end slot) (real_only c.kind item r read)
stored_only c slot Count item end h = h

passes_is : (c : Conversion) (slot : Option ℕ) (item : List ℕ) → Matches c item → ItemPasses c slot item (passed_end c slot item)
passes_is c slot item h = grind (arith, stored_is)

passes_only : (c : Conversion) (slot : Option ℕ) (item : List ℕ) (end : StepEnd) → ItemPasses c slot item end → end ≡ passed_end c slot item
passes_only c slot item end h = grind (arith, stored_only)

empty_is : (c : Conversion) (optional : Bool) (x : List ℕ) → c.optional ≡ optional → EmptyItem optional x (empty_end c (has_more x))
empty_is c true x e = rw e refl
empty_is c false [] e = rw e refl
empty_is c false (b ∷ x) e = rw e refl

empty_only : (c : Conversion) (optional : Bool) (x : List ℕ) (end : StepEnd) → c.optional ≡ optional → EmptyItem optional x end
    → end ≡ empty_end c (has_more x)
empty_only c true x end e h = rw e h
empty_only c false [] end e h = rw e h
empty_only c false (b ∷ x) end e h = rw e h

by_match : (c : Conversion) (item : List ℕ) (P : Bool → Type 0) → (Matches c item → P true) → ((Matches c item → ⊥) → P false)
    → P (matches c item)
by_match c item P left right = grind (arith, (tests_matches c item))

ends_is : (c : Conversion) (x : List ℕ) (j : ℕ) → ItemEnds c x j (item_ended c x j)
ends_is c x zero = empty_is c c.optional x refl
ends_is c x (suc j) =
    let item = take (suc j) x in
    by_match c item (λ v. ItemEnds c x (suc j) (cond v (passed_end c c.slot item) (Fails MatchingFailure)))
    (λ h. inl (h, passes_is c c.slot item h))
    (λ n. inr (n, refl))

ends_only : (c : Conversion) (x : List ℕ) (j : ℕ) (end : StepEnd) → ItemEnds c x j end → end ≡ item_ended c x j
ends_only c x zero end h = empty_only c c.optional x end refl h
ends_only c x (suc j) end h =
    let item = take (suc j) x in
    by_match c item (λ v. end ≡ cond v (passed_end c c.slot item) (Fails MatchingFailure))
    (λ m. elim h [ inl l ↦ passes_only c c.slot item end l.1 | inr r ↦ absurd (r.0 m) ])
    (λ n. elim h [ inl l ↦ absurd (n l.0) | inr r ↦ r.1 ])

-- ---- items

skip_under_is : (lead : Lead) (x : List ℕ) → IsSkipUnder lead x (skip_under lead x)
skip_under_is Any x = skip_is x
skip_under_is Minus x = refl
skip_under_is Nothing x = refl

skip_under_only : (lead : Lead) (x : List ℕ) (s : ℕ) → IsSkipUnder lead x s → s ≡ skip_under lead x
skip_under_only Any x s h = skip_only x s h
skip_under_only Minus x s h = h
skip_under_only Nothing x s h = h

skip_under-le : (lead : Lead) (x : List ℕ) → skip_under lead x ≤ length x
skip_under-le lead x = grind (arith, skip-le)

pub skip_before_is : (shape : Shape) (x : List ℕ) → IsSkipBefore shape x (skip_before shape x)
skip_before_is shape x = grind (arith, skip_under_is)

skip_before_only : (shape : Shape) (x : List ℕ) (s : ℕ) → IsSkipBefore shape x s → s ≡ skip_before shape x
skip_before_only shape x s h = grind (arith, skip_under_only)

skip_before-le : (shape : Shape) (x : List ℕ) → skip_before shape x ≤ length x
skip_before-le shape x = grind (arith, skip_under-le)

item_step-le : (c : Conversion) (x : List ℕ) → (item_step c x).0 ≤ length x
item_step-le c x = grind (arith, skip_before-le, len-le, length-drop)

-- ---- columns

column_len_is : (c : Conversion) (x : List ℕ) → IsColumn c x (column_len c x)
column_len_is c x = record {
  holds = (min-le_left (length x) (column_width c), min-le_right (length x) (column_width c));
  above = λ j h. le-min h.0 h.1;
}

column_len_only : (c : Conversion) (x : List ℕ) (k : ℕ) → IsColumn c x k → k ≡ column_len c x
column_len_only c x k h = greatest_only h (column_len_is c x)

blank_is : (c : Conversion) (optional : Bool) → c.optional ≡ optional → BlankColumn optional (empty_end c true)
blank_is c true e = rw e refl
blank_is c false e = rw e refl

blank_only : (c : Conversion) (optional : Bool) (end : StepEnd) → c.optional ≡ optional → BlankColumn optional end → end ≡ empty_end c true
blank_only c true end e h = rw e h
blank_only c false end e h = rw e h

text_stored_is : (c : Conversion) (slot : ℕ) (shape : Shape) (width : Option ℕ) (t : List ℕ) → ShapeFills shape width t
    → ItemStored c slot shape t (stored_end c slot shape t)
text_stored_is c slot (Int numeral) width t h = stored_is c slot (Int numeral) width t h
text_stored_is c slot (Text lead) width t h = refl
text_stored_is c slot (Set members) width t h = refl
text_stored_is c slot Chars width t h = refl
text_stored_is c slot (Float lead) width t h = stored_is c slot (Float lead) width t h
text_stored_is c slot Count width t h = absurd h

text_passes_is : (c : Conversion) (slot : Option ℕ) (t : List ℕ) → Fills c t → ItemPasses c slot t (passed_end c slot t)
text_passes_is c None t h = refl
text_passes_is c (Some slot) t h = text_stored_is c slot c.shape c.width t h

by_fill : (c : Conversion) (t : List ℕ) (P : Bool → Type 0) → (Fills c t → P true) → ((Fills c t → ⊥) → P false) → P (fills c t)
by_fill c t P left right = grind (arith, (fills_is c t))

text_end_is : (c : Conversion) (t : List ℕ) → TextColumn c t (text_end c t)
text_end_is c t = by_fill c t (λ v. TextColumn c t (cond v (passed_end c c.slot t) (Fails MatchingFailure)))
    (λ h. inl (h, text_passes_is c c.slot t h))
    (λ n. inr (n, refl))

text_end_only : (c : Conversion) (t : List ℕ) (end : StepEnd) → TextColumn c t end → end ≡ text_end c t
text_end_only c t end h = by_fill c t (λ v. end ≡ cond v (passed_end c c.slot t) (Fails MatchingFailure))
    (λ m. elim h [ inl l ↦ passes_only c c.slot t end l.1 | inr r ↦ absurd (r.0 m) ])
    (λ n. elim h [ inl l ↦ absurd (n l.0) | inr r ↦ r.1 ])

by_white : (s : List ℕ) (P : Bool → Type 0) → (are_white s ≡ true → AreWhite s → P true)
    → (are_white s ≡ false → (AreWhite s → ⊥) → P false) → P (are_white s)
by_white s P white ink = by (are_white s) refl
  where
    by : (v : Bool) → are_white s ≡ v → P v
    by true e = white e ((white_is s).0 e)
    by false e = ink e (λ w. true≢false (sym ((white_is s).1 w) ∙ e))

column_ended_is : (c : Conversion) (x s : List ℕ) → ColumnEnds c x s (column_ended c x s)
column_ended_is c x [] = empty_is c c.optional x refl
column_ended_is c x (b ∷ s) =
    by_white (b ∷ s) (λ v. ColumnEnds c x (b ∷ s) (cond v (empty_end c true) (text_end c (column_text c (b ∷ s)))))
    (λ e white. inl (white, blank_is c c.optional refl))
    (λ e ink. inr (ink, (column_text c (b ∷ s), text_is c (b ∷ s) e, text_end_is c (column_text c (b ∷ s)))))

column_ended_only : (c : Conversion) (x s : List ℕ) (end : StepEnd) → ColumnEnds c x s end → end ≡ column_ended c x s
column_ended_only c x [] end h = empty_only c c.optional x end refl h
column_ended_only c x (b ∷ s) end h =
    by_white (b ∷ s) (λ v. end ≡ cond v (empty_end c true) (text_end c (column_text c (b ∷ s))))
    (λ e white. elim h [ inl l ↦ blank_only c c.optional end refl l.1 | inr r ↦ absurd (r.0 white) ])
    (λ e ink. elim h [ inl l ↦ absurd (ink l.0) | inr r ↦ has_text r.1 ])
  where
    has_text : (t : List ℕ) × IsTextOf c (b ∷ s) t × TextColumn c t end → end ≡ text_end c (column_text c (b ∷ s))
    has_text (t, is, ends) = text_end_only c t end ends ∙ ap (text_end c) (text_only c (b ∷ s) t is)

column_is : (c : Conversion) (x : List ℕ) → ColumnStep c x (column_step c x).0 (column_step c x).1
column_is c x = (column_len_is c x, column_ended_is c x (take (column_len c x) x))

column_only : (c : Conversion) (x : List ℕ) (k : ℕ) (end : StepEnd) → ColumnStep c x k end → Is (column_step c x) k end
column_only c x k end (column, ends) =
    let all = column_len_only c x k column in
    (all, column_ended_only c x (take k x) end ends ∙ ap (λ j. column_ended c x (take j x)) all)

column_within : (c : Conversion) (x : List ℕ) → (column_step c x).0 ≤ length x
column_within c x = min-le_left (length x) (column_width c)

-- ---- steps

conversion_is : (c : Conversion) (shape : Shape) → c.shape ≡ shape → IsProperShape shape → (x : List ℕ) (n : ℕ)
    → ConversionStep c shape x n (conversion_step c shape x n).0 (conversion_step c shape x n).1
conversion_is c shape e proper x n = grind (arith, skip_before_is, item_is, ends_is)

conversion_only : (c : Conversion) (shape : Shape) → c.shape ≡ shape → IsProperShape shape → (x : List ℕ) (n k : ℕ) (end : StepEnd)
    → ConversionStep c shape x n k end → Is (conversion_step c shape x n) k end
conversion_only c shape e proper x n k end h = grind (arith, skip_before_only, ends_only, item_only)

conversion_within : (c : Conversion) (shape : Shape) (x : List ℕ) (n : ℕ) → (conversion_step c shape x n).0 ≤ length x
conversion_within c shape x n = grind (arith, item_step-le)

-- by whether it has =
by_is : (c : Conversion) → IsProperShape c.shape → (column : Bool) (x : List ℕ) (n : ℕ)
    → StepBy column c x n (step_by column c x n).0 (step_by column c x n).1
by_is c proper true x n = column_is c x
by_is c proper false x n = conversion_is c c.shape refl proper x n

by_only : (c : Conversion) → IsProperShape c.shape → (column : Bool) (x : List ℕ) (n k : ℕ) (end : StepEnd)
    → StepBy column c x n k end → Is (step_by column c x n) k end
by_only c proper true x n k end h = column_only c x k end h
by_only c proper false x n k end h = conversion_only c c.shape refl proper x n k end h

by_within : (c : Conversion) (column : Bool) (x : List ℕ) (n : ℕ) → (step_by column c x n).0 ≤ length x
by_within c true x n = column_within c x
by_within c false x n = conversion_within c c.shape x n

-- ---- literals that open a group

literal_is : (l : Literal) (x : List ℕ) → LiteralStep l x (literal_step l x).0 (literal_step l x).1
literal_is l x = grind (arith, skip_is)

literal_only : (l : Literal) (x : List ℕ) (k : ℕ) (end : StepEnd) → LiteralStep l x k end → Is (literal_step l x) k end
literal_only l x k end h = grind (arith, skip_only)

opener_is : (l : Literal) (x : List ℕ) → OpenerStep l x (opener_step l x).0 (opener_step l x).1
opener_is l x = ((literal_step l x).1, literal_is l x, refl)

opener_only : (l : Literal) (x : List ℕ) (k : ℕ) (end : StepEnd) → OpenerStep l x k end → Is (opener_step l x) k end
opener_only l x k end (e, step, is) = let only = literal_only l x k e step in (only.0, is ∙ ap missed only.1)

-- ---- each directive

pub step_is : (d : Directive) → IsProper d → (x : List ℕ) (n : ℕ) → Step d x n (step_of d x n).0 (step_of d x n).1
step_is d proper x n = grind (arith, skip_is, by_is, opener_is)

pub step_only : (d : Directive) → IsProper d → (x : List ℕ) (n k : ℕ) (end : StepEnd) → Step d x n k end
    → (k ≡ (step_of d x n).0) × (end ≡ (step_of d x n).1)
step_only d proper x n k end h = grind (arith, skip_only, by_only, opener_only)

percent_within : (x : List ℕ) → (percent_step x (skip x)).0 ≤ length x
percent_within x = grind (arith, skip-le, byte_step-le, length-drop)

opener_within : (l : Literal) (x : List ℕ) → (opener_step l x).0 ≤ length x
opener_within l x = grind (arith, percent_within, byte_step-le)

pub step_within : (d : Directive) (x : List ℕ) (n : ℕ) → (step_of d x n).0 ≤ length x
step_within d x n = grind (arith, percent_within, by_within, opener_within)
