-- What the runs of a format give its slots.
use Rattle.std.proofs.Common.{◌≡◌, ◌≢◌, ℕ, zero, suc, ◌+◌, inl, inr, Bool, true, false, cond, ◌&&◌, ◌||◌, map, nat_eq, List, [], ◌∷◌, drop}
use Rattle.std.proofs.Common.{◌⊎◌, ◌<◌, ◌≤◌, take, Option, Some, None, refl, sym, ap, subst, ◌∙◌, arith}
use Rattle.std.proofs.lemmas.Bool.Decides.{nat_tests}
use Rattle.std.specs.Prelude.{find, ℤ}
use Rattle.std.specs.List.{AllByRecursion}
use Rattle.std.specs.Option.{option_map}
use Rattle.sf_base.specs.declared.real.Real as real
use Rattle.sf_base.specs.declared.real.Real.TheVariants as reals
use Rattle.sf_base.specs.declared.values.Kind.{Kind}
use Rattle.sf_base.specs.declared.values.Kind.TheVariants as kinds
use Rattle.sf_base.specs.Data.{Datum, Assigned, datum_at, kind_of_real, value_of}
use Rattle.sf_format.specs.declared.directive.Shape.{Shape}
use Rattle.sf_format.specs.declared.directive.Shape.TheVariants.{Int, Text, Set, Chars, Float, Count}
use Rattle.sf_format.specs.declared.directive.Conversion.{Conversion}
use Rattle.sf_format.specs.declared.directive.Directive.{Directive}
use Rattle.sf_format.specs.declared.directive.Opener.{Opener}
use Rattle.sf_format.specs.declared.directive.Directive.TheVariants.{Space, Byte, Percent, Conv, Opens}
use Rattle.sf_format.specs.declared.directive.Literal.{Literal}
use Rattle.sf_format.specs.declared.directive.Literal.TheVariants as literal
use Rattle.sf_format.specs.Proper.{AreKinded, HasItsKind, IsKinded, destination_of, destinations_of, has_optional, has_slot, is_optional}
use Rattle.sf_format.specs.Proper.{assigns, kind_at, left_over, may_be_missing, may_miss, may_miss_from, more_of}
use Rattle.sf_item.specs.Columns.{ShapeFills}
use Rattle.sf_format.specs.Slots.{AreDistinct, AreSlots, Slotted, kind_with}
use Rattle.sf_format.proofs.Outcomes.{by_test}
use Rattle.sf_report.specs.declared.outcome.Ending.{Ending}
use Rattle.sf_report.specs.declared.outcome.Status.{Status}
use Rattle.sf_report.specs.declared.outcome.Status.TheVariants.{Done, InputFailure, MatchingFailure, OutOfRange, TooLong, NoMemory}
use Rattle.sf_report.specs.Limits.{RunTold}
use Rattle.sf_report.specs.Rows.{Suits, kind_of}
use Rattle.sf_report.specs.Runs.{GoesOn, Ran, RunReport, StepsPast, is_shape_converted, over, status_of, values_stored}
use Rattle.sf_report.specs.Steps.{ByteStep, ConversionStep, CountStep, EmptyItem, Fails, IsReal, ItemEnds, ItemPasses, ItemStep, ItemStored}
use Rattle.sf_report.specs.Steps.{BlankColumn, ColumnEnds, Misses, NumberStored, Passes, RealStored, Step, StepBy, StepEnd, Stores}
use Rattle.sf_report.specs.Steps.{LiteralStep, TextColumn, missed}

-- ---- what a step gives its slot

-- a directive that passes has given its slot something of its kind, or its item may be missing
abbrev Fills : Directive → StepEnd → Type 0
Fills d Passes = destination_of d ≡ None
Fills d (Stores slot v) = destination_of d ≡ Some (slot, kind_of v)
Fills d Misses = is_optional d ≡ true
Fills d (Fails status) = status ≢ Done

not_done : (status : Status) (e : StepEnd) (d : Directive) → status ≢ Done → e ≡ Fails status → Fills d e
not_done status e d other is = rw is other

byte_fills : (d : Directive) (b : ℕ) (x : List ℕ) (k : ℕ) (e : StepEnd) → destination_of d ≡ None → ByteStep b x k e → Fills d e
byte_fills d b [] k e none h = not_done InputFailure e d (λ f. absurd cc) h.1
byte_fills d b (y ∷ x) k e none (inl h) = rw h.2 none
byte_fills d b (y ∷ x) k e none (inr h) = not_done MatchingFailure e d (λ f. absurd cc) h.2

slotted : (c : Conversion) (slot : ℕ) (k : Kind) → c.slot ≡ Some slot → c.kind ≡ k → destination_of (Conv c) ≡ Some (slot, k)
slotted c slot k is same = rw (is, same) refl

unslotted : (c : Conversion) → c.slot ≡ None → destination_of (Conv c) ≡ None
unslotted c is = rw is refl

number_fills : (c : Conversion) (slot : ℕ) (v : Option ℤ) (e : StepEnd) → c.slot ≡ Some slot → NumberStored c slot v e → Fills (Conv c) e
number_fills c slot None e is h = not_done OutOfRange e (Conv c) (λ f. absurd cc) h
number_fills c slot (Some v) e is h = rw h (slotted c slot c.kind is refl)

count_fills : (c : Conversion) (slot : Option ℕ) (n : ℕ) (e : StepEnd) → c.slot ≡ slot → CountStep c slot n e → Fills (Conv c) e
count_fills c None n e is h = rw h (unslotted c is)
count_fills c (Some slot) n e is h = number_fills c slot (value_of c.kind false n) e is h

real_kind : (k : Kind) (item : List ℕ) (r : real.Real) → IsReal k item (Some r) → k ≡ kind_of_real r
real_kind kinds.F32 item r (bits, stored, is) = by bits is
  where
    by : (o : Option ℕ) → Some r ≡ option_map reals.F32 o → kinds.F32 ≡ kind_of_real r
    by None e = absurd cc
    by (Some bits) e = let same : r ≡ reals.F32 bits = cc in rw same refl
real_kind kinds.F64 item r (bits, stored, is) = by bits is
  where
    by : (o : Option ℕ) → Some r ≡ option_map reals.F64 o → kinds.F64 ≡ kind_of_real r
    by None e = absurd cc
    by (Some bits) e = let same : r ≡ reals.F64 bits = cc in rw same refl
real_kind kinds.I8 item r is = absurd cc
real_kind kinds.I16 item r is = absurd cc
real_kind kinds.I32 item r is = absurd cc
real_kind kinds.I64 item r is = absurd cc
real_kind kinds.U8 item r is = absurd cc
real_kind kinds.U16 item r is = absurd cc
real_kind kinds.U32 item r is = absurd cc
real_kind kinds.U64 item r is = absurd cc
real_kind kinds.Text item r is = absurd cc

real_fills : (c : Conversion) (slot : ℕ) (k : Kind) (item : List ℕ) (r : Option real.Real) (e : StepEnd) → c.slot ≡ Some slot → c.kind ≡ k
    → IsReal k item r → RealStored slot r e → Fills (Conv c) e
real_fills c slot k item None e is kind read h = not_done OutOfRange e (Conv c) (λ f. absurd cc) h
real_fills c slot k item (Some r) e is kind read h = rw h (slotted c slot (kind_of_real r) is (kind ∙ real_kind k item r read))

stored_fills : (c : Conversion) (slot : ℕ) (shape : Shape) (item : List ℕ) (e : StepEnd) → c.slot ≡ Some slot
    → is_shape_converted shape ≡ true → HasItsKind shape c.kind
    → ItemStored c slot shape item e → Fills (Conv c) e
stored_fills c slot (Int numeral) item e is other kind (negative, m, number, h) = number_fills c slot (value_of c.kind negative m) e is h
stored_fills c slot (Text lead) item e is other kind h = rw h (slotted c slot kinds.Text is kind)
stored_fills c slot (Set members) item e is other kind h = rw h (slotted c slot kinds.Text is kind)
stored_fills c slot Chars item e is other kind h = rw h (slotted c slot kinds.Text is kind)
stored_fills c slot (Float lead) item e is other kind (r, real, h) = real_fills c slot c.kind item r e is refl real h
stored_fills c slot Count item e is other kind h = absurd cc

passes_fills : (c : Conversion) (slot : Option ℕ) (item : List ℕ) (e : StepEnd) → c.slot ≡ slot → is_shape_converted c.shape ≡ true
    → HasItsKind c.shape c.kind
    → ItemPasses c slot item e → Fills (Conv c) e
passes_fills c None item e is other kind h = rw h (unslotted c is)
passes_fills c (Some slot) item e is other kind h = stored_fills c slot c.shape item e is other kind h

empty_fills : (d : Directive) (optional : Bool) (x : List ℕ) (e : StepEnd) → is_optional d ≡ optional → EmptyItem optional x e → Fills d e
empty_fills d true x e is h = rw h is
empty_fills d false [] e is h = not_done InputFailure e d (λ f. absurd cc) h
empty_fills d false (b ∷ x) e is h = not_done MatchingFailure e d (λ f. absurd cc) h

ends_fill : (c : Conversion) (x : List ℕ) (j : ℕ) (e : StepEnd) → is_shape_converted c.shape ≡ true → HasItsKind c.shape c.kind
    → ItemEnds c x j e → Fills (Conv c) e
ends_fill c x zero e other kind h = empty_fills (Conv c) c.optional x e refl h
ends_fill c x (suc j) e other kind (inl h) = passes_fills c c.slot (take (suc j) x) e refl other kind h.1
ends_fill c x (suc j) e other kind (inr h) = not_done MatchingFailure e (Conv c) (λ f. absurd cc) h.1

item_fills : (c : Conversion) (shape : Shape) (x : List ℕ) (k : ℕ) (e : StepEnd) → c.shape ≡ shape → is_shape_converted shape ≡ true
    → HasItsKind shape c.kind
    → ItemStep c x k e → Fills (Conv c) e
item_fills c shape x k e is other kind (s, j, skip, item, bytes, ends) =
    ends_fill c (drop s x) j e (ap is_shape_converted is ∙ other) (subst (λ t. HasItsKind t c.kind) (sym is) kind) ends

conversion_fills : (c : Conversion) (shape : Shape) (x : List ℕ) (n k : ℕ) (e : StepEnd) → c.shape ≡ shape → HasItsKind shape c.kind
    → ConversionStep c shape x n k e → Fills (Conv c) e
conversion_fills c Count x n k e is kind h = count_fills c c.slot n e refl h.1
conversion_fills c (Int numeral) x n k e is kind h = item_fills c (Int numeral) x k e is refl kind h
conversion_fills c (Text lead) x n k e is kind h = item_fills c (Text lead) x k e is refl kind h
conversion_fills c (Set members) x n k e is kind h = item_fills c (Set members) x k e is refl kind h
conversion_fills c Chars x n k e is kind h = item_fills c Chars x k e is refl kind h
conversion_fills c (Float lead) x n k e is kind h = item_fills c (Float lead) x k e is refl kind h

-- ---- columns

blank_fills : (d : Directive) (optional : Bool) (e : StepEnd) → is_optional d ≡ optional → BlankColumn optional e → Fills d e
blank_fills d true e is h = rw h is
blank_fills d false e is h = not_done MatchingFailure e d (λ f. absurd cc) h

-- what has a text has an item
text_converted : (shape : Shape) (width : Option ℕ) (t : List ℕ) → ShapeFills shape width t → is_shape_converted shape ≡ true
text_converted (Int numeral) width t h = refl
text_converted (Text lead) width t h = refl
text_converted (Set members) width t h = refl
text_converted Chars width t h = refl
text_converted (Float lead) width t h = refl
text_converted Count width t h = absurd h

text_fills : (c : Conversion) (t : List ℕ) (e : StepEnd) → HasItsKind c.shape c.kind → TextColumn c t e → Fills (Conv c) e
text_fills c t e kind (inl h) = passes_fills c c.slot t e refl (text_converted c.shape c.width t h.0) kind h.1
text_fills c t e kind (inr h) = not_done MatchingFailure e (Conv c) (λ f. absurd cc) h.1

column_fills : (c : Conversion) (x s : List ℕ) (e : StepEnd) → HasItsKind c.shape c.kind → ColumnEnds c x s e → Fills (Conv c) e
column_fills c x [] e kind h = empty_fills (Conv c) c.optional x e refl h
column_fills c x (b ∷ s) e kind (inl h) = blank_fills (Conv c) c.optional e refl h.1
column_fills c x (b ∷ s) e kind (inr (ink, (t, is, ends))) = text_fills c t e kind ends

fills_by : (c : Conversion) (column : Bool) (x : List ℕ) (n k : ℕ) (e : StepEnd) → HasItsKind c.shape c.kind
    → StepBy column c x n k e → Fills (Conv c) e
fills_by c true x n k e kind h = column_fills c x (take k x) e kind h.1
fills_by c false x n k e kind h = conversion_fills c c.shape x n k e refl kind h

-- ---- literals that open a group

literal_fills : (o : Opener) (l : Literal) (x : List ℕ) (k : ℕ) (e : StepEnd) → LiteralStep l x k e → Fills (Opens o) e
literal_fills o (literal.Byte b) x k e h = byte_fills (Opens o) b x k e refl h
literal_fills o literal.Percent x k e (s, j, skip, byte, bytes) = byte_fills (Opens o) 37 (drop s x) j e refl byte

missed_fills : (o : Opener) (e : StepEnd) → Fills (Opens o) e → Fills (Opens o) (missed e)
missed_fills o Passes h = h
missed_fills o (Stores slot v) h = h
missed_fills o Misses h = h
missed_fills o (Fails status) h = refl

-- ---- each directive

step_fills : (d : Directive) (x : List ℕ) (n k : ℕ) (e : StepEnd) → IsKinded d → Step d x n k e → Fills d e
step_fills Space x n k e kind h = rw h.1 refl
step_fills (Byte b) x n k e kind h = byte_fills (Byte b) b x k e refl h
step_fills Percent x n k e kind (s, j, skip, byte, bytes) = byte_fills Percent 37 (drop s x) j e refl byte
step_fills (Conv c) x n k e kind h = fills_by c c.column x n k e kind h
step_fills (Opens o) x n k e kind (f, step, is) = rw is (missed_fills o f (literal_fills o o.literal x k f step))

-- ---- what a run gives the slots

eq_swapped : (a b : ℕ) → nat_eq a b ≡ nat_eq b a
eq_swapped a b =
    by_test (nat_eq a b) (λ v. v ≡ nat_eq b a) (λ same. sym (grind (arith, nat_tests))) (λ other. sym (grind (arith, nat_tests)))

next_given : (slot s : ℕ) (v : Datum) (values : List Assigned) (es : List Slotted)
    → option_map kind_of (datum_at slot values) ≡ kind_with slot es
    → option_map kind_of (datum_at slot (record { slot = s; datum = v } ∷ values)) ≡ kind_with slot ((s, kind_of v) ∷ es)
next_given slot s v values es rest =
    rw (eq_swapped s slot) (by_test (nat_eq slot s) (λ t. option_map kind_of
    (option_map (λ (a : Assigned). a.datum) (cond t (Some (record { slot = s; datum = v }))
    (find (λ (a : Assigned). nat_eq slot a.slot) values)))
    ≡ option_map (λ (e : Slotted). e.1) (cond t (Some (s, kind_of v)) (find (λ (e : Slotted). nat_eq e.0 slot) es))) (λ same. refl)
    (λ other. rest))

none_more : (d : Directive) (ds : List Directive) → destination_of d ≡ None → destinations_of (d ∷ ds) ≡ destinations_of ds
none_more d ds is = rw is refl

one_more : (d : Directive) (ds : List Directive) (e : Slotted) → destination_of d ≡ Some e
    → destinations_of (d ∷ ds) ≡ e ∷ destinations_of ds
one_more d ds e is = rw is refl

-- ---- each slot suits

-- the same, where the first k of the directives may be missing with one before them
abbrev SuitsFrom : ℕ → List Directive → ℕ → Option Datum → Type 0
SuitsFrom k ds slot given = (option_map kind_of given ≡ kind_at slot ds) ⊎ (may_miss_from slot k ds ≡ true) × (given ≡ None)

abbrev AreSuitedFrom : ℕ → List Directive → List Assigned → Type 0
AreSuitedFrom k ds values = (slot : ℕ) → SuitsFrom k ds slot (datum_at slot values)

abbrev pub AreSuited : List Directive → List Assigned → Type 0
AreSuited ds values = (slot : ℕ) → Suits ds slot (datum_at slot values)

-- a slot that is none of these has no kind
none_with : (slot : ℕ) (es : List Slotted) → AllByRecursion (λ m. m ≢ slot) (map (λ (e : Slotted). e.0) es) → kind_with slot es ≡ None
none_with slot [] other = refl
none_with slot (e ∷ es) other =
    by_test (nat_eq e.0 slot) (λ t. option_map (λ (o : Slotted). o.1) (cond t (Some e) (find (λ (o : Slotted). nat_eq o.0 slot) es)) ≡ None)
    (λ same. let is : e.0 ≡ slot = grind (arith, nat_tests) in absurd (other.0 is)) (λ apart. none_with slot es other.1)

nothing_of : (o : Option Datum) → option_map kind_of o ≡ None → o ≡ None
nothing_of None e = refl
nothing_of (Some v) e = absurd cc

-- the slots of a list are apart
abbrev AreApart : List Directive → Type 0
AreApart ds = AreDistinct (map (λ (e : Slotted). e.0) (destinations_of ds))

abbrev IsApart : Option Slotted → List Slotted → Type 0
IsApart None es = Unit {0}
IsApart (Some e) es = AllByRecursion (λ m. m ≢ e.0) (map (λ (o : Slotted). o.0) es)

apart_parts : (d : Directive) (ds : List Directive) (o : Option Slotted) → destination_of d ≡ o → AreApart (d ∷ ds)
    → AreApart ds × IsApart o (destinations_of ds)
apart_parts d ds None is h = (subst (λ (es : List Slotted). AreDistinct (map (λ (e : Slotted). e.0) es)) (none_more d ds is) h, tt)
apart_parts d ds (Some e) is h =
    let both = subst (λ (es : List Slotted). AreDistinct (map (λ (o : Slotted). o.0) es)) (one_more d ds e is) h in (both.1, both.0)

may_more : (d : Directive) (k : ℕ) (ds : List Directive) (slot : ℕ) → may_miss_from slot (left_over d k) ds ≡ true
    → may_miss_from slot k (d ∷ ds) ≡ true
may_more d k ds slot h =
    by_test (assigns slot d && may_be_missing d k) (λ t. (t || may_miss_from slot (left_over d k) ds) ≡ true) (λ one. refl) (λ other. h)

-- after a directive that assigns nothing
suits_none : (d : Directive) (k : ℕ) (ds : List Directive) (slot : ℕ) (given : Option Datum) → destination_of d ≡ None
    → SuitsFrom (left_over d k) ds slot given → SuitsFrom k (d ∷ ds) slot given
suits_none d k ds slot given none (inl is) = inl (is ∙ sym (ap (kind_with slot) (none_more d ds none)))
suits_none d k ds slot given none (inr (may, nothing)) = inr (may_more d k ds slot may, nothing)

own_slot : (d : Directive) (e : Slotted) (slot : ℕ) → destination_of d ≡ Some e → nat_eq e.0 slot ≡ true → assigns slot d ≡ true
own_slot Space e slot is same = absurd cc
own_slot (Byte b) e slot is same = absurd cc
own_slot Percent e slot is same = absurd cc
own_slot (Opens o) e slot is same = absurd cc
own_slot (Conv c) e slot is same = by c.slot refl is
  where
    by : (o : Option ℕ) → c.slot ≡ o → elim o [ None ↦ None | Some n ↦ Some (n, c.kind) ] ≡ Some e → has_slot slot c.slot ≡ true
    by None own eq = absurd cc
    by (Some n) own eq = let first : n ≡ e.0 = cc in rw (own, first) same

-- after one that is missing
suits_missing : (d : Directive) (k : ℕ) (ds : List Directive) (slot : ℕ) (given : Option Datum) (e : Slotted) → destination_of d ≡ Some e
    → may_be_missing d k ≡ true → IsApart (Some e) (destinations_of ds) → SuitsFrom (left_over d k) ds slot given
    → SuitsFrom k (d ∷ ds) slot given
suits_missing d k ds slot given e is missing apart suits =
    by_test (nat_eq e.0 slot) (λ t. nat_eq e.0 slot ≡ t → SuitsFrom k (d ∷ ds) slot given)
    (λ same _. own same suits) (λ other _. another other suits) refl
  where
    own : nat_eq e.0 slot ≡ true → SuitsFrom (left_over d k) ds slot given → SuitsFrom k (d ∷ ds) slot given
    own same h =
        let is_slot : e.0 ≡ slot = grind (arith, nat_tests) in
        let no_kind : kind_at slot ds ≡ None = none_with slot (destinations_of ds)
        (subst (λ n. AllByRecursion (λ m. m ≢ n) (map (λ (o : Slotted). o.0) (destinations_of ds))) is_slot apart) in
        let may : may_miss_from slot k (d ∷ ds) ≡ true = rw (own_slot d e slot is same, missing) refl in
        inr (may, elim h [ inl kind ↦ nothing_of given (kind ∙ no_kind) | inr other ↦ other.1 ])

    another : nat_eq e.0 slot ≡ false → SuitsFrom (left_over d k) ds slot given → SuitsFrom k (d ∷ ds) slot given
    another other (inl kind) = inl (kind ∙ sym (ap (kind_with slot) (one_more d ds e is) ∙ rw other refl))
    another other (inr (may, nothing)) = inr (may_more d k ds slot may, nothing)

-- after one that stored something
suits_stored : (d : Directive) (k : ℕ) (ds : List Directive) (slot s : ℕ) (v : Datum) (values : List Assigned)
    → destination_of d ≡ Some (s, kind_of v) → SuitsFrom (left_over d k) ds slot (datum_at slot values)
    → SuitsFrom k (d ∷ ds) slot (datum_at slot (record { slot = s; datum = v } ∷ values))
suits_stored d k ds slot s v values is (inl kind) =
    inl (next_given slot s v values (destinations_of ds) kind ∙ sym (ap (kind_with slot) (one_more d ds (s, kind_of v) is)))
suits_stored d k ds slot s v values is (inr (may, nothing)) =
    by_test (nat_eq slot s) (λ t. nat_eq slot s ≡ t → SuitsFrom k (d ∷ ds) slot (datum_at slot (record { slot = s; datum = v } ∷ values)))
    (λ same _. inl (rw (one_more d ds (s, kind_of v) is, sym (eq_swapped slot s), same) refl))
    (λ other _. inr (may_more d k ds slot may, rw other nothing)) refl

by_destination : (d : Directive) (k : ℕ) (ds : List Directive) (slot : ℕ) (given : Option Datum) (o : Option Slotted)
    → destination_of d ≡ o → may_be_missing d k ≡ true → IsApart o (destinations_of ds) → SuitsFrom (left_over d k) ds slot given
    → SuitsFrom k (d ∷ ds) slot given
by_destination d k ds slot given None is missing apart suits = suits_none d k ds slot given is suits
by_destination d k ds slot given (Some e) is missing apart suits = suits_missing d k ds slot given e is missing apart suits

next_fills : (d : Directive) (k : ℕ) (ds : List Directive) (b : ℕ) (e : StepEnd) (ran : List Ran) (Rest : Type 0) → Fills d e
    → GoesOn e Rest ran → IsApart (destination_of d) (destinations_of ds)
    → (Rest → status_of ran ≡ Done → AreSuitedFrom (left_over d k) ds (values_stored ran))
    → status_of (record { directive = d; bytes = b; end = e } ∷ ran) ≡ Done
    → AreSuitedFrom k (d ∷ ds) (values_stored (record { directive = d; bytes = b; end = e } ∷ ran))
next_fills d k ds b Passes ran Rest fills goes apart rest done slot =
    suits_none d k ds slot (datum_at slot (values_stored ran)) fills (rest goes done slot)
next_fills d k ds b (Stores s v) ran Rest fills goes apart rest done slot =
    suits_stored d k ds slot s v (values_stored ran) fills (rest goes done slot)
next_fills d k ds b Misses ran Rest fills goes apart rest done slot =
    by_destination d k ds slot (datum_at slot (values_stored ran)) (destination_of d) refl (rw fills refl) apart (rest goes done slot)
next_fills d k ds b (Fails status) ran Rest fills goes apart rest done slot = absurd (fills done)

-- no more are missing with one than may be
over_fits : (d : Directive) (e : StepEnd) (k : ℕ) → over d e ≤ left_over d k
over_fits d e k = grind arith

some_left : (d : Directive) (k : ℕ) → 0 < k → may_be_missing d k ≡ true
some_left d k low = grind (arith, nat_tests)

steps_fill : (m k : ℕ) (ds : List Directive) (x : List ℕ) (n : ℕ) (ran : List Ran) → m ≤ k → AreKinded ds → AreApart ds
    → StepsPast m ds x n ran → status_of ran ≡ Done → AreSuitedFrom k ds (values_stored ran)
steps_fill m k [] x n [] few kinded apart steps done = λ slot. inl refl
steps_fill m k [] x n (r ∷ ran) few kinded apart steps done = absurd steps
steps_fill m k (d ∷ ds) x n [] few kinded apart steps done = absurd steps
steps_fill zero k (d ∷ ds) x n (r ∷ ran) few kinded apart steps done =
    let parts = apart_parts d ds (destination_of d) refl apart in
    next_fills d k ds r.bytes r.end ran (StepsPast (over d r.end) ds (drop r.bytes x) (n + r.bytes) ran)
    (step_fills d x n r.bytes r.end kinded.0 steps.1) steps.2 parts.1
    (λ rest. steps_fill (over d r.end) (left_over d k) ds (drop r.bytes x) (n + r.bytes) ran (over_fits d r.end k) kinded.1 parts.0 rest)
    done
steps_fill (suc m) k (d ∷ ds) x n (r ∷ ran) few kinded apart steps done =
    let parts = apart_parts d ds (destination_of d) refl apart in
    let rest : status_of ran ≡ Done = subst (λ (s : Ran). status_of (s ∷ ran) ≡ Done) steps.0 done in
    let later = steps_fill m (left_over d k) ds x n ran (grind (arith, few)) kinded.1 parts.0 steps.1 rest in
    λ slot. subst (λ (s : Ran). SuitsFrom k (d ∷ ds) slot (datum_at slot (values_stored (s ∷ ran)))) (sym steps.0)
    (by_destination d k ds slot (datum_at slot (values_stored ran)) (destination_of d) refl (some_left d k (omega (arith, few))) parts.1
    (later slot))

-- a Done report has a value of its kind for each destination of the format that isn't missing, and no others
pub done_fills : (ds : List Directive) (m : ℕ) (x : List ℕ) (ending : Ending) (report : RunReport) → AreKinded ds
    → AreSlots (destinations_of ds) → RunTold ds m x ending report → report.status ≡ Done
    → AreSuited ds report.values
done_fills ds m x ending report kinded slots (inl (inl (few, (ran, steps, met, is_met, is)))) done =
    subst (λ (o : RunReport). AreSuited ds o.values) (sym is) (steps_fill 0 0 ds x 0 ran (omega arith) kinded slots.distinct steps
    (ap (λ (o : RunReport). o.status) (sym is) ∙ done))
done_fills ds m x ending report kinded slots (inl (inr (before, cut, is))) done = let e : report.status ≡ TooLong =
    ap (λ (o : RunReport). o.status) is in absurd cc
done_fills ds m x ending report kinded slots (inr (k, low, (before, cut, stores, is))) done = let e : report.status ≡ NoMemory =
    ap (λ (o : RunReport). o.status) is in absurd cc

-- without a directive that may be missing, no slot is
pub none_may : (slot : ℕ) (ds : List Directive) → has_optional ds ≡ false → may_miss slot ds ≡ false
none_may slot [] none = refl
none_may slot (d ∷ ds) none =
    let parts = or_false (is_optional d) (has_optional ds) none in
    rw (parts.0, no_and (assigns slot d), no_more d parts.0) (none_may slot ds parts.1)
  where
    or_false : (a b : Bool) → (a || b) ≡ false → (a ≡ false) × (b ≡ false)
    or_false true b e = absurd cc
    or_false false b e = (refl, e)

    no_and : (a : Bool) → (a && false) ≡ false
    no_and true = refl
    no_and false = refl

    no_more : (d : Directive) → is_optional d ≡ false → more_of d ≡ 0
    no_more Space e = refl
    no_more (Byte b) e = refl
    no_more Percent e = refl
    no_more (Conv c) e = rw e refl
    no_more (Opens o) e = absurd cc

-- where none may be missing, each is given
pub each_given : (ds : List Directive) (values : List Assigned) → ((slot : ℕ) → may_miss slot ds ≡ false) → AreSuited ds values
    → (slot : ℕ) → option_map kind_of (datum_at slot values) ≡ kind_at slot ds
each_given ds values none suits slot = by (suits slot)
  where
    by : Suits ds slot (datum_at slot values) → option_map kind_of (datum_at slot values) ≡ kind_at slot ds
    by (inl kind) = kind
    by (inr (may, nothing)) = let no = none slot in absurd cc
