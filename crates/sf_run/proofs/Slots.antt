-- The slots of a format and those of a store.
use Rattle.sf_report.proofs.Machines.{some_is}
use Rattle.std.proofs.lemmas.Bool.{and_from, and_parts, or_from, or_left, or_right, or_cases, eq-eqb}
use Rattle.std.proofs.lemmas.Grind.{common_steps}
use Rattle.std.proofs.Common.{◌≡◌, ℕ, zero, suc, ◌+◌, ◌-◌, ◌≤◌, Bool, true, false, cond, not, ◌&&◌, nat_eq, nat_le, List, [], ◌∷◌, ◌++◌}
use Rattle.std.proofs.Common.{length, take}
use Rattle.std.proofs.Common.{drop, Option, Some, None, is_some, refl, sym, ap, subst, ◌∙◌, arith, unwrap_or, append-nil, length-append}
use Rattle.std.proofs.Common.{inl, inr, true≢false}
use Rattle.std.specs.Prelude.{◌≢◌, slice_get, IfSome, IsSome}
use Rattle.std.specs.List.{AllByRecursion, list_all, list_any}
use Rattle.std.proofs.Math.Seq.{take-length}
use Rattle.std.proofs.lemmas.Bool.{ne_eqb}
use Rattle.std.proofs.lemmas.Bool.Decides.{nat_tests}
use Rattle.std.proofs.lemmas.List.{map-append}
use Rattle.std.proofs.lemmas.List.Sums.{sum_by-cons}
use Rattle.sf_base.specs.declared.real.Real as real
use Rattle.sf_base.specs.Data.{Datum, Bytes, Real, Assigned, datum_at, datum_of_number}
use Rattle.sf_base.specs.Blanks.{trimmed_end}
use Rattle.sf_base.specs.stores.Kept.{Kept, assigned, shorter, with_closed, with_cut, with_dropped, Opened, text_of, text_in, texts_in}
use Rattle.sf_base.specs.stores.Kept.{values_closed}
use Rattle.sf_report.specs.Memory.{capacity_of}
use Rattle.sf_base.specs.declared.number.Number.{Number}
use Rattle.sf_format.specs.declared.directive.Conversion.{Conversion}
use Rattle.sf_format.specs.declared.directive.Directive.{Directive}
use Rattle.sf_format.specs.declared.directive.Directive.TheVariants.{Space, Byte, Percent, Conv, Opens}
use Rattle.sf_format.specs.declared.directive.Shape.{Shape}
use Rattle.sf_format.specs.declared.directive.Shape.TheVariants.{Int, Text, Set, Chars, Float, Count}
use Rattle.sf_format.specs.Slots.{AreDistinct}
use Rattle.sf_format.specs.Proper.{slots_of}
use Rattle.sf_format.specs.Widths.{add_widths, text_width, stored_width, width_sum}
use Rattle.sf_item.specs.Scan.{most_bytes, HasLeft}
use Rattle.sf_item.specs.declared.column.ColumnScan.{ColumnScan}
use Rattle.sf_item.specs.ColumnScans.{column_left}
use Rattle.sf_item.specs.Taking.{left_of}
use Rattle.sf_run.specs.declared.directive.Phase.{Phase}
use Rattle.sf_run.specs.declared.directive.Phase.TheVariants as phase
use Rattle.sf_run.specs.declared.scanner.Stop.{Stop}
use Rattle.sf_run.specs.Holding.{are_placed, are_apart, are_among, first_slot, is_text, stored_widths, width_left, widths_from}
use Rattle.sf_run.specs.Holding.{still_stored, left_before, is_limited, column_room, HasLeftAtMost, IsGivenUp, LeftAfterAll}
use Rattle.sf_run.specs.Places.{is_destination}
use Rattle.sf_run.specs.Texts.{IsNextSlot, closing_text, is_cut, slot_of, slot_of_text, text_slot, opened_slot, slots_in}
use Rattle.sf_run.specs.Phases.{slot_in}
use Rattle.sf_run.proofs.Columns.{closing_front, closing_length}
use Rattle.sf_run.proofs.Groups.{drop_at}

-- ---- the slots of a list of directives

with_slot : Option ℕ → List ℕ → List ℕ
with_slot None ns = ns
with_slot (Some n) ns = n ∷ ns

slots-cons : (d : Directive) (ds : List Directive) → slots_of (d ∷ ds) ≡ with_slot (slot_of d) (slots_of ds)
unfolding with_slot
slots-cons d ds = grind arith

with-append : (slot : Option ℕ) (ms ns : List ℕ) → with_slot slot (ms ++ ns) ≡ with_slot slot ms ++ ns
unfolding with_slot
with-append slot ms ns = grind arith

pub slots_split : (ds : List Directive) (p : ℕ) → slots_of ds ≡ slots_of (take p ds) ++ slots_of (drop p ds)
slots_split ds zero = refl
slots_split [] (suc p) = refl
slots_split (d ∷ ds) (suc p) = grind (arith, slots_split ds)

slots_taken : (ds : List Directive) (p : ℕ) (d : Directive) → slice_get ds p ≡ Some d
    → slots_of (take (suc p) ds) ≡ slots_of (take p ds) ++ with_slot (slot_of d) []
slots_taken [] p d at = cc
slots_taken (x ∷ ds) zero d at = slots-cons x [] ∙ ap (λ (e : Directive). with_slot (slot_of e) []) (some_is x d at)
slots_taken (x ∷ ds) (suc p) d at =
    slots-cons x (take (suc p) ds) ∙ ap (with_slot (slot_of x)) (slots_taken ds p d at)
    ∙ with-append (slot_of x) (slots_of (take p ds)) (with_slot (slot_of d) [])
    ∙ ap (λ l. l ++ with_slot (slot_of d) []) (sym (slots-cons x (take p ds)))

one_more : (p : ℕ) → suc p ≡ p + 1
one_more p = omega arith

-- the slots with that of one more directive
pub slots_after_none : (ds : List Directive) (p : ℕ) (d : Directive) → slice_get ds p ≡ Some d → slot_of d ≡ None
    → slots_of (take (p + 1) ds) ≡ slots_of (take p ds)
unfolding with_slot
slots_after_none ds p d at none =
    ap (λ n. slots_of (take n ds)) (sym (one_more p)) ∙ slots_taken ds p d at
    ∙ ap (λ s. slots_of (take p ds) ++ with_slot s []) none ∙ append-nil _

pub slots_after_some : (ds : List Directive) (p : ℕ) (d : Directive) (slot : ℕ) → slice_get ds p ≡ Some d → slot_of d ≡ Some slot
    → slots_of (take (p + 1) ds) ≡ slots_of (take p ds) ++ slot ∷ []
unfolding with_slot
slots_after_some ds p d slot at own =
    ap (λ n. slots_of (take n ds)) (sym (one_more p)) ∙ slots_taken ds p d at
    ∙ ap (λ s. slots_of (take p ds) ++ with_slot s []) own

pub slots_none : (ds : List Directive) (p : ℕ) (d : Directive) (values : List Assigned) → slice_get ds p ≡ Some d → slot_of d ≡ None
    → slots_in values ≡ slots_of (take p ds)
    → slots_in values ≡ slots_of (take (p + 1) ds)
slots_none ds p d values at none is = is ∙ sym (slots_after_none ds p d at none)

pub slots_more : (ds : List Directive) (p : ℕ) (d : Directive) (values : List Assigned) (slot : ℕ) (v : Datum) → slice_get ds p ≡ Some d
    → slot_of d ≡ Some slot → slots_in values ≡ slots_of (take p ds)
    → slots_in (values ++ assigned slot v ∷ []) ≡ slots_of (take (p + 1) ds)
slots_more ds p d values slot v at own is =
    map-append (λ (a : Assigned). a.slot) values (assigned slot v ∷ []) ∙ ap (λ l. l ++ slot ∷ []) is
    ∙ sym (slots_after_some ds p d slot at own)

-- ---- the slots that were given something, among those of the directives that have passed

any_front : (n : ℕ) (xs ys : List ℕ) → list_any (nat_eq n) xs ≡ true → list_any (nat_eq n) (xs ++ ys) ≡ true
any_front n [] ys h = absurd (true≢false (sym h))
any_front n (x ∷ xs) ys h = elim (or_cases (nat_eq n x) (list_any (nat_eq n) xs) h) [
  | inl here ↦ or_left (nat_eq n x) (list_any (nat_eq n) (xs ++ ys)) here
  | inr later ↦ or_right (nat_eq n x) (list_any (nat_eq n) (xs ++ ys)) (any_front n xs ys later)
]

any_last : (n : ℕ) (xs : List ℕ) → list_any (nat_eq n) (xs ++ n ∷ []) ≡ true
any_last n [] = or_left (nat_eq n n) false (eq-eqb n n refl)
any_last n (x ∷ xs) = or_right (nat_eq n x) (list_any (nat_eq n) (xs ++ n ∷ [])) (any_last n xs)

among_front : (ns xs ys : List ℕ) → are_among ns xs ≡ true → are_among ns (xs ++ ys) ≡ true
among_front [] xs ys h = refl
among_front (n ∷ ns) xs ys h =
    let w = and_parts (list_any (nat_eq n) xs) (are_among ns xs) h in
    and_from (list_any (nat_eq n) (xs ++ ys)) (are_among ns (xs ++ ys)) (any_front n xs ys w.0) (among_front ns xs ys w.1)

among_last : (ns xs : List ℕ) (n : ℕ) → are_among ns xs ≡ true → are_among (ns ++ n ∷ []) (xs ++ n ∷ []) ≡ true
among_last [] xs n h = and_from (list_any (nat_eq n) (xs ++ n ∷ [])) true (any_last n xs) refl
among_last (m ∷ ns) xs n h =
    let w = and_parts (list_any (nat_eq m) xs) (are_among ns xs) h in
    and_from (list_any (nat_eq m) (xs ++ n ∷ [])) (are_among (ns ++ n ∷ []) (xs ++ n ∷ [])) (any_front m xs (n ∷ []) w.0)
    (among_last ns xs n w.1)

-- a directive that gives nothing has ended
pub given_on : (ds : List Directive) (p : ℕ) (d : Directive) (values : List Assigned) → slice_get ds p ≡ Some d
    → are_among (slots_in values) (slots_of (take p ds)) ≡ true → are_among (slots_in values) (slots_of (take (p + 1) ds)) ≡ true
given_on ds p d values at h =
    ap (are_among (slots_in values)) (ap (λ n. slots_of (take n ds)) (sym (one_more p)) ∙ slots_taken ds p d at)
    ∙ among_front (slots_in values) (slots_of (take p ds)) (with_slot (slot_of d) []) h

-- one that gives its slot something
pub given_more : (ds : List Directive) (p : ℕ) (d : Directive) (values : List Assigned) (slot : ℕ) (v : Datum) → slice_get ds p ≡ Some d
    → slot_of d ≡ Some slot → are_among (slots_in values) (slots_of (take p ds)) ≡ true
    → are_among (slots_in (values ++ assigned slot v ∷ [])) (slots_of (take (p + 1) ds)) ≡ true
unfolding with_slot
given_more ds p d values slot v at own h =
    let all : slots_of (take (p + 1) ds) ≡ slots_of (take p ds) ++ slot ∷ [] = ap (λ n. slots_of (take n ds)) (sym (one_more p))
    ∙ slots_taken ds p d at ∙ ap (λ s. slots_of (take p ds) ++ with_slot s []) own in
    ap (λ l. are_among l (slots_of (take (p + 1) ds))) (map-append (λ (a : Assigned). a.slot) values (assigned slot v ∷ []))
    ∙ ap (are_among (slots_in values ++ slot ∷ [])) all ∙ among_last (slots_in values) (slots_of (take p ds)) slot h

-- those of the directive at a place are between those before and after it
slots_at : (ds : List Directive) (p : ℕ) (d : Directive) (slot : ℕ) → slice_get ds p ≡ Some d → slot_of d ≡ Some slot
    → slots_of ds ≡ slots_of (take p ds) ++ slot ∷ slots_of (drop (p + 1) ds)
unfolding with_slot
slots_at ds p d slot at own = grind (arith, (slots_split ds p), (drop_at ds p d at))

-- ---- each slot is one of the store's

among : (test : ℕ → Bool) (xs : List ℕ) (n : ℕ) (ys : List ℕ) → list_all test (xs ++ n ∷ ys) ≡ true → test n ≡ true
among test xs n ys h = grind (arith, common_steps)

pub slot_placed : (slots : ℕ) (ds : List Directive) (p : ℕ) (d : Directive) (slot : ℕ) → are_placed slots ds ≡ true
    → slice_get ds p ≡ Some d → slot_of d ≡ Some slot
    → (1 ≤ slot) × (slot ≤ slots)
slot_placed slots ds p d slot placed at own =
    let e : (nat_le 1 slot && nat_le slot slots) ≡ true = among (λ n. nat_le 1 n && nat_le n slots) (slots_of (take p ds)) slot
    (slots_of (drop (p + 1) ds))
    (subst (λ l. list_all (λ n. nat_le 1 n && nat_le n slots) l ≡ true) (slots_at ds p d slot at own) placed) in
    let low = (and_parts (nat_le 1 slot) (nat_le slot slots) e).0 in
    let high = (and_parts (nat_le 1 slot) (nat_le slot slots) e).1 in
    (grind (arith, nat_tests), grind (arith, nat_tests))

-- ---- the slot has no value yet

not_any : (x : ℕ) (xs : List ℕ) (n : ℕ) (ys : List ℕ) → list_any (nat_eq x) (xs ++ n ∷ ys) ≡ false → nat_eq x n ≡ false
not_any x xs n ys h = grind (arith, common_steps)

apart_before : (xs : List ℕ) (n : ℕ) (ys : List ℕ) → are_apart (xs ++ n ∷ ys) ≡ true → list_any (nat_eq n) xs ≡ false
apart_before [] n ys h = refl
apart_before (x ∷ xs) n ys h = grind (arith, not_any, apart_before xs)

no_datum : (slot : ℕ) (values : List Assigned) → list_any (nat_eq slot) (slots_in values) ≡ false → datum_at slot values ≡ None
no_datum slot [] h = refl
no_datum slot (a ∷ values) h = grind (arith, no_datum slot values)

none_among : (n : ℕ) (ns xs : List ℕ) → are_among ns xs ≡ true → list_any (nat_eq n) xs ≡ false → list_any (nat_eq n) ns ≡ false
none_among n [] xs h none = refl
none_among n (m ∷ ns) xs h none =
    let w = and_parts (list_any (nat_eq m) xs) (are_among ns xs) h in
    or_from (nat_eq n m) (list_any (nat_eq n) ns) (ne_eqb n m (λ e. true≢false (sym w.0 ∙ ap (λ k. list_any (nat_eq k) xs) (sym e) ∙ none)))
    (none_among n ns xs w.1 none)

-- nothing of the directives before it gave its slot something
pub slot_unused : (ds : List Directive) (p : ℕ) (d : Directive) (slot : ℕ) (values : List Assigned) → are_apart (slots_of ds) ≡ true
    → are_among (slots_in values) (slots_of (take p ds)) ≡ true
    → slice_get ds p ≡ Some d → slot_of d ≡ Some slot → datum_at slot values ≡ None
slot_unused ds p d slot values apart h at own =
    no_datum slot values (none_among slot (slots_in values) (slots_of (take p ds)) h
    (apart_before (slots_of (take p ds)) slot (slots_of (drop (p + 1) ds))
    (subst (λ l. are_apart l ≡ true) (slots_at ds p d slot at own) apart)))

-- ---- destinations

pub is_destination_of : (d : Directive) (slot : ℕ) → slot_of d ≡ Some slot → is_destination d ≡ true
is_destination_of d slot e = grind arith

pub slot_of_own : (d : Directive) (slot : ℕ) → text_slot d ≡ Some slot → slot_of d ≡ Some slot
slot_of_own d slot e = grind arith

-- ---- texts

pub texts-push : (values : List Assigned) (a : Assigned) → texts_in (values ++ a ∷ []) ≡ texts_in values ++ text_in a.datum
texts-push values a = grind (arith, common_steps)

pub joined_number : (closed : List ℕ) (values : List Assigned) (slot : ℕ) (n : Number) → closed ≡ texts_in values
    → closed ≡ texts_in (values ++ assigned slot (datum_of_number n) ∷ [])
joined_number closed values slot n is = is ∙ sym (append-nil (texts_in values))
    ∙ sym (texts-push values (assigned slot (datum_of_number n)))

pub joined_real : (closed : List ℕ) (values : List Assigned) (slot : ℕ) (r : real.Real) → closed ≡ texts_in values
    → closed ≡ texts_in (values ++ assigned slot (Real r) ∷ [])
joined_real closed values slot r is = is ∙ sym (append-nil (texts_in values)) ∙ sym (texts-push values (assigned slot (Real r)))

pub joined_text : (closed : List ℕ) (values : List Assigned) (slot : ℕ) (text : List ℕ) → closed ≡ texts_in values
    → closed ++ text ≡ texts_in (values ++ assigned slot (Bytes text) ∷ [])
joined_text closed values slot text is = ap (λ l. l ++ text) is ∙ sym (texts-push values (assigned slot (Bytes text)))

pub closed_values : (values : List Assigned) (opened : Option Opened) (slot : ℕ) → opened_slot opened ≡ Some slot
    → values_closed values opened ≡ values ++ assigned slot (Bytes (text_of opened)) ∷ []
closed_values values opened slot e = grind arith

pub text_opened : (opened : Option Opened) (slot : ℕ) → opened_slot opened ≡ Some slot → IsSome opened
text_opened None slot e = cc
text_opened (Some o) slot e = refl

pub opened_none : (opened : Option Opened) → opened_slot opened ≡ None → opened ≡ None
opened_none opened e = grind arith

-- ---- a text of which only the front is given

take_nothing : (n : ℕ) → take {A = ℕ} n [] ≡ []
take_nothing zero = refl
take_nothing (suc n) = refl

cut_slot : (n : ℕ) (o : Option Opened) → opened_slot (shorter n o) ≡ opened_slot o
cut_slot n None = refl
cut_slot n (Some o) = refl

cut_text : (n : ℕ) (o : Option Opened) → text_of (shorter n o) ≡ take n (text_of o)
cut_text n None = sym (take_nothing n)
cut_text n (Some o) = refl

-- what the directive gives of it
pub given_text : (d : Directive) (o : Option Opened)
    → text_of (shorter (length (closing_text d (text_of o))) o) ≡ closing_text d (text_of o)
given_text d o = cut_text (length (closing_text d (text_of o))) o ∙ sym (closing_front d (text_of o))

pub given_slot : (d : Directive) (o : Option Opened) (slot : ℕ) → opened_slot o ≡ Some slot
    → opened_slot (shorter (length (closing_text d (text_of o))) o) ≡ Some slot
given_slot d o slot e = cut_slot (length (closing_text d (text_of o))) o ∙ e

whole_text : (o : Option Opened) → shorter (length (text_of o)) o ≡ o
whole_text None = refl
whole_text (Some o) = ap (λ t. Some (record { slot = o.slot; text = t })) (take-length o.text)

-- where all of it is given, nothing is cut
pub nothing_cut : (d : Directive) (kept : Kept) → is_cut d ≡ false → kept ≡ with_cut (length (closing_text d (text_of kept.opened))) kept
nothing_cut d kept whole =
    let all : closing_text d (text_of kept.opened) ≡ text_of kept.opened =
    ap (λ v. cond v (trimmed_end (text_of kept.opened)) (text_of kept.opened)) whole in
    let none : kept.room ≡ kept.room + (length (text_of kept.opened) - length (text_of kept.opened)) = omega arith in
    ap (λ o. record kept { opened = o }) (sym (whole_text kept.opened))
    ∙ ap (λ r. record kept { opened = shorter (length (text_of kept.opened)) kept.opened; room = r }) none
    ∙ ap (λ t. with_cut (length t) kept) (sym all)

-- what is kept once the slot was given that
abbrev pub with_given : Directive → ℕ → Kept → Kept
with_given d slot kept = record {
  values = kept.values ++ assigned slot (Bytes (closing_text d (text_of kept.opened))) ∷ [];
  closed = kept.closed ++ closing_text d (text_of kept.opened);
  opened = None;
  room = kept.room + (length (text_of kept.opened) - length (closing_text d (text_of kept.opened)));
}

pub given_kept : (d : Directive) (slot : ℕ) (kept : Kept) → opened_slot kept.opened ≡ Some slot
    → with_closed (with_cut (length (closing_text d (text_of kept.opened))) kept) ≡ with_given d slot kept
given_kept d slot kept e =
    let n : ℕ = length (closing_text d (text_of kept.opened)) in
    let o : Option Opened = shorter n kept.opened in
    let left : ℕ = kept.room + (length (text_of kept.opened) - n) in
    ap (λ (v : List Assigned). record { values = v; closed = kept.closed ++ text_of o; opened = None; room = left })
    (closed_values kept.values o slot (given_slot d kept.opened slot e))
    ∙ ap (λ (t : List ℕ). record {
      values = kept.values ++ assigned slot (Bytes t) ∷ [];
      closed = kept.closed ++ t;
      opened = None;
      room = left;
    }) (given_text d kept.opened)

-- what a store can hold, and what it holds, then
pub given_capacity : (d : Directive) (slot : ℕ) (kept : Kept) → capacity_of kept ≤ capacity_of (with_given d slot kept)
given_capacity d slot kept =
    let t : List ℕ = text_of kept.opened in
    let less = closing_length d t in
    let old = length-append kept.closed t in
    let new = length-append kept.closed (closing_text d t) in
    let whole = length-append (kept.closed ++ closing_text d t) [] in
    omega (arith, less, old, new, whole)

pub given_size : (d : Directive) (closed : List ℕ) (t : List ℕ) → length ((closed ++ closing_text d t) ++ []) ≤ length (closed ++ t)
given_size d closed t =
    let less = closing_length d t in
    let old = length-append closed t in
    let new = length-append closed (closing_text d t) in
    let whole = length-append (closed ++ closing_text d t) [] in
    omega (arith, less, old, new, whole)

-- ---- room

plain_widths : (ds : List Directive) → widths_from ds phase.Skipping ≡ stored_widths ds
plain_widths ds = grind (arith, common_steps)

widths_at : (ds : List Directive) (p : ℕ) (d : Directive) (current : Phase) → slice_get ds p ≡ Some d
    → widths_from (drop p ds) current ≡ width_left d current + stored_widths (drop (p + 1) ds)
widths_at ds p d current at = ap (λ rest. widths_from rest current) (drop_at ds p d at)

pub room_passed : (ended : Option Stop) (ds : List Directive) (p : ℕ) (d : Directive) (current : Phase) (room : ℕ)
    → slice_get ds p ≡ Some d → still_stored ended ds p current ≤ room
    → still_stored ended ds (p + 1) phase.Skipping ≤ room
room_passed ended ds p d current room at fits = grind (arith, plain_widths, widths_at, common_steps)

-- a directive of a format with a width sum has a width
sum_some : (a b : Option ℕ) → is_some (add_widths a b) ≡ true → (is_some a ≡ true) × (is_some b ≡ true)
sum_some a b e = grind arith

width_at : (ds : List Directive) (p : ℕ) (d : Directive) → is_some (width_sum ds) ≡ true → slice_get ds p ≡ Some d
    → is_some (stored_width d) ≡ true
width_at [] p d h at = cc
width_at (x ∷ ds) zero d h at = ap (λ (e : Directive). is_some (stored_width e)) (sym (some_is x d at))
    ∙ (sum_some (stored_width x) (width_sum ds) h).0
width_at (x ∷ ds) (suc p) d h at = width_at ds p d (sum_some (stored_width x) (width_sum ds) h).1 at

no_text_slot : (shape : Shape) (slot : ℕ) → slot_of_text shape None ≡ Some slot → ⊥
no_text_slot shape slot e = grind arith

some_back : (o : Option ℕ) → is_some o ≡ true → o ≡ Some (unwrap_or o 0)
some_back o h = grind arith

-- the bytes of a text that begins
first_left : (shape : Shape) (width slot : Option ℕ) (n : ℕ) → slot_of_text shape slot ≡ Some n → is_some (text_width shape width) ≡ true
    → most_bytes shape width ≡ text_width shape width
first_left shape width slot n e h = grind arith

conversion_width : (c : Conversion) (slot : ℕ) → text_slot (Conv c) ≡ Some slot → is_some (stored_width (Conv c)) ≡ true
    → most_bytes c.shape c.width ≡ Some (unwrap_or (stored_width (Conv c)) 0)
conversion_width c slot e h = by c.slot e h
  where
    by : (own : Option ℕ) → slot_of_text c.shape own ≡ Some slot
        → is_some (elim own as (λ (o : Option ℕ). Option ℕ) [ None ↦ Some 0 | Some n ↦ text_width c.shape c.width ]) ≡ true
        → most_bytes c.shape c.width ≡ Some (unwrap_or (elim own as (λ (o : Option ℕ). Option ℕ) [
          | None ↦ Some 0
          | Some n ↦ text_width
              c.shape c.width
        ]) 0)
    by None e h = absurd (no_text_slot c.shape slot e)
    by (Some n) e h = first_left c.shape c.width (Some n) slot e h ∙ some_back (text_width c.shape c.width) h

-- the width of a text that has not begun
width_before : (d : Directive) (current : Phase) (slot : ℕ) → slot_in current ≡ None → text_slot d ≡ Some slot
    → is_some (stored_width d) ≡ true → left_before d current ≡ Some (width_left d current)
width_before d (phase.Text n s) slot none e h = absurd cc
width_before d (phase.Column o s) slot none e h = ap (λ t. Some (column_room t s)) (sym e)
width_before Space phase.Skipping slot none e h = absurd cc
width_before (Byte b) phase.Skipping slot none e h = absurd cc
width_before Percent phase.Skipping slot none e h = absurd cc
width_before (Opens o) phase.Skipping slot none e h = absurd cc
width_before (Conv c) phase.Skipping slot none e h = conversion_width c slot e h
width_before Space (phase.Item s) slot none e h = absurd cc
width_before (Byte b) (phase.Item s) slot none e h = absurd cc
width_before Percent (phase.Item s) slot none e h = absurd cc
width_before (Opens o) (phase.Item s) slot none e h = absurd cc
width_before (Conv c) (phase.Item s) slot none e h = conversion_width c slot e h

-- and of one that has
width_under_way : (d : Directive) (current : Phase) (slot : ℕ) → slot_in current ≡ Some slot → text_slot d ≡ Some slot
    → is_limited current ≡ true → left_before d current ≡ Some (width_left d current)
width_under_way d phase.Skipping slot some e h = absurd cc
width_under_way d (phase.Item s) slot some e h = absurd cc
width_under_way d (phase.Text n s) slot some e h = some_back (left_of s) h
width_under_way d (phase.Column o s) slot some e h = ap (λ t. Some (column_room t s)) (sym e)

-- a text with so much left
width_after : (d : Directive) (current : Phase) (slot w : ℕ) → slot_in current ≡ Some slot → text_slot d ≡ Some slot
    → left_before d current ≡ Some w → (is_limited current ≡ true) × (width_left d current ≡ w)
width_after d phase.Skipping slot w some e left = absurd cc
width_after d (phase.Item s) slot w some e left = absurd cc
width_after d (phase.Text n s) slot w some e left = (ap is_some left, ap (λ o. unwrap_or o 0) left)
width_after d (phase.Column o s) slot w some e left = (refl, ap (λ t. column_room t s) e ∙ some_is (column_left s) w left)

module _ (ds : List Directive) (p : ℕ) (d : Directive) (current new : Phase) (slot : ℕ) (at : slice_get ds p ≡ Some d)
    (none : slot_in current ≡ None) (own : slot_in new ≡ Some slot)
    (text : text_slot d ≡ Some slot) (left : left_before d new ≡ left_before d current) (bounded : is_some (width_sum ds) ≡ true) where
  opened_width : (is_limited new ≡ true) × (width_left d new ≡ width_left d current)
  opened_width = width_after d new slot (width_left d current) own text
      (left ∙ width_before d current slot none text (width_at ds p d bounded at))

  pub open_limited : is_limited new ≡ true
  open_limited = opened_width.0

  pub room_opened : (ended : Option Stop) (room : ℕ) → still_stored ended ds p current ≤ room → still_stored ended ds p new ≤ room
  room_opened (Some stop) room fits = fits
  room_opened None room fits =
      let before = widths_at ds p d current at in
      let after = widths_at ds p d new at in
      let same = opened_width.1 in
      omega (arith, before, after, same, fits)

-- n bytes of the text under way were taken
module _ (ds : List Directive) (p : ℕ) (d : Directive) (current new : Phase) (slot n : ℕ) (at : slice_get ds p ≡ Some d)
    (under_way : slot_in current ≡ Some slot) (own : slot_in new ≡ Some slot)
    (text : text_slot d ≡ Some slot) (left : LeftAfterAll d current new n) (limited : is_limited current ≡ true) where
  taken_width : (is_limited new ≡ true) × (width_left d new + n ≤ width_left d current)
  taken_width = by new own left
    where
      before : left_before d current ≡ Some (width_left d current)
      before = width_under_way d current slot under_way text limited

      has_left : (w l : Option ℕ) (m : ℕ) → w ≡ Some m → HasLeft w l n → (is_some l ≡ true) × (unwrap_or l 0 + n ≤ m)
      has_left w l m is h = grind arith

      by : (new : Phase) → slot_in new ≡ Some slot → LeftAfterAll d current new n
          → (is_limited new ≡ true) × (width_left d new + n ≤ width_left d current)
      by phase.Skipping own left = absurd cc
      by (phase.Item s) own left = absurd cc
      by (phase.Text k s) own left = has_left (left_before d current) (left_of s) (width_left d current) before left
      by (phase.Column o s) own left =
          let most : column_left s + n ≤ width_left d current = subst (λ w. HasLeftAtMost w (column_left s) n) before left in
          (refl, subst (λ t. column_room t s + n ≤ width_left d current) (sym text) most)

  pub taken_limited : is_limited new ≡ true
  taken_limited = taken_width.0

  pub room_taken : (ended : Option Stop) (room rest : ℕ) → still_stored ended ds p current ≤ room → room ≤ rest + n
      → ended ≡ None → still_stored ended ds p new ≤ rest
  room_taken (Some stop) room rest fits more none = absurd cc
  room_taken None room rest fits more none =
      let before = widths_at ds p d current at in
      let after = widths_at ds p d new at in
      let less = taken_width.1 in
      omega (arith, before, after, less, fits, more)

-- a directive that stores no text has no width
no_width : (d : Directive) → text_slot d ≡ None → unwrap_or (stored_width d) 0 ≡ 0
no_width Space none = refl
no_width (Byte b) none = refl
no_width Percent none = refl
no_width (Opens o) none = refl
no_width (Conv c) none = by c.slot c.shape none
  where
    by : (slot : Option ℕ) (shape : Shape) → slot_of_text shape slot ≡ None
        → unwrap_or (elim slot as (λ (o : Option ℕ). Option ℕ) [ None ↦ Some 0 | Some n ↦ text_width shape c.width ]) 0 ≡ 0
    by None shape none = refl
    by (Some n) (Int numeral) none = refl
    by (Some n) Count none = refl
    by (Some n) (Text lead) none = absurd cc
    by (Some n) (Set members) none = absurd cc
    by (Some n) Chars none = absurd cc
    by (Some n) (Float lead) none = absurd cc

-- where no text goes on, none was under way
pub next_none : (text current new : Option ℕ) → new ≡ None → IsNextSlot text current new → current ≡ None
next_none text None new none next = refl
next_none text (Some n) None none next = absurd next
next_none text (Some n) (Some m) none next = cc

-- no byte of a text was taken
module _ (ds : List Directive) (p : ℕ) (d : Directive) (current new : Phase) (n : ℕ) (at : slice_get ds p ≡ Some d)
    (none : slot_in current ≡ None) (still : slot_in new ≡ None) (left : LeftAfterAll d current new n)
    (bounded : is_some (width_sum ds) ≡ true) where
  kept_width : width_left d new ≤ width_left d current
  kept_width = by new still left
    where
      plain : (p : Phase) → slot_in p ≡ None → IsGivenUp d p → unwrap_or (stored_width d) 0 ≤ width_left d p
      plain phase.Skipping still up = omega arith
      plain (phase.Item s) still up = omega arith
      plain (phase.Text k s) still up = absurd cc
      plain (phase.Column o s) still up = (let nothing = no_width d up in omega (arith, nothing))

      at_most : (w : Option ℕ) (m l : ℕ) → w ≡ Some m → HasLeftAtMost w l n → l ≤ m
      at_most w m l is h = grind arith

      column : (t : Option ℕ) → text_slot d ≡ t → (s : ColumnScan) → HasLeftAtMost (left_before d current) (column_left s) n
          → column_room t s ≤ width_left d current
      column None e s h = omega arith
      column (Some slot) e s h = at_most (left_before d current) (width_left d current) (column_left s)
          (width_before d current slot none e (width_at ds p d bounded at)) h

      by : (new : Phase) → slot_in new ≡ None → LeftAfterAll d current new n → width_left d new ≤ width_left d current
      by phase.Skipping still left = plain current none left
      by (phase.Item s) still left = plain current none left
      by (phase.Text k s) still left = absurd cc
      by (phase.Column o s) still left = column (text_slot d) refl s left

  pub room_kept : (ended : Option Stop) (room : ℕ) → still_stored ended ds p current ≤ room → still_stored ended ds p new ≤ room
  room_kept (Some stop) room fits = fits
  room_kept None room fits =
      let before = widths_at ds p d current at in
      let after = widths_at ds p d new at in
      let less = kept_width in
      omega (arith, before, after, less, fits)

-- ---- the text under way is that of the directive

pub own_text : (ds : List Directive) (p : ℕ) (d : Directive) (current : Phase) → slice_get ds p ≡ Some d
    → (is_text current ≡ true → first_slot (drop p ds) ≡ slot_in current)
    → (slot : ℕ) → slot_in current ≡ Some slot → text_slot d ≡ Some slot
own_text ds p d current at own slot e = grind (arith, drop_at)

pub text_own : (ds : List Directive) (p : ℕ) (d : Directive) (slot : ℕ) → slice_get ds p ≡ Some d → text_slot d ≡ Some slot
    → first_slot (drop p ds) ≡ Some slot
text_own ds p d slot at e = ap first_slot (drop_at ds p d at) ∙ e

pub if_some : {A : Type 0} (o : Option A) (P : A → Type 0) → ((a : A) → o ≡ Some a → P a) → IfSome o P
if_some o P f = grind arith

-- ---- what a format says of its slots

pub placed_from : (count slots : ℕ) (ns : List ℕ) → count ≤ slots → AllByRecursion (λ n. (1 ≤ n) × (n ≤ count)) ns
    → list_all (λ n. nat_le 1 n && nat_le n slots) ns ≡ true
placed_from count slots [] fits h = refl
placed_from count slots (n ∷ ns) fits h = grind (arith, placed_from count slots ns)

none_of_them : (n : ℕ) (ns : List ℕ) → AllByRecursion (λ m. m ≢ n) ns → list_any (nat_eq n) ns ≡ false
none_of_them n [] h = refl
none_of_them n (m ∷ ns) h = or_from (nat_eq n m) (list_any (nat_eq n) ns) (ne_eqb n m (λ e. h.0 (sym e))) (none_of_them n ns h.1)

pub apart_from : (ns : List ℕ) → AreDistinct ns → are_apart ns ≡ true
apart_from [] h = refl
apart_from (n ∷ ns) h = and_from (not (list_any (nat_eq n) ns)) (are_apart ns) (ap not (none_of_them n ns h.0)) (apart_from ns h.1)

-- ---- before the first byte

added : (a b : Option ℕ) (n : ℕ) → add_widths a b ≡ Some n → unwrap_or a 0 + unwrap_or b 0 ≡ n
added a b n e = grind arith

unwrapped : (ds : List Directive) → is_some (width_sum ds) ≡ true → stored_widths ds ≡ unwrap_or (width_sum ds) 0
unwrapped [] h = refl
unwrapped (d ∷ ds) h =
    let w = sum_some (stored_width d) (width_sum ds) h in
    let rest = unwrapped ds w.1 in
    let all = sum_by-cons (λ (x : Directive). unwrap_or (stored_width x) 0) d ds in
    let e = added (stored_width d) (width_sum ds) (unwrap_or (width_sum (d ∷ ds)) 0) (some_back (width_sum (d ∷ ds)) h) in
    omega (arith, rest, all, e)

pub widths_are : (ds : List Directive) (n : ℕ) → width_sum ds ≡ Some n → widths_from ds phase.Skipping ≡ n
widths_are ds n e = plain_widths ds ∙ unwrapped ds (ap is_some e) ∙ ap (λ o. unwrap_or o 0) e

pub room_first : (ds : List Directive) (room : ℕ) → IfSome (width_sum ds) (λ n. n ≤ room) → is_some (width_sum ds) ≡ true
    → widths_from ds phase.Skipping ≤ room
room_first ds room fits bounded = grind (arith, widths_are)

-- ---- how much a store holds of a format with a width sum

-- the sum is at least what is held and what may still be stored
pub size_passed : (ended : Option Stop) (ds : List Directive) (p : ℕ) (d : Directive) (current : Phase) (held sum : ℕ)
    → slice_get ds p ≡ Some d
    → held + still_stored ended ds p current ≤ sum → held + still_stored ended ds (p + 1) phase.Skipping ≤ sum
size_passed ended ds p d current held sum at fits = grind (
  arith,
  (room_passed ended ds p d current (still_stored ended ds p current) at (omega arith)),
)

pub size_closed : (closed text : List ℕ) → length ((closed ++ text) ++ []) ≡ length (closed ++ text)
size_closed closed text = ap length (append-nil (closed ++ text))

pub size_begun : (closed : List ℕ) (opened : Option Opened) → opened ≡ None → length (closed ++ []) ≡ length (closed ++ text_of opened)
size_begun closed opened e = ap (λ o. length (closed ++ text_of o)) (sym e)

pub size_first : (ds : List Directive) → is_some (width_sum ds) ≡ true → widths_from ds phase.Skipping ≡ unwrap_or (width_sum ds) 0
size_first ds bounded = widths_are ds (unwrap_or (width_sum ds) 0) (some_back (width_sum ds) bounded)

-- the sum is at least what is held without the text under way, and what may still be stored
pub size_dropped : (ended : Option Stop) (ds : List Directive) (p : ℕ) (d : Directive) (current : Phase) (closed text : List ℕ) (sum : ℕ)
    → slice_get ds p ≡ Some d → length (closed ++ text) + still_stored ended ds p current ≤ sum
    → length (closed ++ []) + still_stored ended ds (p + 1) phase.Skipping ≤ sum
size_dropped ended ds p d current closed text sum at fits =
    let less = size_passed ended ds p d current (length (closed ++ text)) sum at fits in
    omega (arith, less, length-append closed text, length-append closed [])

-- ---- what a store can hold

pub dropped_capacity : (kept : Kept) → capacity_of kept ≤ capacity_of (with_dropped kept)
dropped_capacity kept = omega (arith, length-append kept.closed (text_of kept.opened), length-append kept.closed [])

pub closed_capacity : (kept : Kept) → capacity_of kept ≤ capacity_of (with_closed kept)
closed_capacity kept = omega (arith, length-append (kept.closed ++ text_of kept.opened) [])
