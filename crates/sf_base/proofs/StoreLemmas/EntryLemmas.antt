-- Facts about the entries of a store.
use Rattle.std.proofs.Common.{◌≡◌, ◌<◌, ◌≤◌, ◌+◌, ◌||◌, ℕ, zero, suc, Bool, true, false, cond, List, [], ◌∷◌, ◌++◌, length, map, take, drop}
use Rattle.std.proofs.Common.{◌-◌, length-append, length-drop, IsSome}
use Rattle.std.proofs.Common.{slice_range, get_or, Option, Some, None, nat_eq, refl, ap, sym, ◌∙◌, inl, inr, arith}
use Rattle.std.specs.List.{All, AllByRecursion, IsDistinct, list_any, find}
use Rattle.std.specs.Option.{option_map}
use Rattle.std.specs.Cmp.{nat_eq_equiv}
use Rattle.std.proofs.lemmas.Bool.{or_cases, eqb-true, eqb-false, eq-eqb, ne_eqb}
use Rattle.std.proofs.lemmas.List.{map-append, length-map, take-take, take-append-drop, drop-take, length-take-le}
use Rattle.std.proofs.lemmas.List.Folds.{list_any-append}
use Rattle.std.proofs.lemmas.Slice.{between_is, between_to_end}
use Rattle.std.proofs.Math.Seq.{take-length, take-append-add, take-append_seam, drop-append_seam}
use Rattle.std.proofs.lemmas.List.Elements.{All-nil, All-head, All-tail, All-push, All-weaker}
use Rattle.std.proofs.lemmas.Map.Keys.{IsDistinct-push}
use Rattle.std.proofs.lemmas.Map.Steps.{length-le_from_distinct_below}
use Rattle.sf_base.specs.Data.{Bytes, Assigned, datum_at}
use Rattle.sf_base.specs.stores.Kept.{assigned, is_opened, text_of, with_closed, with_text, with_cut}
use Rattle.sf_base.specs.stores.Entries.{datum_in, assigned_in, IsWithin, slots_of, opened_at, kept_of, IsSlot, IsAbsent, IsUnderWay}
use Rattle.sf_base.specs.stores.Entries.{IsSound}
use Rattle.sf_base.specs.declared.stores.entries.Cell.{Cell}
use Rattle.sf_base.specs.declared.stores.entries.Cell.TheVariants as cell
use Rattle.sf_base.specs.declared.stores.entries.Entry.{Entry}

-- what was not found is not among the rest
absent_step : (b : Bool) (a : Assigned) (rest : Option Assigned) (any : Bool) → (option_map (λ x. x.datum) rest ≡ None → any ≡ false)
    → option_map (λ x. x.datum) (cond b (Some a) rest) ≡ None → (b || any) ≡ false
absent_step true a rest any f h = cc
absent_step false a rest any f h = f h

-- a slot with no value has no entry
pub IsAbsent-from_datum : (closed : List ℕ) (slot : ℕ) (es : List Entry) → datum_at slot (map (assigned_in closed) es) ≡ None
    → IsAbsent slot (slots_of es)
IsAbsent-from_datum closed slot [] h = refl
IsAbsent-from_datum closed slot (e ∷ es) h = absent_step (nat_eq slot e.slot) (assigned_in closed e)
    (find (λ a. nat_eq slot a.slot) (map (assigned_in closed) es)) (list_any (nat_eq slot) (slots_of es))
    (IsAbsent-from_datum closed slot es) h

-- numbers that are all below n
below : (n : ℕ) (xs : List ℕ) → All (λ x. x < n) xs → (q : ℕ) → list_any (nat_eq q) xs ≡ true → q < n
below n [] all q h = cc
below n (x ∷ xs) all q h =
    elim (or_cases (nat_eq q x) (list_any (nat_eq q) xs) h) [
      | inl e ↦ rw (eqb-true q x e) (All-head (λ x. x < n) x xs all)
      | inr e ↦ below n xs (All-tail (λ x. x < n) x xs all) q e
    ]

no_zero : (n : ℕ) (xs : List ℕ) → All (IsSlot n) xs → list_any (nat_eq 0) xs ≡ false
no_zero n [] all = refl
no_zero n (x ∷ xs) all =
    let first : IsSlot n x = All-head (IsSlot n) x xs all in
    let differs : nat_eq 0 x ≡ false = ne_eqb 0 x (λ e. omega (arith, first.0)) in
    rw differs (no_zero n xs (All-tail (IsSlot n) x xs all))

-- as long as a slot has no entry there are fewer entries than slots
pub length-lt-slots : (n : ℕ) (xs : List ℕ) (slot : ℕ) → IsDistinct nat_eq xs → All (IsSlot n) xs → IsSlot n slot → IsAbsent slot xs
    → length xs < n
length-lt-slots n xs slot apart in_range is_slot absent =
    let more = xs ++ slot ∷ [] in
    let more_in : All (IsSlot n) more = All-push (IsSlot n) xs slot in_range is_slot in
    let more_apart : IsDistinct nat_eq more = IsDistinct-push nat_eq_equiv xs slot apart absent in
    let all = more ++ 0 ∷ [] in
    let all_apart : IsDistinct nat_eq all = IsDistinct-push nat_eq_equiv more 0 more_apart (no_zero n more more_in) in
    let all_below : All (λ x. x < n + 1) all =
    All-push (λ x. x < n + 1) more 0 (All-weaker (IsSlot n) (λ x. x < n + 1) (λ x s. omega (arith, s.1)) more more_in) (omega arith) in
    let few : length all ≤ n + 1 = length-le_from_distinct_below all (n + 1) all_apart (below (n + 1) all all_below) in
    omega (arith, few, length-append more (0 ∷ []), length-append xs (slot ∷ []))

IsWithin-le : (m n : ℕ) → m ≤ n → (x : Cell) → IsWithin m x → IsWithin n x
IsWithin-le m n le (cell.Number number) h = h
IsWithin-le m n le (cell.Text from to) h = (h.0, omega (arith, h.1))
IsWithin-le m n le (cell.Real r) h = h

-- one entry more, which may be a text that ends where the closed ones now do
pub IsSound-push : (slots : ℕ) (es : List Entry) (closed closed' len : ℕ) (opened opened' : Option ℕ) (e : Entry)
    → IsSound slots es closed len opened → closed ≤ closed' → closed' ≤ len → IsSlot slots e.slot → IsAbsent e.slot (slots_of es)
    → IsWithin closed' e.cell → IsUnderWay slots (slots_of es ++ e.slot ∷ []) closed' len opened'
    → IsSound slots (es ++ e ∷ []) closed' len opened'
IsSound-push slots es closed closed' len opened opened' e sound rises held is_slot absent within under_way =
    let slots_more : slots_of (es ++ e ∷ []) ≡ slots_of es ++ e.slot ∷ [] = map-append (λ (x : Entry). x.slot) es (e ∷ []) in
    let wider : All (λ (x : Entry). IsWithin closed' x.cell) es =
    All-weaker (λ (x : Entry). IsWithin closed x.cell) (λ (x : Entry). IsWithin closed' x.cell)
    (λ x w. IsWithin-le closed closed' rises x.cell w) es sound.within in
    record {
      apart = rw slots_more (IsDistinct-push nat_eq_equiv (slots_of es) e.slot sound.apart absent);
      in_range = rw slots_more (All-push (IsSlot slots) (slots_of es) e.slot sound.in_range is_slot);
      within = All-push (λ (x : Entry). IsWithin closed' x.cell) es e wider within;
      closed_held = held;
      under_way = rw slots_more under_way;
    }

-- a text under way goes on beside an entry for another slot
pub IsUnderWay-push : (slots : ℕ) (taken : List ℕ) (closed len : ℕ) (opened : Option ℕ) (text : List ℕ) (slot : ℕ)
    → IsUnderWay slots taken closed len opened → is_opened slot (opened_at text opened) ≡ false
    → IsUnderWay slots (taken ++ slot ∷ []) closed len opened
IsUnderWay-push slots taken closed len None text slot h other = h
IsUnderWay-push slots taken closed len (Some s) text slot h other =
    let differs : nat_eq s slot ≡ false = ne_eqb s slot (λ e. eqb-false slot s other (sym e)) in
    (h.0, rw (list_any-append (nat_eq s) taken (slot ∷ []), h.1, differs) refl)

-- where there is no text under way, all bytes are closed
pub closed-all : (slots : ℕ) (taken : List ℕ) (closed len : ℕ) (opened : Option ℕ) (text : List ℕ)
    → IsUnderWay slots taken closed len opened → opened_at text opened ≡ None → closed ≡ len
closed-all slots taken closed len None text h none = h
closed-all slots taken closed len (Some s) text h none = cc

-- a text within the first n bytes is the same in all of them
datum_in-take : (all : List ℕ) (n : ℕ) (cell : Cell) → IsWithin n cell → datum_in all cell ≡ datum_in (take n all) cell
datum_in-take all n (cell.Number number) h = refl
datum_in-take all n (cell.Real r) h = refl
datum_in-take all n (cell.Text from to) h =
    ap Bytes (between_is all from to ∙ (ap (drop from) (sym (take-take to n all h.1)) ∙ sym (between_is (take n all) from to)))

pub assigned_in-take : (all : List ℕ) (n : ℕ) (es : List Entry) → All (λ (e : Entry). IsWithin n e.cell) es
    → map (assigned_in all) es ≡ map (assigned_in (take n all)) es
assigned_in-take all n [] within = refl
assigned_in-take all n (e ∷ es) within =
    let first = datum_in-take all n e.cell (All-head (λ (x : Entry). IsWithin n x.cell) e es within) in
    let rest = assigned_in-take all n es (All-tail (λ (x : Entry). IsWithin n x.cell) e es within) in
    cc

-- what is kept after the text from n on is closed
pub kept_of-close : (es : List Entry) (all : List ℕ) (n len slot room : ℕ) → len ≡ length all → All (λ (e : Entry). IsWithin n e.cell) es
    → kept_of (es ++ record { slot = slot; cell = cell.Text n len } ∷ []) all len None room
    ≡ with_closed (kept_of es all n (Some slot) room)
kept_of-close es all n len slot room is_len within =
    let e : Entry = record { slot = slot; cell = cell.Text n len } in
    let whole : take len all ≡ all = rw is_len (take-length all) in
    let text : slice_range all n len ≡ drop n all = between_to_end all n len (omega (arith, is_len)) in
    let entries : map (assigned_in all) (es ++ e ∷ []) ≡ map (assigned_in all) es ++ assigned slot (Bytes (slice_range all n len)) ∷ [] =
    map-append (assigned_in all) es (e ∷ []) in
    let before = assigned_in-take all n es within in
    let values : map (assigned_in (take len all)) (es ++ e ∷ []) ≡ map (assigned_in (take n all)) es ++ assigned slot
    (Bytes (drop n all)) ∷ [] =
    rw (whole, entries, before, text) refl in
    let closed : take len all ≡ take n all ++ drop n all = whole ∙ sym (take-append-drop n all) in
    cc

none_opened : (text : List ℕ) (opened : Option ℕ) → opened_at text opened ≡ None → opened ≡ None
none_opened text None h = refl
none_opened text (Some slot) h = cc

-- what is kept after a text is put after the closed ones, where none is opened
kept_of-put_none : (es : List Entry) (all text : List ℕ) (n len slot room room' : ℕ) → n ≡ length all → len ≡ length (all ++ text)
    → All (λ (e : Entry). IsWithin n e.cell) es
    → kept_of (es ++ record { slot = slot; cell = cell.Text n len } ∷ []) (all ++ text) len None room'
    ≡ with_text slot text room' (kept_of es all n None room)
kept_of-put_none es all text n len slot room room' is_n is_len within =
    let front : take n (all ++ text) ≡ all = rw is_n (take-append_seam all text) in
    let rest : drop n (all ++ text) ≡ text = rw is_n (drop-append_seam all text) in
    let whole : take n all ≡ all = rw is_n (take-length all) in
    rw (kept_of-close es (all ++ text) n len slot room' is_len within, front, rest, whole) refl

pub kept_of-put : (es : List Entry) (all text : List ℕ) (n len slot room room' : ℕ) (opened : Option ℕ)
    → opened_at (drop n all) opened ≡ None → n ≡ length all → len ≡ length (all ++ text) → All (λ (e : Entry). IsWithin n e.cell) es
    → kept_of (es ++ record { slot = slot; cell = cell.Text n len } ∷ []) (all ++ text) len opened room'
    ≡ with_text slot text room' (kept_of es all n opened room)
kept_of-put es all text n len slot room room' opened none is_n is_len within =
    rw (none_opened (drop n all) opened none) (kept_of-put_none es all text n len slot room room' is_n is_len within)

-- what is kept after all of the text from n on but its first count bytes is taken away
pub kept_of-cut : (es : List Entry) (all : List ℕ) (n count most : ℕ) (opened : Option ℕ) → n ≤ length all → length all ≤ most
    → IsSome (opened_at (drop n all) opened) → count ≤ length (text_of (opened_at (drop n all) opened))
    → kept_of es (take (n + count) all) n opened (most - length (take (n + count) all))
    ≡ with_cut count (kept_of es all n opened (most - length all))
kept_of-cut es all n count most None held fits some within = cc
kept_of-cut es all n count most (Some slot) held fits some within =
    let inside : n + count ≤ length all = omega (arith, held, within, length-drop n all) in
    let closed : take n (take (n + count) all) ≡ take n all = take-take n (n + count) all (omega arith) in
    let text : drop n (take (n + count) all) ≡ take count (drop n all) = drop-take n count all in
    let room : most - length (take (n + count) all) ≡ most - length all + (length (drop n all) - count) =
    omega (arith, inside, fits, length-take-le (n + count) all inside, length-drop n all) in
    rw (room, closed, text) refl

-- the same of the entries
pub length-lt-entries : (slots : ℕ) (es : List Entry) (closed len : ℕ) (opened : Option ℕ) (slot : ℕ) → IsSound slots es closed len opened
    → IsSlot slots slot → IsAbsent slot (slots_of es) → length es < slots
length-lt-entries slots es closed len opened slot sound is_slot absent =
    omega (arith, length-lt-slots slots (slots_of es) slot sound.apart sound.in_range is_slot absent, length-map es (λ (x : Entry). x.slot))

-- no entries
pub IsSound-none : (slots : ℕ) → IsSound slots [] 0 0 None
unfolding IsDistinct
IsSound-none slots = record {
  apart = tt;
  in_range = All-nil (IsSlot slots);
  within = All-nil (λ (x : Entry). IsWithin 0 x.cell);
  closed_held = omega arith;
  under_way = refl;
}

-- a text begins
pub IsSound-open : (slots : ℕ) (es : List Entry) (closed len : ℕ) (opened : Option ℕ) (slot : ℕ) → IsSound slots es closed len opened
    → IsSlot slots slot → IsAbsent slot (slots_of es) → IsSound slots es closed len (Some slot)
IsSound-open slots es closed len opened slot sound is_slot absent = record {
  apart = sound.apart;
  in_range = sound.in_range;
  within = sound.within;
  closed_held = sound.closed_held;
  under_way = (is_slot, absent);
}

-- the slot of an entry differs from one that differs from all
differs_at : (k slot i : ℕ) (es : List Entry) (d : Entry) → AllByRecursion (λ y. nat_eq k y ≡ false) (slots_of es) → i < length es
    → (get_or es i d).slot ≡ slot → nat_eq k slot ≡ false
differs_at k slot i [] d all below is = absurd (omega (arith, below))
differs_at k slot zero (e ∷ es) d all below is = ap (nat_eq k) (sym is) ∙ all.0
differs_at k slot (suc i) (e ∷ es) d all below is = differs_at k slot i es d all.1 (omega (arith, below)) is

-- an entry for the slot is the one that is found, as no two are for one slot
pub found_at : (closed : List ℕ) (slot i : ℕ) (es : List Entry) (d : Entry) → IsDistinct nat_eq (slots_of es) → i < length es
    → (get_or es i d).slot ≡ slot
    → Some (datum_in closed (get_or es i d).cell) ≡ datum_at slot (map (assigned_in closed) es)
unfolding IsDistinct
found_at closed slot i [] d apart below is = absurd (omega (arith, below))
found_at closed slot zero (e ∷ es) d apart below is = let same : nat_eq slot e.slot ≡ true = eq-eqb slot e.slot (sym is) in rw same refl
found_at closed slot (suc i) (e ∷ es) d apart below is =
    let differs : nat_eq e.slot slot ≡ false = differs_at e.slot slot i es d apart.0 (omega (arith, below)) is in
    let other : nat_eq slot e.slot ≡ false = ne_eqb slot e.slot (λ same. eqb-false e.slot slot differs (sym same)) in
    rw other (found_at closed slot i es d apart.1 (omega (arith, below)) is)

-- a text is put after the closed ones, where none is opened
pub IsSound-put : (slots : ℕ) (es : List Entry) (closed len len' : ℕ) (opened : Option ℕ) (text : List ℕ) (slot : ℕ)
    → IsSound slots es closed len opened → opened_at text opened ≡ None → len ≤ len' → IsSlot slots slot → IsAbsent slot (slots_of es)
    → IsSound slots (es ++ record { slot = slot; cell = cell.Text closed len' } ∷ []) len' len' opened
IsSound-put slots es closed len len' opened text slot sound none more is_slot absent =
    let held : closed ≤ len' = omega (arith, sound.closed_held, more) in
    let longer : IsSound slots es closed len' (Some slot) = record {
      apart = sound.apart;
      in_range = sound.in_range;
      within = sound.within;
      closed_held = held;
      under_way = (is_slot, absent);
    } in
    rw (none_opened text opened none)
    (IsSound-push slots es closed len' len' (Some slot) None (record { slot = slot; cell = cell.Text closed len' }) longer held
    (omega arith) is_slot absent (held, omega arith) refl)

-- of more bytes that were appended at once, the first n stay
pub front_moved : (all piece : List ℕ) (n more end : ℕ) → n ≤ more → end ≡ length all + n
    → take end (all ++ take more piece) ≡ all ++ take n piece
front_moved all piece n more end fewer is_end =
    rw (is_end, take-append-add all (take more piece) n, take-take n more piece fewer) refl
