-- Rows and the destinations of formats.
use Rattle.std.proofs.Common.{◌≡◌, inl, inr, ℕ, ◌+◌, ◌-◌, ◌≤◌, Bool, true, false, cond, not, nat_eq, List, [], ◌∷◌, length}
use Rattle.std.proofs.Common.{Option, Some, None, Result, Ok, Err, is_some, if◌then◌else◌, refl, sym, ap, subst, ◌∙◌, arith}
use Rattle.std.proofs.Math.Nat.{lt_of_not-le}
use Rattle.std.proofs.lemmas.Option.{slice_get_past}
use Rattle.std.proofs.lemmas.Bool.Decides.{nat_tests}
use Rattle.std.specs.Prelude.{IfErr, IfSome, slice_get}
use Rattle.std.specs.List.{cons_option}
use Rattle.std.specs.Option.{option_eq}
use Rattle.sf_base.specs.declared.values.Kind.{Kind}
use Rattle.sf_format.specs.declared.directive.Directive.{Directive}
use Rattle.sf_format.specs.declared.directive.Directive.TheVariants.{Space, Byte, Percent, Conv, Opens}
use Rattle.sf_format.specs.Proper.{AreKinded, destinations_of, has_optional, kind_at, may_miss, left_over, may_miss_from}
use Rattle.sf_format.specs.Slots.{AreSlots, kind_with}
use Rattle.sf_format.proofs.Outcomes.{by_test}
use Rattle.sf_format.proofs.SlotLookups.{kinds_are}
use Rattle.sf_run.specs.outcome.Ending.{Ending}
use Rattle.sf_run.specs.outcome.Status.TheVariants.{Done}
use Rattle.sf_run.specs.Stopping.{is_memory_status}
use Rattle.sf_run.specs.Limits.{RunTold}
use Rattle.sf_run.specs.Rows.{Suits, at_slot}
use Rattle.sf_run.specs.Runs.{RunReport}
use Rattle.sf_report.proofs.Filling.{done_fills, none_may}
use Rattle.sf_report.proofs.Values.{readable_at}
use Rattle.sf_run.specs.declared.feeding.StartFault.{StartFault}
use Rattle.sf_base.specs.Data.{Datum, datum_at}
use Rattle.sf_base.specs.stores.Kept.{Kept}
use Rattle.sf_run.specs.Memory.{capacity_of}
use Rattle.sf_read.specs.declared.row.ScanRowFault.{ScanRowFault}
use Rattle.sf_read.specs.declared.row.ScanRowFault.TheVariants.{LeftOver, Start}
use Rattle.sf_read.specs.source.Ahead.{Ahead, input_of}
use Rattle.sf_read.specs.source.Counts.{counted_on}
use Rattle.sf_read.specs.field.Rows.{AreGivenAs, IsGivenAs}
use Rattle.sf_read.specs.RowScans.{Answers, HasShape, RowScan, TextAnswers, is_run}
use Rattle.sf_read.specs.Made.{Made}
use Rattle.sf_read.specs.Scan.{Scan, is_fault}
use Rattle.sf_read.specs.Shapes.{IsDifference, IsKindsAt, IsMissing}
use Rattle.sf_read.specs.declared.shape.ShapeFault.{ShapeFault}
use Rattle.sf_read.specs.declared.shape.ShapeFault.TheVariants.{Count, Kinds, Missing}

-- ---- shapes

none_is : {A : Type 0} (o : Option A) → is_some o ≡ false → o ≡ None
none_is None h = refl
none_is (Some x) h = absurd cc

not_zero : (slot : ℕ) → nat_eq slot 0 ≡ false → 1 ≤ slot
not_zero slot other = grind (arith, nat_tests)

no_kind : (shape : List Kind) (slot : ℕ) → ((1 ≤ slot) × (slot ≤ length shape) → ⊥) → at_slot slot shape ≡ None
no_kind shape slot out =
    by_test (nat_eq slot 0) (λ v. cond v None (slice_get shape (slot - 1)) ≡ None) (λ same. refl)
    (λ other.
    let low = not_zero slot other in
    let past = lt_of_not-le {n = slot} {m = length shape} (λ h. out (low, h)) in
    slice_get_past shape (slot - 1) (omega (arith, low, past)))

-- a slot that may be missing has a kind
no_may_from : (slot k : ℕ) (ds : List Directive) → is_some (kind_at slot ds) ≡ false → may_miss_from slot k ds ≡ false
no_may_from slot k [] unkinded = refl
no_may_from slot k (Space ∷ ds) unkinded = no_may_from slot (left_over Space k) ds unkinded
no_may_from slot k (Byte b ∷ ds) unkinded = no_may_from slot (left_over (Byte b) k) ds unkinded
no_may_from slot k (Percent ∷ ds) unkinded = no_may_from slot (left_over Percent k) ds unkinded
no_may_from slot k (Opens o ∷ ds) unkinded = no_may_from slot (left_over (Opens o) k) ds unkinded
no_may_from slot k (Conv c ∷ ds) unkinded = by c.slot refl (no_may_from slot (left_over (Conv c) k) ds)
  where
    -- the kind of the slot, by that of the conversion
    kinds : (o : Option ℕ) → c.slot ≡ o → is_some (kind_with slot (cons_option
        (elim o [ None ↦ None | Some n ↦ Some (n, c.kind) ]) (destinations_of ds))) ≡ false
    kinds o own = subst (λ (e : Option ℕ). is_some (kind_with slot (cons_option
        (elim e [ None ↦ None | Some n ↦ Some (n, c.kind) ]) (destinations_of ds))) ≡ false) own unkinded

    own_kind : (n : ℕ) → c.slot ≡ Some n → nat_eq n slot ≡ true → ⊥
    own_kind n own e = let h = kinds (Some n) own in
        let some : is_some (kind_with slot ((n, c.kind) ∷ destinations_of ds)) ≡ true = rw e refl in absurd cc

    later : (n : ℕ) → c.slot ≡ Some n → nat_eq n slot ≡ false → is_some (kind_at slot ds) ≡ false
    later n own e = let h = kinds (Some n) own in
        let same : kind_with slot ((n, c.kind) ∷ destinations_of ds) ≡ kind_at slot ds = rw e refl in ap is_some (sym same) ∙ h

    by : (o : Option ℕ) → c.slot ≡ o → (is_some (kind_at slot ds) ≡ false → may_miss_from slot (left_over (Conv c) k) ds ≡ false)
        → may_miss_from slot k (Conv c ∷ ds) ≡ false
    by None own rest = rw own (rest (kinds None own))
    by (Some n) own rest =
        by_test (nat_eq n slot) (λ v. nat_eq n slot ≡ v → may_miss_from slot k (Conv c ∷ ds) ≡ false)
        (λ same e. absurd (own_kind n own e)) (λ other e. rw (own, e) (rest (later n own e))) refl

no_may : (slot : ℕ) (ds : List Directive) → is_some (kind_at slot ds) ≡ false → may_miss slot ds ≡ false
no_may slot ds unkinded = no_may_from slot 0 ds unkinded

-- the kinds that were compared slot by slot are those of each slot
pub has_kinds : (shape : List Kind) (ds : List Directive) → AreSlots (destinations_of ds)
    → length shape ≡ length (destinations_of ds)
    → ((slot : ℕ) → 1 ≤ slot → slot ≤ length (destinations_of ds) → at_slot slot shape ≡ kind_at slot ds)
    → (slot : ℕ) → at_slot slot shape ≡ kind_at slot ds
has_kinds shape ds slots same each slot =
    let known = kinds_are slot (destinations_of ds) slots in
    by_test (is_some (kind_at slot ds)) (λ v. at_slot slot shape ≡ kind_at slot ds)
    (λ some. each slot (known.0 some).0 (known.0 some).1)
    (λ none. no_kind shape slot (λ h. let some = known.1 (h.0, omega (arith, same, h.1)) in absurd cc)
    ∙ sym (none_is (kind_at slot ds) none))

-- what was compared slot by slot
pub has_shape : (shape : List Kind) (optional : ℕ → Bool) (ds : List Directive) → AreSlots (destinations_of ds)
    → length shape ≡ length (destinations_of ds)
    → ((slot : ℕ) → 1 ≤ slot → slot ≤ length (destinations_of ds) → at_slot slot shape ≡ kind_at slot ds)
    → ((slot : ℕ) → may_miss slot ds ≡ true → optional slot ≡ true) → HasShape shape optional ds
has_shape shape optional ds slots same each missing =
    record { count = same; each = has_kinds shape ds slots same each; missing = missing }

-- no other slots may be missing than those of the destinations
pub takes_each : (optional : ℕ → Bool) (ds : List Directive) → AreSlots (destinations_of ds)
    → ((slot : ℕ) → 1 ≤ slot → slot ≤ length (destinations_of ds) → may_miss slot ds ≡ true → optional slot ≡ true)
    → (slot : ℕ) → may_miss slot ds ≡ true → optional slot ≡ true
takes_each optional ds slots each slot may = by_test (is_some (kind_at slot ds)) (λ v. optional slot ≡ true)
    (λ some. let known = (kinds_are slot (destinations_of ds) slots).0 some in each slot known.0 known.1 may)
    (λ none. let never = no_may slot ds none in absurd cc)

-- where none may be, any row takes those that may
pub takes_none : (optional : ℕ → Bool) (ds : List Directive) → has_optional ds ≡ false
    → (slot : ℕ) → may_miss slot ds ≡ true → optional slot ≡ true
takes_none optional ds none slot may = let never = none_may slot ds none in absurd cc

same_number : (a b : ℕ) → nat_eq a b ≡ true → a ≡ b
same_number a b same = grind (arith, nat_tests)

lower : (slot n : ℕ) → nat_eq slot (n + 1) ≡ false → slot ≤ n + 1 → slot ≤ n
lower slot n other high = grind (arith, nat_tests)

-- what holds of the slots so far, and of the next one
pub one_more_slot : (P : ℕ → Type 0) (n : ℕ) → ((slot : ℕ) → 1 ≤ slot → slot ≤ n → P slot) → P (n + 1)
    → (slot : ℕ) → 1 ≤ slot → slot ≤ n + 1 → P slot
one_more_slot P n each last slot low high =
    by_test (nat_eq slot (n + 1)) (λ v. P slot) (λ same. subst P (sym (same_number slot (n + 1) same)) last)
    (λ other. each slot low (lower slot n other high))

-- the answers of the test whether two options differ
pub same_option : {A : Type 0} (eq : A → A → Bool) → ((a b : A) → eq a b ≡ true → a ≡ b) → (a b : Option A) {differ : Bool}
    → differ ≡ false → differ ≡ not (option_eq eq a b) → a ≡ b
same_option eq same None None test is = refl
same_option eq same None (Some b) test is = absurd cc
same_option eq same (Some a) None test is = absurd cc
same_option eq same (Some a) (Some b) test is = ap Some (same a b (not_false (eq a b) (sym is ∙ test)))
  where
    not_false : (v : Bool) → not v ≡ false → v ≡ true
    not_false true e = refl
    not_false false e = absurd cc

-- options that differ have other values
pub other_values : {A : Type 0} (eq : A → A → Bool) → ((a b : A) → eq a b ≡ false → a ≡ b → ⊥) → (o p : Option A) (a b : A) {differ : Bool}
    → differ ≡ true → differ ≡ not (option_eq eq o p) → o ≡ Some a → p ≡ Some b → a ≡ b → ⊥
other_values eq other o p a b test is o_is p_is same =
    other a b (not_true (eq a b) (subst (λ y. not (option_eq eq (Some a) y) ≡ true) p_is
    (subst (λ x. not (option_eq eq x p) ≡ true) o_is (sym is ∙ test)))) same
  where
    not_true : (v : Bool) → not v ≡ true → v ≡ false
    not_true true e = absurd cc
    not_true false e = refl

-- the first slot whose kinds differ
pub first_kinds : (kinds : List Kind) (optional : ℕ → Bool) (ds : List Directive) (before : ℕ) (fault : ShapeFault)
    → length kinds ≡ length (destinations_of ds)
    → ((slot : ℕ) → 1 ≤ slot → slot ≤ before → at_slot slot kinds ≡ kind_at slot ds)
    → ((row format : Kind) → at_slot (before + 1) kinds ≡ Some row → kind_at (before + 1) ds ≡ Some format → row ≡ format → ⊥)
    → IsKindsAt kinds ds (before + 1) fault → IsDifference kinds optional ds fault
first_kinds kinds optional ds before (Count format row) same each other is = absurd is
first_kinds kinds optional ds before (Kinds slot format row) same each other (at, given, taken) = (
  same,
  (refl, subst (λ n. kind_at n ds ≡ Some format) (sym at) given, subst (λ n. at_slot n kinds ≡ Some row) (sym at) taken),
  other row format taken given,
  λ n low high. each n low (omega (arith, at, high)),
)
first_kinds kinds optional ds before (Missing slot) same each other is = absurd is

-- the first slot without a value
pub first_missing : (kinds : List Kind) (optional : ℕ → Bool) (ds : List Directive) (fault : ShapeFault)
    → length kinds ≡ length (destinations_of ds) → ((slot : ℕ) → at_slot slot kinds ≡ kind_at slot ds)
    → IsMissing optional ds fault → IsDifference kinds optional ds fault
first_missing kinds optional ds (Count format row) same each is = absurd is
first_missing kinds optional ds (Kinds slot format row) same each is = absurd is
first_missing kinds optional ds (Missing slot) same each is = (same, each, is)

pub all_missing : {A : Type 0} (kinds : List Kind) (optional : ℕ → Bool) (ds : List Directive) (r : Result A ShapeFault)
    → length kinds ≡ length (destinations_of ds) → ((slot : ℕ) → at_slot slot kinds ≡ kind_at slot ds)
    → IfErr r (IsMissing optional ds) → IfErr r (IsDifference kinds optional ds)
all_missing kinds optional ds (Ok x) same each is = tt
all_missing kinds optional ds (Err fault) same each is = first_missing kinds optional ds fault same each is

-- a slot of the row's kind was given something of it; or nothing, where it may be missing in the format, and so in the row
given_as : (may : Bool) (kind : Option Kind) (ds : List Directive) (slot : ℕ) (v : Option Datum) → kind ≡ kind_at slot ds
    → (may_miss slot ds ≡ true → may ≡ true) → Suits ds slot v → IsGivenAs may kind v
given_as false kind ds slot v same missing (inl is) = is ∙ sym same
given_as false kind ds slot v same missing (inr (may, none)) = let never = missing may in absurd cc
given_as true kind ds slot None same missing suits = tt
given_as true kind ds slot (Some d) same missing (inl is) = is ∙ sym same
given_as true kind ds slot (Some d) same missing (inr (may, none)) = absurd cc

-- where the shapes are the same, these are the values that a row is made of
pub given : (shape : List Kind) (optional : ℕ → Bool) (ds : List Directive) (m : ℕ) (x : List ℕ) (ending : Ending) (report : RunReport)
    → AreKinded ds → AreSlots (destinations_of ds) → HasShape shape optional ds
    → RunTold ds m x ending report → report.status ≡ Done → AreGivenAs shape optional report.values
given shape optional ds m x ending report kinded slots same told done = λ slot. (
  given_as (optional slot) (at_slot slot shape) ds slot (datum_at slot report.values) (same.each slot) (same.missing slot)
      (done_fills ds m x ending report kinded slots told done slot),
  readable_at ds m x ending report told done slot,
)

-- a run that was made isn't answered with a fault of its start
pub no_start : {T : Type 0} (kinds : List Kind) (given_by : T → List (Option Datum)) (report : RunReport) (r : Result T ScanRowFault)
    → Answers kinds given_by report r
    → (fault : StartFault) → r ≡ Err (Start fault) → ⊥
no_start kinds given_by report r answers fault e = subst (Answers kinds given_by report) e answers

-- nor is it where there was one
pub run_no_start : {T : Type 0} (r : Result T ScanRowFault) → is_run r ≡ true → (fault : StartFault) → r ≡ Err (Start fault) → ⊥
run_no_start r is fault e = let h = subst (λ s. is_run s ≡ true) e is in absurd cc

-- what is answered of a text by whether some of it is left that had to be used
pub answers_whole : {T : Type 0} (kinds : List Kind) (given_by : T → List (Option Datum)) (report : RunReport) (left : Bool)
    (result : Result T ScanRowFault) → left ≡ false → Answers kinds given_by report result → TextAnswers kinds given_by report left result
answers_whole kinds given_by report true result none answers = absurd cc
answers_whole kinds given_by report false result none answers = answers

pub answers_left : {T : Type 0} (kinds : List Kind) (given_by : T → List (Option Datum)) (report : RunReport) (left : Bool)
    (result : Result T ScanRowFault) → left ≡ true → result ≡ Err (LeftOver report.used) → TextAnswers kinds given_by report left result
answers_left kinds given_by report true result some is = is
answers_left kinds given_by report false result some is = absurd cc

-- a record that was held whole, consumed without a read
pub row_scanned : {S T : Type 0} (to_come : S → Option (List ℕ)) (reads failures : S → ℕ) (N : ℕ) (kinds : List Kind)
    (given_by : T → List (Option Datum)) (ds : List Directive) (m : ℕ) (old new : Ahead S) (report : RunReport)
    (result : Result T ScanRowFault)
    → report.status ≡ Done → report.met ≡ None → new.source ≡ old.source → Answers kinds given_by report result
    → ((t : List ℕ) → input_of to_come old ≡ Some t → Scan to_come ds m t old new report)
    → ((x : List ℕ) × (ending : Ending) × RunTold ds m x ending report) → Made to_come reads N ds m old new report
    → RowScan to_come reads failures N kinds given_by ds m old new result
row_scanned to_come reads failures N kinds given_by ds m old new report result done met same answers scan told made = record {
  report = report;
  answers = answers;
  scan = scan;
  told = told;
  bounded = λ sum. ap is_memory_status done;
  failed = subst (λ (o : Option Ending).
      failures new.source ≡ (if is_fault o then counted_on (failures old.source) else failures old.source))
      (sym met) (ap failures same);
  end = λ e. (let h = sym met ∙ e in absurd cc);
  count = (let e = ap reads same in omega (arith, e));
  waited = (made.bytes, made.used, made.reads_are);
  made = made;
}

-- a store that has come to more room has enough
pub enough_still : (P : Type 0) (o : Option Kept) (old new : Kept) (n : ℕ) → o ≡ Some new → IfSome o (λ s. n ≤ capacity_of s → P → ⊥)
    → capacity_of old ≤ capacity_of new → n ≤ capacity_of old → P → ⊥
enough_still P None old new n is enough more room = absurd cc
enough_still P (Some s) old new n is enough more room =
    let same : s ≡ new = (let e = is in cc) in
    enough (let e = ap capacity_of same in omega (arith, e, more, room))
