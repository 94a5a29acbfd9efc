-- Texts that are written in place.
use Rattle.std.proofs.Common.{◌≡◌, ℕ, ◌+◌, ◌<◌, ◌≤◌, List, [], ◌∷◌, ◌++◌, length, take, subst, refl, sym, ap, ◌∙◌, arith, append_assoc}
use Rattle.std.proofs.Common.{length-append, Bool, true, cond, not, is_none, fold, Option, Some, None, Ok, Err, IfSome}
use Rattle.std.proofs.lemmas.Bool.{eq-eqb, le-leb}
use Rattle.std.proofs.lemmas.List.{length-take-le, take-take, take_at, take_more}
use Rattle.std.proofs.Math.Seq.{take-append_seam}
use Rattle.std.specs.Prelude.{get_or}
use Rattle.std.specs.List.{AllByRecursion, flat_map}
use Rattle.std.specs.Io.KnownBytes.{Appends}
use Rattle.sf_base.specs.Data.{Datum}
use Rattle.sf_format.specs.declared.unit.PrintConv.{PrintConv}
use Rattle.sf_format.specs.declared.unit.Unit.{Unit as PrintUnit}
use Rattle.sf_format.specs.declared.unit.Unit.TheVariants as unit
use Rattle.sf_format.specs.Units.{values_of}
use Rattle.sf_print.specs.declared.fault.PrintFault.{PrintFault}
use Rattle.sf_print.specs.declared.fault.PrintFault.TheVariants.{TooLong, WrongCount}
use Rattle.sf_print.specs.InPlace.{AreSuited, Suits, printed_by, text_by}
use Rattle.sf_print.specs.Printed.{fault_or_none, length_or_fault, lower, lowest_fault, measured, most_bytes, printed, unit_fault}
use Rattle.sf_print.specs.Printed.{unit_text, value_at, value_fault}
use Rattle.sf_print.proofs.Appending.{Appends-same}
use Rattle.sf_print.proofs.TextLemmas.Joined.{flat_map_more}

-- what was written, by another name
pub written_as : (r : Option ℕ) (buf new text same : List ℕ) (at : ℕ) → text ≡ same
    → IfSome r (λ end. take end new ≡ take at buf ++ text) → IfSome r (λ end. take end new ≡ take at buf ++ same)
written_as r buf new text same at e written = subst (λ (t : List ℕ). IfSome r (λ end. take end new ≡ take at buf ++ t)) e written

-- where what was written ends
pub ends_at : (buf new text : List ℕ) (at end : ℕ) → at ≤ length buf → end ≤ length new → take end new ≡ take at buf ++ text
    → end ≡ at + length text
ends_at buf new text at end start within written = omega (
  arith,
  ap length written,
  length-append (take at buf) text,
  length-take-le at buf start,
  length-take-le end new within,
)

-- what stood before it stays
pub front_kept : (buf new text : List ℕ) (at end : ℕ) → at ≤ length buf → end ≤ length new → take end new ≡ take at buf ++ text
    → take at new ≡ take at buf
front_kept buf new text at end start within written =
    sym (take-take at end new (omega (arith, ends_at buf new text at end start within written))) ∙ ap (take at) written
    ∙ take_at (take at buf) text at (length-take-le at buf start)

pub some_front_kept : (r : Option ℕ) (buf new text : List ℕ) (at : ℕ) → at ≤ length buf → IfSome r (λ end. end ≤ length new)
    → IfSome r (λ end. take end new ≡ take at buf ++ text) → IfSome r (λ end. take at new ≡ take at buf)
some_front_kept None buf new text at start within written = tt
some_front_kept (Some end) buf new text at start within written = front_kept buf new text at end start within written

-- one part more of those that are written one after the other
pub more_written : {X : Type 0} (f : X → List ℕ) (xs : List X) (i : ℕ) (d : X) → i < length xs → (begun before new : List ℕ)
    → before ≡ begun ++ flat_map f (take i xs) → new ≡ before ++ f (get_or xs i d) → new ≡ begun ++ flat_map f (take (i + 1) xs)
more_written f xs i d h begun before new was is =
    is ∙ ap (λ (t : List ℕ). t ++ f (get_or xs i d)) was ∙ append_assoc begun (flat_map f (take i xs)) (f (get_or xs i d))
    ∙ ap (λ (t : List ℕ). begun ++ t) (flat_map_more f xs i d h)

-- a sink that failed took a front of the text
pub front_taken : (a b : Option (List ℕ)) (text front rest : List ℕ) (n : ℕ) → text ≡ front ++ rest → Appends a b front
    → n ≡ 0 + length front → 0 < length rest → Appends a b (take n text) × (n < length text)
front_taken a b text front rest n is known count more =
    let long : n ≡ length front = omega arith in
    let same : take n text ≡ front = (λ i. take (long i) (is i)) ∙ take-append_seam front rest in
    (Appends-same a b front (take n text) (sym same) known, omega (arith, ap length is, length-append front rest))

-- a value that suits
none_is : (o : Option PrintFault) → is_none o ≡ true → o ≡ None
none_is None e = refl
none_is (Some f) e = absurd cc

pub suits_by : (r : Option ℕ) (c : PrintConv) (found : Option Datum) (value : Datum) → found ≡ Some value
    → is_none (value_fault c value) ≡ true → IfSome r (λ end. Suits c found)
suits_by None c found value is none = tt
suits_by (Some end) c found value is none = subst (Suits c) (sym is) (none_is (value_fault c value) none)

-- one more of those that have something
pub all_more : {A : Type 0} (P : A → Type 0) (xs : List A) (i : ℕ) (d : A) → i < length xs → AllByRecursion P (take i xs)
    → P (get_or xs i d) → AllByRecursion P (take (i + 1) xs)
all_more {A = A} P xs i d h all this = subst (AllByRecursion P) (sym (take_more xs i d h)) (joined (take i xs) all)
  where
    joined : (ys : List A) → AllByRecursion P ys → AllByRecursion P (ys ++ get_or xs i d ∷ [])
    joined [] all = (this, tt)
    joined (y ∷ ys) all = (all.0, joined ys all.1)

-- where no unit has a fault there is none that is the lowest
pub none_lowest : (fault : PrintUnit → Option PrintFault) (units : List PrintUnit) → AllByRecursion (λ u. fault u ≡ None) units
    → fold (λ g u. lower g (fault u)) None units ≡ None
none_lowest fault [] none = refl
none_lowest fault (u ∷ units) none =
    ap (λ (f : Option PrintFault). fold (λ g v. lower g (fault v)) f units) none.0 ∙ none_lowest fault units none.1

-- the values of slots: each unit prints what it prints of them, and none is at fault
unit_by : (values : List Datum) (u : PrintUnit) → text_by (λ c. value_at values c.slot) u ≡ unit_text values u
unit_by values (unit.Byte b) = refl
unit_by values (unit.Conv c) = refl

pub row_by : (values : List Datum) (units : List PrintUnit) → printed_by (λ c. value_at values c.slot) units ≡ printed units values
row_by values [] = refl
row_by values (u ∷ units) =
    ap (λ (t : List ℕ). t ++ printed_by (λ c. value_at values c.slot) units) (unit_by values u)
    ∙ ap (λ (t : List ℕ). unit_text values u ++ t) (row_by values units)

row_suits : (values : List Datum) (units : List PrintUnit) → AreSuited (λ c. value_at values c.slot) units
    → AllByRecursion (λ u. unit_fault values u ≡ None) units
row_suits values [] all = tt
row_suits values (unit.Byte b ∷ units) all = (refl, row_suits values units all.1)
row_suits values (unit.Conv c ∷ units) all = (by (value_at values c.slot) all.0, row_suits values units all.1)
  where
    by : (found : Option Datum) → Suits c found → fault_or_none c found ≡ None
    by None suits = absurd suits
    by (Some value) suits = suits

-- so they are printed, where they are as many as are due
pub row_measured : (values : List Datum) (units : List PrintUnit) (len : ℕ) → length values ≡ length (values_of units)
    → AreSuited (λ c. value_at values c.slot) units → len ≡ length (printed units values) → len ≤ most_bytes
    → measured units values ≡ Ok len
row_measured values units len count suited is short =
    ap (λ (b : Bool). cond (not b) (Err WrongCount) (length_or_fault (lowest_fault units values) (length (printed units values))))
    (eq-eqb (length values) (length (values_of units)) count)
    ∙ ap (λ (f : Option PrintFault). length_or_fault f (length (printed units values)))
    (none_lowest (unit_fault values) units (row_suits values units suited))
    ∙ ap (length_or_fault None) (sym is)
    ∙ ap (λ (b : Bool). cond b (Ok len) (Err TooLong)) (le-leb len 2147483647 short)

pub row_written : (r : Option ℕ) (values : List Datum) (units : List PrintUnit) (new : List ℕ)
    → IfSome r (λ end. take end new ≡ printed_by (λ c. value_at values c.slot) units)
    → IfSome r (λ end. take end new ≡ printed units values)
row_written r values units new = subst (λ (t : List ℕ). IfSome r (λ end. take end new ≡ t)) (row_by values units)

pub row_told : (r : Option ℕ) (values : List Datum) (units : List PrintUnit) (new : List ℕ) → length values ≡ length (values_of units)
    → length new ≤ 2147483647 → IfSome r (λ end. end ≤ length new)
    → IfSome r (λ end. take end new ≡ printed_by (λ c. value_at values c.slot) units)
    → IfSome r (λ end. AreSuited (λ c. value_at values c.slot) units) → IfSome r (λ end. measured units values ≡ Ok end)
row_told None values units new count short within written suited = tt
row_told (Some end) values units new count short within written suited =
    row_measured values units end count suited (sym (length-take-le end new within) ∙ ap length (written ∙ row_by values units))
    (omega (arith, short, within))
