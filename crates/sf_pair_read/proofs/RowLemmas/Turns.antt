-- Rows that are read in turn.
use Rattle.std.proofs.Common.{◌≡◌, ℕ, ◌<◌, ◌⊎◌, inl, inr, Bool, true, false, List, [], ◌∷◌, ◌++◌, Option, Some, Result, Ok, Err}
use Rattle.std.proofs.Common.{refl, sym, ap, subst, ◌∙◌, true≢false}
use Rattle.std.specs.Prelude.{IfSome, IsErrOf, IsSome}
use Rattle.std.specs.List.{AllByRecursion}
use Rattle.sf_base.specs.Data.{Datum}
use Rattle.sf_base.specs.declared.values.Kind.{Kind}
use Rattle.sf_format.specs.declared.directive.Directive.{Directive}
use Rattle.sf_run.specs.declared.feeding.StartFault.{StartFault}
use Rattle.sf_run.specs.declared.feeding.StartFault.TheVariants as start
use Rattle.sf_read.specs.declared.row.ScanRowFault.{ScanRowFault}
use Rattle.sf_read.specs.declared.row.ScanRowFault.TheVariants.{ShapeDiffers, Start, Failed, LeftOver, NoMemory}
use Rattle.sf_read.specs.source.Ahead.{Ahead}
use Rattle.sf_read.specs.RowScans.{HasShape, RowScan, difference_of, is_run}
use Rattle.sf_read.specs.Shapes.{IsDifference}
use Rattle.sf_pair_read.specs.declared.rows.fault.ReadRowsFault.{ReadRowsFault}
use Rattle.sf_pair_read.specs.rows.Reading.{IsUnshaped, RefusesNext, RowsInTurn, StopsBefore, is_end}

pub all_and_one : {T : Type 0} (P : T → Type 0) (rows : List T) (row : T) → AllByRecursion P rows → P row
    → AllByRecursion P (rows ++ row ∷ [])
all_and_one P [] row all own = (own, tt)
all_and_one P (first ∷ rows) row all own = (all.0, all_and_one P rows row all.1 own)

-- no row was read where rows haven't the slots of the format
pub unshaped_stops : {S T : Type 0} (to_come : S → Option (List ℕ)) (reads failures : S → ℕ) (N : ℕ) (kinds : List Kind)
    (optional : ℕ → Bool) (given_by : T → List (Option Datum)) (ds : List Directive) (m : ℕ) (now : Ahead S) (fault : ReadRowsFault)
    → (HasShape kinds optional ds → ⊥) → IsUnshaped kinds optional ds fault
    → StopsBefore to_come reads failures N kinds optional given_by ds m now now fault
unshaped_stops to_come reads failures N kinds optional given_by ds m now fault other (first, by, why_is, differs) = record {
  before = [];
  now = now;
  turns = refl;
  number = first;
  refusal = subst (RefusesNext to_come reads failures N kinds optional given_by ds m now now) (sym why_is) (refl, other, differs);
}

module _ {S T : Type 0} (to_come : S → Option (List ℕ)) (reads failures : S → ℕ) (N : ℕ) (kinds : List Kind)
    (optional : ℕ → Bool) (given_by : T → List (Option Datum)) (ds : List Directive) (m : ℕ) where
  -- one row after the others
  pub one_more : (old now new : Ahead S) (rows : List T) (row : T) → RowsInTurn to_come reads failures N kinds given_by ds m old rows now
      → RowScan to_come reads failures N kinds given_by ds m now new (Ok row)
      → RowsInTurn to_come reads failures N kinds given_by ds m old (rows ++ row ∷ []) new
  one_more old now new [] row is scan =
      (new, subst (λ (a : Ahead S). RowScan to_come reads failures N kinds given_by ds m a new (Ok row)) (sym is) scan, refl)
  one_more old now new (first ∷ rows) row (mid, scanned, rest) scan = (mid, scanned, one_more mid now new rows row rest scan)

  module _ (now new : Ahead S) (result : Result T ScanRowFault)
      (run : is_run result ≡ true → RowScan to_come reads failures N kinds given_by ds m now new result) where
    -- the run of a row that was read
    pub scanned : (row : T) → result ≡ Ok row → RowScan to_come reads failures N kinds given_by ds m now new (Ok row)
    scanned row e = subst (RowScan to_come reads failures N kinds given_by ds m now new) e (run (ap is_run e))

    -- the run that met the end of the input
    pub ended : (why : ScanRowFault) → result ≡ Err why → is_end why ≡ true
        → RowScan to_come reads failures N kinds given_by ds m now new (Err why)
    ended (Failed outcome) e is = subst (RowScan to_come reads failures N kinds given_by ds m now new) e (run (ap is_run e))
    ended NoMemory e is = absurd (true≢false (sym is))
    ended (ShapeDiffers by) e is = absurd (true≢false (sym is))
    ended (LeftOver at) e is = absurd (true≢false (sym is))
    ended (Start fault) e is = absurd (true≢false (sym is))

    -- why there is no next row
    pub refuses : (why : ScanRowFault) → result ≡ Err why → is_end why ≡ false → (is_run result ≡ false → new ≡ now)
        → HasShape kinds optional ds → (IsSome (difference_of result) → HasShape kinds optional ds → ⊥)
        → IfSome (difference_of result) (IsDifference kinds optional ds)
        → (IsErrOf result (Start start.BadLimit) → 2147483647 < m)
        → ((fault : StartFault) → IsErrOf result (Start fault) → (fault ≡ start.BadLimit) ⊎ (fault ≡ start.NoMemory))
        → RefusesNext to_come reads failures N kinds optional given_by ds m now new why
    refuses (Failed outcome) e not unread shape unshaped differs limit begun =
        (not, subst (RowScan to_come reads failures N kinds given_by ds m now new) e (run (ap is_run e)))
    refuses NoMemory e not unread shape unshaped differs limit begun =
        inl (subst (RowScan to_come reads failures N kinds given_by ds m now new) e (run (ap is_run e)))
    refuses (LeftOver at) e not unread shape unshaped differs limit begun =
        (subst (RowScan to_come reads failures N kinds given_by ds m now new) e (run (ap is_run e))).answers
    refuses (ShapeDiffers by) e not unread shape unshaped differs limit begun = (
      unread (ap is_run e),
      unshaped (subst (λ (r : Result T ScanRowFault). IsSome (difference_of r)) (sym e) refl),
      subst (λ (r : Result T ScanRowFault). IfSome (difference_of r) (IsDifference kinds optional ds)) e differs,
    )
    refuses (Start fault) e not unread shape unshaped differs limit begun =
        let told : IsErrOf result (Start fault) = subst (λ (r : Result T ScanRowFault). IsErrOf r (Start fault)) (sym e) refl in (
          unread (ap is_run e),
          shape,
          elim (begun fault told) [
            | inl bad ↦ inr (bad, limit (subst (λ (f : StartFault). IsErrOf result (Start f)) bad told))
            | inr memory ↦ inl memory
          ],
        )
