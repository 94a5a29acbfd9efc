-- One file of several, and then those that are left.
use Rattle.std.proofs.Common.{◌≡◌, ◌+◌, ◌<◌, ℕ, suc, max, Bool, true, false, not, List, [], length, map, Option, Some, refl}
use Rattle.std.proofs.Common.{sym, ap, subst, arith, true≢false}
use Rattle.std.specs.List.{slice_get}
use Rattle.std.specs.Prelude.{get_or}
use Rattle.std.proofs.lemmas.List.{length-map}
use Rattle.std.proofs.lemmas.Option.{slice_get-get_or}
use Rattle.std.specs.declared.io.Error.{Error}
use Rattle.sf_words.specs.declared.order.Order.{Order}
use Rattle.sf_command.specs.entry.Files.{RunsFile, RunsFiles, Where}
use Rattle.sf_command.specs.declared.entry.files.Turn.{Turn}

-- a file that is there has a name
pub has_name : {A : Type 0} (f : A → List ℕ) (files : List A) (place : ℕ) → place < length files
    → (name : List ℕ) × (slice_get (map f files) place ≡ Some name)
has_name f files place lt =
    (get_or (map f files) place [], slice_get-get_or (map f files) place [] (omega (arith, length-map files f, lt)))

-- an order is another but for the file that is read, and is so of the next one
pub same_next : (now order : Order) (place : ℕ) → now ≡ record order { file = now.file }
    → record now { file = Some place } ≡ record order { file = Some place }
same_next now order place same = ap (λ (o : Order). record o { file = Some place }) same

is_true : (b : Bool) → not b ≡ false → b ≡ true
is_true true e = refl
is_true false e = absurd (true≢false e)

is_false : (b : Bool) → not b ≡ true → b ≡ false
is_false true e = absurd (true≢false (sym e))
is_false false e = refl

module _ {S K E F : Type 0} (opens : F → F → List ℕ → S → Bool → Type 0) (contents : K → Option (List ℕ)) (write_faults : K → ℕ)
    (hands : K → K → Type 0) (said : E → Option (List ℕ)) (unsaid : E → ℕ) (to_come : S → Option (List ℕ)) (read_faults : S → ℕ)
    (why_unread : S → Option Error) (why_unwritten : K → Option Error) (watched : Bool) where
  abbrev Runs : Order → F → F → K → K → E → E → Turn → Type 0
  Runs = RunsFile opens contents write_faults hands said unsaid to_come read_faults why_unread why_unwritten watched

  abbrev All : ℕ → Order → ℕ → ℕ → F → F → K → K → E → E → ℕ → Type 0
  All = RunsFiles opens contents write_faults hands said unsaid to_come read_faults why_unread why_unwritten watched

  -- the next files are read
  pub then_next : (left : ℕ) (order : Order) (place worst : ℕ) (turn : Turn) (files after files' : F) (out mid out' : K)
      (err between err' : E) (greatest status : ℕ) → Runs (record order { file = Some place }) files after out mid err between turn
      → not turn.goes_on ≡ false → greatest ≡ max worst turn.status
      → All left order (place + 1) greatest after files' mid out' between err' status
      → All (suc left) order place worst files files' out out' err err' status
  then_next left order place worst turn files after files' out mid out' err between err' greatest status ran goes is rest = (
    turn,
    (
      after,
      (
        mid,
        (
          between,
          ran,
          subst (λ (b : Bool). Where b (All left order (place + 1) (max worst turn.status) after files' mid out' between err' status)
              ((files' ≡ after) × (out' ≡ mid) × (err' ≡ between) × (status ≡ max worst turn.status)))
              (sym (is_true turn.goes_on goes))
              (subst (λ n. All left order (place + 1) n after files' mid out' between err' status) is rest),
        ),
      ),
    ),
  )

  -- it was the last one that is read
  pub then_none : (left : ℕ) (order : Order) (place worst : ℕ) (turn : Turn) (files after : F) (out mid : K) (err between : E)
      (greatest : ℕ) → Runs (record order { file = Some place }) files after out mid err between turn
      → not turn.goes_on ≡ true → greatest ≡ max worst turn.status
      → All (suc left) order place worst files after out mid err between greatest
  then_none left order place worst turn files after out mid err between greatest ran ends is = (
    turn,
    (
      after,
      (
        mid,
        (
          between,
          ran,
          subst (λ (b : Bool). Where b (All left order (place + 1) (max worst turn.status) after after mid mid between between greatest)
              ((after ≡ after) × (mid ≡ mid) × (between ≡ between) × (greatest ≡ max worst turn.status)))
              (sym (is_false turn.goes_on ends)) (refl, refl, refl, is),
        ),
      ),
    ),
  )
