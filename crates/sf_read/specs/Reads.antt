-- What the reads of a call gave, and what each of them was needed for.
use Rattle.std.specs.Prelude.{◌≡◌, ◌≤◌, ◌++◌, ℕ, zero, suc, List, [], ◌∷◌, length, true, Option}
use Rattle.std.specs.List.{concat}
use Rattle.std.specs.Io.KnownBytes.{Consumes}
use Rattle.sf_format.specs.declared.directive.Directive.{Directive}
use Rattle.sf_run.specs.Runs.{IsOpen}
use Rattle.sf_read.specs.source.Ahead.{Ahead}
use Rattle.sf_read.specs.source.Counts.{counted_on}

-- the count of the reads, after so many more
abbrev pub counted_by : ℕ → ℕ → ℕ
counted_by zero n = n
counted_by (suc k) n = counted_on (counted_by k n)

-- A read of a call: it gave this block, and the reads after it gave the blocks `back`. All that was held at first and read before it is x:
-- that was used by then, and the call waited for more after it. A read that gave nothing is the last.
pub record IsRead (N : ℕ) (Waits : List ℕ → Type 0) (x : List ℕ) (used : ℕ) (block : List ℕ) (back : List (List ℕ)) : Type 0 where
  pub few : length block ≤ N
  pub waited : Waits x
  pub all_used : length x ≤ used
  pub last : block ≡ [] → back ≡ []

-- What the reads of a call gave, block by block. The call used these bytes; after the bytes x it waits for more where `Waits x`.
pub record ReadsWhile {S : Type 0} (to_come : S → Option (List ℕ)) (reads : S → ℕ) (N : ℕ) (Waits : List ℕ → Type 0)
    (old : Ahead S) (bytes : List ℕ) (new : Ahead S) : Type 0 where
  pub blocks : List (List ℕ)
  -- what was used and is held now was held before, or was read
  pub gave : bytes ++ new.held ≡ old.held ++ concat blocks
  pub taken : Consumes (to_come old.source) (to_come new.source) (concat blocks)
  -- a block for each read
  pub count : reads new.source ≡ counted_by (length blocks) (reads old.source)
  pub unread : blocks ≡ [] → new.source ≡ old.source
  pub at_end : old.at_end ≡ true → blocks ≡ []
  pub each : (front : List (List ℕ)) (block : List ℕ) (back : List (List ℕ)) → blocks ≡ front ++ block ∷ back
      → IsRead N Waits (old.held ++ concat front) (length bytes) block back

-- the last of these reads gave nothing
abbrev pub EndsInNothing : List (List ℕ) → Type 0
EndsInNothing blocks = (front : List (List ℕ)) × (blocks ≡ front ++ [] ∷ [])

-- the run is open after these bytes, and they are within its limit
abbrev pub Waits : List Directive → ℕ → List ℕ → Type 0
Waits ds m x = IsOpen ds x × (length x ≤ m)

-- the run used so many bytes, and waited for each of its reads
abbrev pub WaitedFor : {S : Type 0} → (S → Option (List ℕ)) → (S → ℕ) → ℕ → List Directive → ℕ → Ahead S → Ahead S → ℕ → Type 0
WaitedFor to_come reads N ds m old new used =
    (bytes : List ℕ) × (used ≡ length bytes) × ReadsWhile to_come reads N (Waits ds m) old bytes new
