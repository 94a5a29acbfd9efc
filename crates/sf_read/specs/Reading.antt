-- A run over bytes that are read ahead: where it stands, and how it ends.
use Rattle.std.specs.Prelude.{◌≡◌, ◌≤◌, ◌<◌, ◌+◌, ◌++◌, ◌⊎◌, ℕ, List, [], ◌∷◌, length, true, false, Option, Some, IsSome}
use Rattle.sf_format.specs.declared.directive.Directive.{Directive}
use Rattle.sf_format.specs.Widths.{width_sum}
use Rattle.sf_run.specs.outcome.Ending.{Ending}
use Rattle.sf_run.specs.outcome.Ending.TheVariants.{Fault}
use Rattle.sf_run.specs.Runs.{IsOpen}
use Rattle.sf_run.specs.Standing.{Standing, After, Gives, used_by, ran_out}
use Rattle.sf_read.specs.source.Counts.{counted_on}
use Rattle.sf_read.specs.source.Ahead.{Ahead, input_of}
use Rattle.sf_read.specs.Reads.{EndsInNothing, ReadsWhile, Waits}
use Rattle.sf_read.specs.Scan.{MayFollow}

-- a run that was handed no byte yet
abbrev pub IsFresh : Standing → Type 0
IsFresh s = After s.directives s.limit s []

-- the input was these bytes, then those that are held, and then those to come
abbrev pub Leaves : {S : Type 0} → (S → Option (List ℕ)) → Ahead S → List ℕ → Ahead S → Type 0
Leaves to_come old bytes now =
    (t : List ℕ) → input_of to_come old ≡ Some t → (z : List ℕ) × (to_come now.source ≡ Some z) × (t ≡ bytes ++ now.held ++ z)

-- a run that waits, or is to be handed what is held
pub record Reading {S : Type 0} (to_come : S → Option (List ℕ)) (reads failures : S → ℕ) (N : ℕ) (ds : List Directive) (m : ℕ)
    (old now : Ahead S) (s : Standing) : Type 0 where
  pub fed : List ℕ
  pub after : After ds m s fed
  pub used : used_by s ≡ length fed
  pub within : length fed ≤ m
  pub input : Leaves to_come old fed now
  pub waited : ReadsWhile to_come reads N (Waits ds m) old fed now
  pub some : now.at_end ≡ false → (front : List (List ℕ)) (block : List ℕ) (back : List (List ℕ)) → waited.blocks ≡ front ++ block ∷ back
      → 0 < length block
  pub told_end : old.at_end ≡ false → now.at_end ≡ true → EndsInNothing waited.blocks
  pub count : reads now.source ≤ reads old.source + length fed + 1
  pub no_block : now.held ≡ [] → now.at_end ≡ false → reads now.source ≤ reads old.source + length fed
  pub no_failure : failures now.source ≡ failures old.source
  pub quiet : old.at_end ≡ true → (now.source ≡ old.source) × (now.at_end ≡ true)

-- the source did not fail: the report is that of every input that begins with what was used and is held
pub record Whole {S : Type 0} (failures : S → ℕ) (ds : List Directive) (m : ℕ) (old new : Ahead S) (blocks : List (List ℕ))
    (bytes : List ℕ) (s : Standing) : Type 0 where
  pub no_failure : failures new.source ≡ failures old.source
  pub gave_nothing : EndsInNothing blocks → new.at_end ≡ true
  pub gives : (z : List ℕ) (ending : Ending) → MayFollow new z ending → Gives ds m s (bytes ++ new.held ++ z) ending

-- the source failed: the report is that of what was used
pub record Cut {S : Type 0} (failures : S → ℕ) (ds : List Directive) (m : ℕ) (old new : Ahead S) (blocks : List (List ℕ))
    (bytes : List ℕ) (s : Standing) : Type 0 where
  pub one_failure : failures new.source ≡ counted_on (failures old.source)
  pub nothing : new.held ≡ []
  pub not_at_end : new.at_end ≡ false
  pub gave_nothing : EndsInNothing blocks
  pub gives : Gives ds m s bytes Fault
  pub stored : ran_out s ≡ false
  pub waits : IsOpen ds bytes × (length bytes ≤ m)

-- a run that has ended
pub record Driven {S : Type 0} (to_come : S → Option (List ℕ)) (reads failures : S → ℕ) (N : ℕ) (ds : List Directive) (m : ℕ)
    (old new : Ahead S) (s : Standing) : Type 0 where
  pub bytes : List ℕ
  pub used : used_by s ≡ length bytes
  pub input : Leaves to_come old bytes new
  pub waited : ReadsWhile to_come reads N (Waits ds m) old bytes new
  pub told : new.at_end ≡ true → (z : List ℕ) → to_come new.source ≡ Some z → z ≡ []
  pub told_end : old.at_end ≡ false → new.at_end ≡ true → EndsInNothing waited.blocks
  pub count : reads new.source ≤ reads old.source + length bytes + 1
  pub quiet : old.at_end ≡ true → (new.source ≡ old.source) × (new.at_end ≡ true)
  pub bounded : IsSome (width_sum ds) → ran_out s ≡ false
  pub ends : Whole failures ds m old new waited.blocks bytes s ⊎ Cut failures ds m old new waited.blocks bytes s
