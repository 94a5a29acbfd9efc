-- Scans in a row.
use Rattle.std.specs.Prelude.{◌≡◌, ◌++◌, ℕ, List, [], ◌∷◌, length, take, drop, true, false, Option, Some}
use Rattle.std.specs.List.{concat}
use Rattle.std.specs.Io.KnownBytes.{Consumes}
use Rattle.sf_format.specs.declared.directive.Directive.{Directive}
use Rattle.sf_run.specs.outcome.Ending.TheVariants.{End, Fault}
use Rattle.sf_run.specs.Runs.{RunReport}
use Rattle.sf_run.specs.Limits.{RunTold, RunWithin}
use Rattle.sf_read.specs.source.Ahead.{Ahead, input_of}
use Rattle.sf_read.specs.Made.{Made}
use Rattle.sf_read.specs.Reads.{counted_by}
use Rattle.sf_read.specs.Scan.{MayFollow, Scan, is_fault}

-- a scan by a format, under a limit, with what it came to
pub record ScanMade : Type 0 where
  pub directives : List Directive
  pub limit : ℕ
  pub report : RunReport

-- these scans of one lookahead, each of which leaves it to the next
abbrev pub ScansInTurn : {S : Type 0} → (S → Option (List ℕ)) → Ahead S → List ScanMade → Ahead S → Type 0
ScansInTurn to_come old [] new = old ≡ new
ScansInTurn {S} to_come old (s ∷ scans) new =
    (mid : Ahead S) × ((t : List ℕ) → input_of to_come old ≡ Some t → Scan to_come s.directives s.limit t old mid s.report)
    × ScansInTurn to_come mid scans new

-- the run of the input t: with its end, or, where the source failed, of what was used, with the fault
pub record IsRunOf (t : List ℕ) (s : ScanMade) : Type 0 where
  pub whole : is_fault s.report.met ≡ false → RunTold s.directives s.limit t End s.report
  pub cut : is_fault s.report.met ≡ true → RunWithin s.directives s.limit (take s.report.used t) Fault s.report

-- the runs of one input, each of what the run before it left
abbrev pub RunsInTurn : List ℕ → List ScanMade → List ℕ → Type 0
RunsInTurn t [] left = t ≡ left
RunsInTurn t (s ∷ scans) left = IsRunOf t s × RunsInTurn (drop s.report.used t) scans left

-- scans in a row over one lookahead are the runs of its input, one after the other; what the last one left is held or to come
abbrev pub ScansAreRuns : {S : Type 0} → (S → Option (List ℕ)) → Type 0
ScansAreRuns {S} to_come =
    (old new : Ahead S) (scans : List ScanMade) → ScansInTurn to_come old scans new → (t : List ℕ) → input_of to_come old ≡ Some t
    → (left : List ℕ) × RunsInTurn t scans left × (input_of to_come new ≡ Some left)

-- ---- whatever the source says of itself

-- what these scans of one lookahead made of what it held and of what their reads gave; each leaves it to the next
abbrev pub MadeInTurn : {S : Type 0} → (S → Option (List ℕ)) → (S → ℕ) → ℕ → Ahead S → List ScanMade → Ahead S → Type 0
MadeInTurn to_come reads N old [] new = old ≡ new
MadeInTurn {S} to_come reads N old (s ∷ scans) new =
    (mid : Ahead S) × Made to_come reads N s.directives s.limit old mid s.report × MadeInTurn to_come reads N mid scans new

-- the bytes that they used, one scan after the other
abbrev pub bytes_in_turn : {S : Type 0} (to_come : S → Option (List ℕ)) (reads : S → ℕ) (N : ℕ) (old : Ahead S) (scans : List ScanMade)
    (new : Ahead S) → MadeInTurn to_come reads N old scans new → List ℕ
bytes_in_turn to_come reads N old [] new made = []
bytes_in_turn to_come reads N old (s ∷ scans) new (mid, made, more) = made.bytes ++ bytes_in_turn to_come reads N mid scans new more

-- the blocks that their reads gave
abbrev pub blocks_in_turn : {S : Type 0} (to_come : S → Option (List ℕ)) (reads : S → ℕ) (N : ℕ) (old : Ahead S) (scans : List ScanMade)
    (new : Ahead S) → MadeInTurn to_come reads N old scans new → List (List ℕ)
blocks_in_turn to_come reads N old [] new made = []
blocks_in_turn to_come reads N old (s ∷ scans) new (mid, made, more) =
    made.reads_are.blocks ++ blocks_in_turn to_come reads N mid scans new more

-- the scans used these bytes, and their reads gave these blocks
pub record AreOneInput {S : Type 0} (to_come : S → Option (List ℕ)) (reads : S → ℕ) (old new : Ahead S) (scans : List ScanMade)
    (bytes : List ℕ) (blocks : List (List ℕ)) : Type 0 where
  -- the bytes, and what is held after the last scan, are what was held before the first, and then the blocks
  pub front : bytes ++ new.held ≡ old.held ++ concat blocks
  -- a block for each read; where the source shows its bytes, the blocks are the first of them
  pub count : reads new.source ≡ counted_by (length blocks) (reads old.source)
  pub taken : Consumes (to_come old.source) (to_come new.source) (concat blocks)
  -- however the input goes on: the scans are its runs, one after the other
  pub runs : (z : List ℕ) → MayFollow new z End → RunsInTurn (old.held ++ concat blocks ++ z) scans (new.held ++ z)

-- what a lookahead holds and then all that the reads of scans in a row give are one input of them all
abbrev pub ReadsAreOneInput : {S : Type 0} → (S → Option (List ℕ)) → (S → ℕ) → ℕ → Type 0
ReadsAreOneInput {S} to_come reads N =
    (old new : Ahead S) (scans : List ScanMade) (made : MadeInTurn to_come reads N old scans new)
    → AreOneInput to_come reads old new scans (bytes_in_turn to_come reads N old scans new made)
    (blocks_in_turn to_come reads N old scans new made)
