-- The records of a whole input, their lines, and how the loop over them ends.
use Rattle.std.specs.Prelude.{◌≡◌, ◌+◌, ◌<◌, ◌++◌, ◌⊎◌, ℕ, Bool, true, if◌then◌else◌, List, [], ◌∷◌, length, take, drop, Option, Some, None}
use Rattle.std.specs.Io.KnownBytes.{Appends}
use Rattle.sf_format.specs.declared.directive.Directive.{Directive}
use Rattle.sf_format.specs.Widths.{width_sum}
use Rattle.sf_run.specs.outcome.Ending.{Ending}
use Rattle.sf_run.specs.outcome.Ending.TheVariants.{End, Fault}
use Rattle.sf_run.specs.Runs.{RunReport}
use Rattle.sf_run.specs.Limits.{RunWithin, RunRefused}
use Rattle.sf_read.specs.source.Ahead.{Ahead, input_of}
use Rattle.sf_read.specs.source.Counts.{counted_on}
use Rattle.sf_forms.specs.makers.Works.{outcome_of}
use Rattle.sf_records.specs.declared.turn.Turn.{Turn}
use Rattle.sf_records.specs.declared.turn.Turn.TheVariants.{Goes, Ends, Cut, Failed, Stalled, Unfit, RanOut}
use Rattle.sf_records.specs.declared.end.ToolEnd.{ToolEnd}
use Rattle.sf_records.specs.declared.end.ToolFault.{ToolFault}
use Rattle.sf_records.specs.declared.end.ToolFault.TheVariants as faults
use Rattle.sf_records.specs.Turns.{writes}
use Rattle.sf_records.specs.Works.{Work, turn_in, texts, last_text}

-- the most records that one loop writes
abbrev pub most_records : ℕ
most_records = 2147483647

-- each report is that of what the ones before it left of x, the loop goes on after each, and y is left
abbrev pub Passed : Work → List Directive → ℕ → List ℕ → Ending → List RunReport → List ℕ → Type 0
Passed w ds m x ending [] y = x ≡ y
Passed w ds m x ending (r ∷ rs) y = RunWithin ds m x ending r × (turn_in w ds r ≡ Goes) × Passed w ds m (drop r.used x) ending rs y

-- the bytes that the runs used
abbrev pub uses : List RunReport → ℕ
uses [] = 0
uses (r ∷ rs) = r.used + uses rs

-- ---- how the loop ends

abbrev pub status_by : Option ToolFault → ℕ
status_by None = 0
status_by (Some (faults.Failed number outcome)) = 1
status_by (Some (faults.Stalled number)) = 1
status_by (Some (faults.Unfit number)) = 1
status_by (Some faults.TooMany) = 1
status_by (Some (faults.Read number)) = 3
status_by (Some faults.Write) = 3
status_by (Some faults.Memory) = 4

-- an end after this many records, with its fault and so its status
abbrev pub ended : ℕ → Option ToolFault → ToolEnd
ended n fault = record { status = status_by fault; records = n; fault = fault }

-- the end at the report at which the loop stops, n records having been written before
abbrev pub end_by : Turn → ℕ → RunReport → ToolEnd
end_by Goes n last = ended (n + 1) (Some faults.TooMany)
end_by Ends n last = ended n None
end_by (Cut written) n last = ended (if written then n + 1 else n) (Some (faults.Read (n + 1)))
end_by Failed n last = ended n (Some (faults.Failed (n + 1) (outcome_of last)))
end_by Stalled n last = ended n (Some (faults.Stalled (n + 1)))
end_by Unfit n last = ended n (Some (faults.Unfit (n + 1)))
end_by RanOut n last = ended n (Some faults.Memory)

-- no record may follow
pub record IsFull (n : ℕ) (tail : List ℕ) (spent : ℕ) (end : ToolEnd) : Type 0 where
  pub full : n ≡ most_records
  pub nothing : tail ≡ []
  pub unused : spent ≡ 0
  pub end_is : end ≡ ended n (Some faults.TooMany)

-- The loop stops at the run over y. tail: the line that is written then. spent: the bytes that this run uses.
pub record StopsAt (w : Work) (ds : List Directive) (m : ℕ) (y : List ℕ) (ending : Ending) (n : ℕ) (tail : List ℕ) (spent : ℕ)
    (end : ToolEnd) : Type 0 where
  pub few : n < most_records
  pub last : RunReport
  pub ran : RunWithin ds m y ending last
  pub stops : turn_in w ds last ≡ Goes → ⊥
  pub tail_is : tail ≡ last_text w ds last
  pub spent_is : spent ≡ last.used
  pub end_is : end ≡ end_by (turn_in w ds last) n last

-- The records of the input x with its ending, by runs of at most m bytes, n records having been written before: their
-- lines, the bytes that the runs use, and how the loop ends.
pub record EndsFrom (n : ℕ) (w : Work) (ds : List Directive) (m : ℕ) (x : List ℕ) (ending : Ending) (output : List ℕ) (used : ℕ)
    (end : ToolEnd) : Type 0 where
  pub written : List RunReport
  pub left : List ℕ
  pub tail : List ℕ
  pub spent : ℕ
  pub passed : Passed w ds m x ending written left
  pub stops : IsFull (n + length written) tail spent end ⊎ StopsAt w ds m left ending (n + length written) tail spent end
  pub output_is : output ≡ texts w written ++ tail
  pub used_is : used ≡ uses written + spent

-- the same from the first record on
abbrev pub EndsWith : Work → List Directive → ℕ → List ℕ → Ending → List ℕ → ℕ → ToolEnd → Type 0
EndsWith = EndsFrom 0

-- ---- where memory was refused or the sink failed

-- the sink failed within the line of the run over y, which used `spent` bytes, when it had taken this part of the line
pub record IsUnwritten (w : Work) (ds : List Directive) (m : ℕ) (y : List ℕ) (ending : Ending) (part : List ℕ) (spent : ℕ) : Type 0 where
  pub next : RunReport
  pub ran : RunWithin ds m y ending next
  pub spent_is : spent ≡ next.used
  pub due : writes (turn_in w ds next) ≡ true
  pub missing : ℕ
  pub rest : List ℕ
  pub begun : w.text next ≡ part ++ missing ∷ rest

-- the record of the run over y, which used `spent` bytes, was to be written, and memory for it was refused
pub record IsUnmade (w : Work) (ds : List Directive) (m : ℕ) (y : List ℕ) (ending : Ending) (spent : ℕ) : Type 0 where
  pub next : RunReport
  pub ran : RunWithin ds m y ending next
  pub spent_is : spent ≡ next.used
  pub due : writes (turn_in w ds next) ≡ true

-- the run over y used `spent` bytes, and then the storing of a byte was refused, which happens where the format has no width sum
pub record IsUnstored (ds : List Directive) (m : ℕ) (y : List ℕ) (spent : ℕ) : Type 0 where
  pub unbounded : width_sum ds ≡ None
  pub next : RunReport
  pub ran : RunRefused ds m y next
  pub spent_is : spent ≡ next.used

-- Memory was refused after the records `before`, where y was left: for the record of the run over y, for a byte that
-- this run stores, or for the store, which is made before the first run. spent: the bytes that the run over y used.
abbrev pub IsRefusedBehind : List RunReport → Work → List Directive → ℕ → List ℕ → Ending → ℕ → Type 0
IsRefusedBehind before w ds m y ending spent = IsUnmade w ds m y ending spent ⊎ IsUnstored ds m y spent ⊎ (before ≡ []) × (spent ≡ 0)

-- The loop was ended before: by the sink, or by want of memory. Only full lines count as records. consumed: the bytes that
-- the runs of these records used, and the run at which it was ended.
pub record IsCutShort (w : Work) (ds : List Directive) (m : ℕ) (x : List ℕ) (ending : Ending) (written : List ℕ) (consumed : ℕ)
    (end : ToolEnd) : Type 0 where
  pub before : List RunReport
  pub left : List ℕ
  pub part : List ℕ
  pub spent : ℕ
  pub passed : Passed w ds m x ending before left
  pub written_is : written ≡ texts w before ++ part
  pub consumed_is : consumed ≡ uses before + spent
  pub why : (end ≡ ended (length before) (Some faults.Write)) × IsUnwritten w ds m left ending part spent
      ⊎ (end ≡ ended (length before) (Some faults.Memory)) × (part ≡ []) × IsRefusedBehind before w ds m left ending spent

-- ---- the loop over a source

-- what the runs had for their input: all of t, or, where the source failed, the bytes that they used
abbrev pub input_by : Bool → ℕ → List ℕ → List ℕ
input_by failed used t = if failed then take used t else t

abbrev pub ending_by : Bool → Ending
ending_by failed = if failed then Fault else End

-- What the loop over the input t wrote and answered. now: what is held and to come afterwards. The sink held the bytes
-- `before`, and then `after`, where it makes them known; `failures` and `failures'` are the counts of the source's
-- failures.
pub record Loops {S : Type 0} (w : Work) (to_come : S → Option (List ℕ)) (ds : List Directive) (m : ℕ) (t : List ℕ) (now : Ahead S)
    (failures failures' : ℕ) (before after : Option (List ℕ)) (answer : ToolEnd) : Type 0 where
  -- whether the source failed
  pub failed : Bool
  pub failures_are : failures' ≡ (if failed then counted_on failures else failures)
  pub nothing_held : failed ≡ true → now.held ≡ []
  -- what the runs did not use is then held or to come
  pub consumed : ℕ
  pub rest : input_of to_come now ≡ Some (drop consumed t)
  -- what is written by the definition, and what was
  pub output : List ℕ
  pub used : ℕ
  pub end : ToolEnd
  pub is : EndsWith w ds m (input_by failed consumed t) (ending_by failed) output used end
  pub written : List ℕ
  pub appends : Appends before after written
  pub told : (written ≡ output) × (consumed ≡ used) × (answer ≡ end)
      ⊎ ((missing : List ℕ) × (output ≡ written ++ missing)) × IsCutShort w ds m (input_by failed consumed t) (ending_by failed)
      written consumed answer
