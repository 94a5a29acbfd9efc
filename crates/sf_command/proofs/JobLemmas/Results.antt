-- What is so of a result, and how often a loop over records fails.
use Rattle.std.proofs.Common.{◌≡◌, if◌then◌else◌, ℕ, Result, Ok, Err, Option, Some, None}
use Rattle.std.specs.Prelude.{IfErr, IfOk}
use Rattle.sf_print.specs.sink.Sinks.{counted_on}
use Rattle.sf_records.specs.Judging as ends
use Rattle.sf_records.specs.declared.end.ToolFault.{ToolFault}
use Rattle.sf_records.specs.declared.end.ToolFault.TheVariants as record_fault
use Rattle.sf_command.specs.jobs.Commands.{Counts, answer_by as record_answer}

-- what is so of a result's value
pub if_ok : {A F : Type 0} (r : Result A F) (P Q : A → Type 0) → ((x : A) → P x → Q x) → IfOk r P → IfOk r Q
if_ok (Ok x) P Q f h = f x h
if_ok (Err e) P Q f h = tt

pub if_err : {A F : Type 0} (r : Result A F) (P Q : F → Type 0) → ((x : F) → P x → Q x) → IfErr r P → IfErr r Q
if_err (Ok x) P Q f h = tt
if_err (Err e) P Q f h = f e h

pub always : {A F : Type 0} (r : Result A F) (P : A → Type 0) → ((x : A) → P x) → IfOk r P
always (Ok x) P h = h x
always (Err e) P h = tt

pub not_err : {A F : Type 0} (r : Result A F) (x : A) → r ≡ Ok x → (P : F → Type 0) → IfErr r P
not_err (Ok y) x is P = tt
not_err (Err e) x is P = absurd (cc)

-- the answer tells that the sink failed, just where the loop over records ended for that
pub records_count : (fault : Option ToolFault) (n k : ℕ) → k ≡ (if ends.is_write fault then counted_on n else n)
    → Counts n k (record_answer fault)
records_count None n k h = h
records_count (Some (record_fault.Failed number outcome)) n k h = h
records_count (Some (record_fault.Stalled number)) n k h = h
records_count (Some (record_fault.Unfit number)) n k h = h
records_count (Some record_fault.TooMany) n k h = h
records_count (Some (record_fault.Read number)) n k h = h
records_count (Some record_fault.Write) n k h = h
records_count (Some record_fault.Memory) n k h = h
