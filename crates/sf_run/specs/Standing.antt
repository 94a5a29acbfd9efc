-- Where a run stands, and of what input.
use Rattle.std.specs.Prelude.{ℕ, suc, ◌+◌, ◌-◌, ◌≡◌, ◌<◌, ◌≤◌, Bool, true, false, List, [], ◌∷◌, ◌++◌, length, take, drop, slice_get}
use Rattle.std.specs.Prelude.{Option, Some, None, IfNone, is_some, min}
use Rattle.sf_base.specs.stores.Kept.{Opened}
use Rattle.sf_format.specs.declared.directive.Conversion.{Conversion}
use Rattle.sf_format.specs.declared.directive.Directive.{Directive}
use Rattle.sf_format.specs.declared.directive.Directive.TheVariants.{Conv}
use Rattle.sf_format.specs.Proper.{AreColumned, AreProper, IsProper, more_of}
use Rattle.sf_run.specs.declared.directive.Phase.{Phase}
use Rattle.sf_run.specs.declared.directive.Phase.TheVariants.{Skipping}
use Rattle.sf_report.specs.declared.outcome.Ending.{Ending}
use Rattle.sf_report.specs.declared.outcome.Status.TheVariants.{TooLong, NoMemory}
use Rattle.sf_run.specs.declared.scanner.Stop.{Stop}
use Rattle.sf_report.specs.Steps.{StepEnd, Misses, Fails, IsSkipBefore}
use Rattle.sf_report.specs.Runs.{RunReport, Ran, count_assigned, count_converted, bytes_used, values_stored}
use Rattle.sf_report.specs.Limits.{IsCut, RunTold, TellsWithin}
use Rattle.sf_report.specs.Computed.{ran_of}
use Rattle.sf_report.specs.Machine.{Stage, is_full}
use Rattle.sf_report.specs.Machine as start
use Rattle.sf_run.specs.Phases.{Shows, slot_in}
use Rattle.sf_run.specs.Stopping.{is_no_memory}
use Rattle.sf_base.specs.Blanks.{trimmed_front}
use Rattle.sf_run.specs.Texts.{StoresByte, text_slot, opened_for}
pub use Rattle.sf_run.specs.Texts.{text_begun}
use Rattle.sf_report.specs.Residual.{Tally, with_used, counted, out_of, run_from, choose, stepped_all}

-- the fields of a scanner, with what its store has been given
pub record Standing : Type 0 where
  pub directives : List Directive
  pub limit : ℕ
  pub passed : ℕ
  pub phase : Phase
  pub tally : Tally
  pub opened : Option Opened
  pub ended : Option Stop
  pub met : Option Ending
  -- how many bytes its store can hold for sure, with those that it holds, and how many more
  pub capacity : ℕ
  pub room : ℕ

-- the first of the directives, if there is one, has come to this stage, and its text is under way
abbrev pub ShowsFirst : List Directive → Phase → Option Opened → Stage → Type 0
ShowsFirst [] phase opened q = Unit {0}
ShowsFirst (d ∷ ds) phase opened q = Shows d phase q × (opened ≡ opened_for d q)

-- Under the limit k, what a run that has come so far makes of the rest of the input: the report where it has stopped,
-- else what the directives that are left make of it.
abbrev pub DoesBy : Option Stop → List Directive → ℕ → Phase → Option Opened → Tally → ℕ → List ℕ → RunReport → Type 0
DoesBy None ds passed phase opened t k z report =
    (q : Stage) × ShowsFirst (drop passed ds) phase opened q × (report ≡ run_from (Some k) (drop passed ds) q (passed + 1) t z)
DoesBy (Some stop) ds passed phase opened t k z report = report ≡ out_of stop.status stop.at t

abbrev pub Does : Standing → ℕ → List ℕ → RunReport → Type 0
Does s k z report = DoesBy s.ended s.directives s.passed s.phase s.opened s.tally k z report

-- what the new one does with y the old one does with z, under each limit that is not yet passed
abbrev pub Follows : Standing → Standing → List ℕ → List ℕ → Type 0
Follows new old y z = (k : ℕ) (report : RunReport) → new.tally.used ≤ k → k ≤ old.limit → Does old k z report → Does new k y report

-- it goes on with the same format under the same limit; its store can hold as much, and no byte took more room than its own
pub record Keeps (new old : Standing) : Type 0 where
  pub directives : new.directives ≡ old.directives
  pub limit : new.limit ≡ old.limit
  pub met : new.met ≡ old.met
  pub capacity : old.capacity ≤ new.capacity
  pub room : old.room + old.tally.used ≤ new.room + new.tally.used

-- ---- how far a run has come

-- the bytes y bring the first of the directives, if there is one, to this stage
abbrev pub LedFirst : List Directive → List ℕ → Stage → Type 0
LedFirst [] y q = Unit {0}
LedFirst (d ∷ ds) y q = stepped_all d start.Skipping y ≡ Some q

-- The bytes x were consumed, and y stands next. Whatever follows that, the directives that have passed made these steps, and what
-- they left of x has brought the next one, and its text, as far as the phase shows.
pub record ComesBy (ds : List Directive) (passed : ℕ) (phase : Phase) (opened : Option Opened) (consumed : ℕ) (x y : List ℕ) : Type 0 where
  pub before : List Ran
  pub stage : Stage
  pub count : passed ≡ length before
  pub consumed_is : consumed ≡ length x
  pub within : bytes_used before ≤ length x
  pub steps : (z : List ℕ) → ran_of ds (x ++ (y ++ z)) 0 ≡ before ++ ran_of (drop passed ds) (drop (bytes_used before) x ++ (y ++ z))
      (bytes_used before)
  pub shown : ShowsFirst (drop passed ds) phase opened stage
  pub led : LedFirst (drop passed ds) (drop (bytes_used before) x) stage

abbrev pub Comes : Standing → List ℕ → List ℕ → Type 0
Comes s x y = ComesBy s.directives s.passed s.phase s.opened s.tally.used x y

-- where the old one was followed by y, the new one, if it waits, has come n bytes further
unfoldable pub Advances : Standing → Standing → List ℕ → ℕ → Type 0
Advances new old y n = (x : List ℕ) → Comes old x y → new.ended ≡ None → Comes new (x ++ take n y) (drop n y)

-- ---- moves

-- how many directives have passed with this one, which ends so after as many others: it, and those that are missing with it
abbrev pub passed_with : List Directive → ℕ → Directive → StepEnd → ℕ
passed_with ds passed d Misses = min (passed + 1 + more_of d) (length ds)
passed_with ds passed d end = passed + 1

-- the directive under way has passed with this end
pub record Passes (new old : Standing) (d : Directive) (end : StepEnd) : Type 0 where
  pub keeps : Keeps new old
  pub ended : new.ended ≡ old.ended
  pub passed : new.passed ≡ passed_with old.directives old.passed d end
  pub phase : new.phase ≡ Skipping
  pub opened : new.opened ≡ None
  pub tally : new.tally ≡ counted d end old.tally

-- the run has stopped
pub record Stops (new old : Standing) (stop : Stop) : Type 0 where
  pub keeps : Keeps new old
  pub ended : new.ended ≡ Some stop
  pub tally : new.tally ≡ old.tally

-- the text of the directive under way has begun
pub record Opens (new old : Standing) (slot : ℕ) : Type 0 where
  pub keeps : Keeps new old
  pub ended : new.ended ≡ old.ended
  pub passed : new.passed ≡ old.passed
  pub phase : slot_in new.phase ≡ Some slot
  pub opened : new.opened ≡ Some (record { slot = slot; text = [] })
  pub tally : new.tally ≡ old.tally

-- the directive under way has taken n bytes at once, and come so far
pub record TakesAll (new old : Standing) (next : Phase) (n : ℕ) (text : Option Opened) : Type 0 where
  pub keeps : Keeps new old
  pub ended : new.ended ≡ old.ended
  pub passed : new.passed ≡ old.passed
  pub phase : new.phase ≡ next
  pub opened : new.opened ≡ text
  pub tally : new.tally ≡ with_used (old.tally.used + n) old.tally

-- the directive under way has ended so
abbrev pub Ends : Standing → Standing → Directive → StepEnd → Type 0
Ends new old d (Fails status) = Stops new old (record { status = status; at = old.passed + 1 })
Ends new old d end = Passes new old d end

-- The run has stopped as the storing of a byte was refused: the directive under way has taken so many bytes before those of its item, and
-- those of the item that were stored, but not all.
pub record RunsOut (new old : Standing) (before item : ℕ) : Type 0 where
  pub stored : ℕ
  pub short : stored < item
  pub full : old.room < item
  pub keeps : Keeps new old
  pub ended : new.ended ≡ Some (record { status = NoMemory; at = old.passed + 1 })
  pub tally : new.tally ≡ with_used (old.tally.used + (before + stored)) old.tally

-- the new one stopped in this directive as the storing of the byte b was refused, which is next in y for the old one
pub record Refuses (new old : Standing) (at : ℕ) (directive : Directive) (b : ℕ) (y : List ℕ) : Type 0 where
  pub under_way : slice_get new.directives at ≡ Some directive
  pub ended : new.ended ≡ Some (record { status = NoMemory; at = at + 1 })
  pub below : new.tally.used < new.limit
  pub cut : (report : RunReport) → Does old new.tally.used y report → report ≡ out_of TooLong (at + 1) new.tally

-- With x consumed, and b next, the directive after those that have passed stores b, which it takes of what they left of x.
pub record StoresAfter (ds : List Directive) (at : ℕ) (d : Directive) (x : List ℕ) (b : ℕ) (rest : List ℕ) : Type 0 where
  pub before : List Ran
  pub count : at ≡ length before
  pub within : bytes_used before ≤ length x
  pub steps : (z : List ℕ) → ran_of ds (x ++ b ∷ (rest ++ z)) 0
      ≡ before ++ ran_of (drop at ds) (drop (bytes_used before) x ++ b ∷ (rest ++ z)) (bytes_used before)
  pub stores : StoresByte d (drop (bytes_used before) x) b

-- the same within a piece: the bytes of its front were taken before
pub record RefusesIn (new old : Standing) (piece : List ℕ) : Type 0 where
  pub front : List ℕ
  pub byte : ℕ
  pub rest : List ℕ
  pub at : ℕ
  pub directive : Directive
  pub whole : piece ≡ front ++ byte ∷ rest
  pub used : new.tally.used ≡ old.tally.used + length front
  pub refuses : (z : List ℕ) → Refuses new old at directive byte (piece ++ z)
  pub stores : (x : List ℕ) → Comes old x piece → StoresAfter old.directives at directive (x ++ front) byte rest

-- memory for a text was refused
abbrev pub ran_out : Standing → Bool
ran_out s = is_no_memory s.ended

-- how many directives may still end
abbrev pub turns_left : Standing → ℕ
turns_left s = choose s.ended (suc (length s.directives - s.passed)) (λ stop. 0)

-- a directive waits for a byte that it would take
pub record Waits (ds : List Directive) (passed : ℕ) (phase : Phase) : Type 0 where
  pub under_way : Directive
  pub current : slice_get ds passed ≡ Some under_way
  pub can_take : (q : Stage) → IsProper under_way → Shows under_way phase q → is_full under_way q ≡ false

-- the run has ended, or a directive waits for a byte
abbrev pub IsSettled : Standing → Type 0
IsSettled s = IfNone s.ended (Waits s.directives s.passed s.phase)

-- ---- what a scanner was given

-- The scanner of this format under this limit was given exactly the bytes x: however the input goes on, the report of
-- the whole input is what the scanner makes of the rest, under each limit that is not yet passed.
pub record After (ds : List Directive) (m : ℕ) (s : Standing) (x : List ℕ) : Type 0 where
  pub format : s.directives ≡ ds
  pub limit : s.limit ≡ m
  pub proper : AreProper ds
  pub columns : AreColumned ds
  pub low : s.tally.used ≤ m
  pub same : (k : ℕ) (z : List ℕ) → s.tally.used ≤ k → k ≤ m → (report : RunReport) × Does s k z report × TellsWithin ds k (x ++ z) report
  pub settled : IsSettled s
  pub all : IfNone s.ended (s.tally.used ≡ length x)
  pub come : IfNone s.ended (Comes s x [])
  pub within : s.tally.used ≤ length x
  pub fed : s.met ≡ None

-- the report of an ended scanner
abbrev pub report_by : Option Stop → Tally → Option Ending → Option RunReport
report_by None t met = None
report_by (Some stop) t met = Some (record (out_of stop.status stop.at t) { met = met })

abbrev pub report_of : Standing → Option RunReport
report_of s = report_by s.ended s.tally s.met

-- the run has ended
abbrev pub has_ended : Standing → Bool
has_ended s = is_some s.ended

-- how many bytes the run has used
abbrev pub used_by : Standing → ℕ
used_by s = s.tally.used

-- the scanner has ended, with the report of the input x with its ending
pub record Gives (ds : List Directive) (m : ℕ) (s : Standing) (x : List ℕ) (ending : Ending) : Type 0 where
  pub report : RunReport
  pub is : report_of s ≡ Some report
  pub right : RunTold ds m x ending report

-- by whether a conversion takes a column
abbrev pub IsTextBy : Bool → Conversion → List ℕ → Option Opened → Type 0
IsTextBy true c y opened = opened ≡ text_begun (text_slot (Conv c)) (trimmed_front y)
IsTextBy false c y opened = (s : ℕ) × IsSkipBefore c.shape y s × (opened ≡ text_begun (text_slot (Conv c)) (drop s y))

-- The text under way of a directive that has consumed y: where it stores a text, the bytes of its item so far, which are y past the
-- white space that it skips; of a column, y past the white space at its front.
abbrev pub IsTextUnderWay : Directive → List ℕ → Option Opened → Type 0
IsTextUnderWay (Conv c) y opened = IsTextBy c.column c y opened
IsTextUnderWay _ y opened = opened ≡ None

-- the bytes y bring the directive to a stage, which the phase shows
abbrev pub IsUnderWay : Directive → List ℕ → Phase → Type 0
IsUnderWay d y phase = (q : Stage) × (stepped_all d start.Skipping y ≡ Some q) × Shows d phase q

-- A scanner that waits has come so far with the bytes x: these directives have passed, each with its step, and what they gave is what
-- its store was given. What they left of x the next directive has consumed: it is at the stage, and its text is the one, to which that
-- brings it, and it would consume one byte more.
pub record HasCome (ds : List Directive) (x : List ℕ) (s : Standing) : Type 0 where
  pub before : List Ran
  pub byte : ℕ
  pub is_byte : byte < 256
  pub steps : IsCut ds (x ++ byte ∷ []) (length x) before
  -- whichever byte follows, these have passed
  pub first : (next : ℕ) (other : List Ran) → IsCut ds (x ++ next ∷ []) (length x) other → length before ≤ length other
  pub passed : s.passed ≡ length before
  pub used_are : s.tally.used ≡ length x
  pub assigned_are : s.tally.assigned ≡ count_assigned before
  pub converted_are : s.tally.converted ≡ count_converted before
  pub values_are : s.tally.values ≡ values_stored before
  pub item_is : IsUnderWay steps.cut.directive (drop (bytes_used before) x) s.phase
  pub text_is : IsTextUnderWay steps.cut.directive (drop (bytes_used before) x) s.opened
