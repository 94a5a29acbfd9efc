-- What is said where a loop over records stopped before the end of its input.
use Rattle.std.specs.Prelude.{ℕ, List, ◌++◌, codes}
use Rattle.std.specs.Fmt.{decimal}
use Rattle.sf_run.specs.Wording.{outcome_text}
use Rattle.sf_loops.specs.declared.fault.RecordFault.{RecordFault}
use Rattle.sf_loops.specs.declared.fault.RecordWhy.{RecordWhy}
use Rattle.sf_loops.specs.declared.fault.RecordWhy.TheVariants as why

abbrev pub why_text : RecordWhy → List ℕ
why_text (why.Failed outcome) = outcome_text outcome
why_text why.Stalled = codes "no byte was used"
why_text why.Read = codes "read fault"
why_text why.NoMemory = codes "out of memory"

abbrev pub fault_text : RecordFault → List ℕ
fault_text fault = codes "record " ++ (decimal fault.number ++ (codes ", line " ++
    (decimal fault.line ++ (codes ": " ++ why_text fault.why))))
