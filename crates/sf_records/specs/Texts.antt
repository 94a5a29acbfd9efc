-- The texts where the records of an input stopped before its end.
use Rattle.std.specs.Prelude.{ℕ, List, ◌++◌, codes}
use Rattle.std.specs.Fmt.{decimal}
use Rattle.sf_run.specs.Wording.{outcome_text}
use Rattle.sf_records.specs.declared.end.ToolFault.{ToolFault}
use Rattle.sf_records.specs.declared.end.ToolFault.TheVariants as fault

abbrev pub tool_fault_text : ToolFault → List ℕ
tool_fault_text (fault.Failed number outcome) = codes "record " ++ (decimal number ++ (codes ": " ++ outcome_text outcome))
tool_fault_text (fault.Stalled number) = codes "record " ++ (decimal number ++ codes ": stalled")
tool_fault_text (fault.Unfit number) = codes "record " ++ (decimal number ++ codes ": values do not fit")
tool_fault_text fault.TooMany = codes "too many records"
tool_fault_text (fault.Read number) = codes "record " ++ (decimal number ++ codes ": read fault")
tool_fault_text fault.Write = codes "write fault"
tool_fault_text fault.Memory = codes "out of memory"
