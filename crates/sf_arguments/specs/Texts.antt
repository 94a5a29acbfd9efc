-- The texts for words that are not resolved or not printed, and the exit status then.
use Rattle.std.specs.Prelude.{ℕ, List, ◌++◌, codes}
use Rattle.std.specs.Fmt.{decimal}
use Rattle.sf_arguments.specs.Names.{kind_text}
use Rattle.sf_arguments.specs.declared.argument_fault.ArgumentFault.{ArgumentFault}
use Rattle.sf_arguments.specs.declared.argument_fault.ArgumentFault.TheVariants as argument
use Rattle.sf_arguments.specs.declared.escape.EscapeFault.{EscapeFault}
use Rattle.sf_arguments.specs.declared.escape.EscapeFault.TheVariants as escape

-- why a word's escapes are not resolved
abbrev pub escape_fault_text : EscapeFault → List ℕ
escape_fault_text (escape.Bad at) = codes "bad escape at " ++ decimal at
escape_fault_text escape.Memory = codes "out of memory"

-- the line of words that are not printed, without its newline
abbrev pub argument_fault_text : ArgumentFault → List ℕ
argument_fault_text (argument.WrongCount expected got) = codes "sf: expected " ++
    (decimal expected ++ (codes " values, got " ++ decimal got))
argument_fault_text (argument.BadEscape at offset) = codes "sf: value " ++ (decimal at ++ (codes ": bad escape at " ++ decimal offset))
argument_fault_text (argument.NotInKind at kind) = codes "sf: value " ++ (decimal at ++ (codes ": expected " ++ kind_text kind))
argument_fault_text (argument.NotOneByte at) = codes "sf: value " ++ (decimal at ++ codes ": expected one byte")
argument_fault_text argument.TooLong = codes "sf: text too long"
argument_fault_text argument.Write = codes "sf: write fault"
argument_fault_text argument.Memory = codes "sf: out of memory"

-- their exit status
abbrev pub argument_status : ArgumentFault → ℕ
argument_status argument.Write = 3
argument_status argument.Memory = 4
argument_status _ = 2
