-- What a print of words answers and writes, and the texts where it is refused.
use Rattle.std.specs.Prelude.{◌≡◌, ◌≢◌, ◌≤◌, ◌<◌, ℕ, Bool, true, false, List, length, take, Option, Result, Ok, Err}
use Rattle.std.specs.Io.KnownBytes.{Appends}
use Rattle.sf_base.specs.Data.{Datum}
use Rattle.sf_format.specs.declared.unit.Unit.{Unit as PrintUnit}
use Rattle.sf_format.specs.Units.{values_of}
use Rattle.sf_print.specs.declared.fault.PrintFault.{PrintFault}
use Rattle.sf_print.specs.declared.fault.PrintFault.TheVariants as print
use Rattle.sf_print.specs.Printed.{printed, most_bytes}
use Rattle.sf_arguments.specs.declared.argument_fault.ArgumentFault.{ArgumentFault}
use Rattle.sf_arguments.specs.declared.argument_fault.ArgumentFault.TheVariants.{WrongCount, BadEscape, NotInKind, NotOneByte, TooLong}
use Rattle.sf_arguments.specs.declared.argument_fault.ArgumentFault.TheVariants.{Write, Memory}
use Rattle.sf_arguments.specs.Arguments.{ValuesOf, IsLowestFault}
use Rattle.sf_arguments.specs.declared.word_reading.WordReading.{WordReading}

-- ---- what is written

-- What a print of a text answers. The output held the bytes `before`, and now holds `after`; None where the sink
-- doesn't make that known. Where it failed, it took a front of the text, and not all.
abbrev pub Writes : List ℕ → Option (List ℕ) → Option (List ℕ) → Result (Unit {0}) ArgumentFault → Type 0
Writes text before after (Ok _) = (length text ≤ most_bytes) × Appends before after text
Writes text before after (Err TooLong) = most_bytes < length text
Writes text before after (Err Write) =
    (length text ≤ most_bytes) × ((written : ℕ) × (written < length text) × Appends before after (take written text))
Writes text before after (Err Memory) = Unit {0}
Writes text before after (Err _) = ⊥

-- the words stand for values, whose text is printed
abbrev pub Prints : WordReading → List PrintUnit → List (List ℕ) → Option (List ℕ) → Option (List ℕ) → Result (Unit {0}) ArgumentFault
    → Type 0
Prints how units words before after answer = (values : List Datum) × ValuesOf how units words values
    × Writes (printed units values) before after answer

-- what a print of the words answers: the number of the words is refused, or the first word that stands for no value, or they are printed
abbrev pub Answers : WordReading → List PrintUnit → List (List ℕ) → Option (List ℕ) → Option (List ℕ) → Result (Unit {0}) ArgumentFault
    → Type 0
Answers how units words before after (Err (WrongCount expected got)) =
    (expected ≡ length (values_of units)) × (got ≡ length words) × (got ≢ expected)
Answers how units words before after (Err (BadEscape at offset)) = IsLowestFault how units words (BadEscape at offset)
Answers how units words before after (Err (NotInKind at kind)) = IsLowestFault how units words (NotInKind at kind)
Answers how units words before after (Err (NotOneByte at)) = IsLowestFault how units words (NotOneByte at)
Answers how units words before after answer = Prints how units words before after answer

-- where nothing was handed to the sink, it is as before
abbrev pub IsUnwritten : {K : Type 0} → ArgumentFault → K → K → Type 0
IsUnwritten Write out out' = Unit {0}
IsUnwritten _ out out' = out' ≡ out

-- the fault of a print of values that words stand for: no other than these two is reported for them
abbrev pub print_fault : PrintFault → ArgumentFault
print_fault print.TooLong = TooLong
print_fault _ = Write

abbrev pub is_write_fault : Result (Unit {0}) ArgumentFault → Bool
is_write_fault (Err Write) = true
is_write_fault _ = false
