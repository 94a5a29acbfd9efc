-- Laws of the words that a print is given.
use Rattle.std.specs.Prelude.{◌≡◌, ℕ, List, ◌≢◌, length, Option, Result, Err}
use Rattle.sf_base.specs.Data.{Datum}
use Rattle.sf_base.specs.declared.values.Kind.{Kind}
use Rattle.sf_format.specs.declared.unit.PrintLetter.{PrintLetter}
use Rattle.sf_format.specs.declared.unit.Unit.{Unit as PrintUnit}
use Rattle.sf_format.specs.Units.{values_of}
use Rattle.sf_arguments.specs.declared.argument_fault.ArgumentFault.{ArgumentFault}
use Rattle.sf_arguments.specs.declared.argument_fault.ArgumentFault.TheVariants.{WrongCount}
use Rattle.sf_arguments.specs.Words.{StandsFor}
use Rattle.sf_arguments.specs.declared.word_reading.WordReading.{WordReading}
use Rattle.sf_arguments.specs.Arguments.{ValuesOf, IsLowestFault}
use Rattle.sf_arguments.specs.Prints.{Answers}

-- a word stands for at most one value
abbrev pub OneValue : Type 0
OneValue = (how : WordReading) (letter : PrintLetter) (kind : Kind) (word : List ℕ) (a b : Datum) → StandsFor how letter kind word a
    → StandsFor how letter kind word b
    → a ≡ b

-- words stand for at most one list of values
abbrev pub OneList : Type 0
OneList = (how : WordReading) (units : List PrintUnit) (words : List (List ℕ)) (values others : List Datum)
    → ValuesOf how units words values
    → ValuesOf how units words others → values ≡ others

-- where there are not as many words as values, the answer is that
abbrev pub CountIsTold : Type 0
CountIsTold = (how : WordReading) (units : List PrintUnit) (words : List (List ℕ)) (before after : Option (List ℕ))
    (answer : Result (Unit {0}) ArgumentFault)
    → length words ≢ length (values_of units) → Answers how units words before after answer
    → answer ≡ Err (WrongCount (length (values_of units)) (length words))

-- else where a word stands for no value, the answer is the fault of the first such
abbrev pub FirstIsTold : Type 0
FirstIsTold = (how : WordReading) (units : List PrintUnit) (words : List (List ℕ)) (before after : Option (List ℕ))
    (answer : Result (Unit {0}) ArgumentFault)
    (fault : ArgumentFault)
    → IsLowestFault how units words fault → Answers how units words before after answer → answer ≡ Err fault
