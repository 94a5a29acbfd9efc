-- What a print of words answers, by what its calls answer.
use Rattle.std.proofs.Common.{◌≡◌, ℕ, ◌<◌, ◌≤◌, Bool, true, false, cond, not, ◌==◌, nat_le, List, length, map, Option, None, Result, Ok}
use Rattle.std.proofs.Common.{Err, IfErr, OnOk, inl, inr, arith, refl, sym, ap, subst, ◌∙◌}
use Rattle.std.proofs.lemmas.Bool.Decides.{nat_tests}
use Rattle.sf_base.specs.Data.{Datum, datum_of}
use Rattle.sf_base.specs.declared.values.Value.{Value}
use Rattle.sf_format.specs.declared.unit.PrintLetter.{PrintLetter}
use Rattle.sf_format.specs.declared.unit.PrintLetter.TheVariants as letter
use Rattle.sf_format.specs.declared.unit.PrintConv.{PrintConv}
use Rattle.sf_format.specs.declared.unit.Unit.{Unit as PrintUnit}
use Rattle.sf_format.specs.Slots.{AreSlots}
use Rattle.sf_format.specs.Units.{AreProperUnits, values_of}
use Rattle.sf_format.proofs.Outcomes.{by_test}
use Rattle.sf_print.specs.declared.fault.PrintFault.{PrintFault}
use Rattle.sf_print.specs.declared.fault.PrintFault.TheVariants as print
use Rattle.sf_print.specs.Printed.{printed, measured, lowest_fault, length_or_fault, most_bytes, is_sink_fault, WritesText}
use Rattle.sf_arguments.specs.declared.argument_fault.ArgumentFault.{ArgumentFault}
use Rattle.sf_arguments.specs.declared.argument_fault.ArgumentFault.TheVariants.{WrongCount, BadEscape, NotInKind, NotOneByte, TooLong}
use Rattle.sf_arguments.specs.declared.argument_fault.ArgumentFault.TheVariants.{Write, Memory}
use Rattle.sf_arguments.specs.Arguments.{AllStand, IsLowestFault, IsRefusedBy, ValuesOf}
use Rattle.sf_arguments.proofs.Places.{values_are}
use Rattle.sf_arguments.specs.Prints.{Answers, Writes, IsUnwritten, is_write_fault, print_fault}
use Rattle.sf_arguments.proofs.Suiting.{no_fault}
use Rattle.sf_arguments.specs.declared.word_reading.WordReading.{WordReading}

-- ---- a word at fault

abbrev is_of_word : ArgumentFault → Bool
is_of_word (BadEscape at offset) = true
is_of_word (NotInKind at kind) = true
is_of_word (NotOneByte at) = true
is_of_word _ = false

of_word_by : (how : WordReading) (l : PrintLetter) (c : PrintConv) (word : List ℕ) (fault : ArgumentFault) → IsRefusedBy how l c word fault
    → is_of_word fault ≡ true
of_word_by how letter.Signed c word fault (none, is) = ap is_of_word is
of_word_by how letter.Unsigned c word fault (none, is) = ap is_of_word is
of_word_by how letter.Octal c word fault (none, is) = ap is_of_word is
of_word_by how letter.HexLower c word fault (none, is) = ap is_of_word is
of_word_by how letter.HexUpper c word fault (none, is) = ap is_of_word is
of_word_by how letter.Binary c word fault (none, is) = ap is_of_word is
of_word_by how (letter.Float style upper) c word fault (none, is) = ap is_of_word is
of_word_by how letter.Text c word fault (at, bad, is) = ap is_of_word is
of_word_by how letter.One c word fault (inl (at, bad, is)) = ap is_of_word is
of_word_by how letter.One c word fault (inr (bytes, good, other, is)) = ap is_of_word is

module _ (how : WordReading) (units : List PrintUnit) (words : List (List ℕ)) where
  of_word : (fault : ArgumentFault) → IsLowestFault how units words fault → is_of_word fault ≡ true
  of_word fault lowest = let c = lowest.at_fault.0 in of_word_by how c.letter c lowest.word fault lowest.at_fault.2

  pub lowest_answers : (before after : Option (List ℕ)) (fault : ArgumentFault) → IsLowestFault how units words fault
      → Answers how units words before after (Err fault)
  lowest_answers before after (BadEscape at offset) lowest = lowest
  lowest_answers before after (NotInKind at kind) lowest = lowest
  lowest_answers before after (NotOneByte at) lowest = lowest
  lowest_answers before after (WrongCount e g) lowest = absurd (let e = of_word (WrongCount e g) lowest in cc)
  lowest_answers before after TooLong lowest = absurd (let e = of_word TooLong lowest in cc)
  lowest_answers before after Write lowest = absurd (let e = of_word Write lowest in cc)
  lowest_answers before after Memory lowest = absurd (let e = of_word Memory lowest in cc)

pub unwritten_same : {K : Type 0} (fault : ArgumentFault) (out : K) → IsUnwritten fault out out
unwritten_same (WrongCount e g) out = refl
unwritten_same (BadEscape at offset) out = refl
unwritten_same (NotInKind at kind) out = refl
unwritten_same (NotOneByte at) out = refl
unwritten_same TooLong out = refl
unwritten_same Write out = tt
unwritten_same Memory out = refl

-- ---- what the writer answers

-- the answer of fprint, as that of the command
abbrev pub answer_by : Result ℕ PrintFault → Result (Unit {0}) ArgumentFault
answer_by (Ok n) = Ok tt
answer_by (Err fault) = Err (print_fault fault)

measured_is : (units : List PrintUnit) (values : List Datum) → length values ≡ length (values_of units) → lowest_fault units values ≡ None
    → measured units values ≡ length_or_fault None (length (printed units values))
measured_is units values count none =
    let same : (length values == length (values_of units)) ≡ true = grind (arith, nat_tests) in
    ap (λ t. cond (not t) (Err print.WrongCount) (length_or_fault (lowest_fault units values) (length (printed units values)))) same
    ∙ ap (λ f. length_or_fault f (length (printed units values))) none

-- what the answer of the writer says of the command's
pub record Told {K : Type 0} (contents : K → Option (List ℕ)) (text : List ℕ) (to to' : K) (r : Result ℕ PrintFault) : Type 0 where
  pub writes : Writes text (contents to) (contents to') (answer_by r)
  pub unwritten : IfErr (answer_by r) (λ fault. IsUnwritten fault to to')
  pub failures : is_write_fault (answer_by r) ≡ is_sink_fault r

module _ {K : Type 0} (contents : K → Option (List ℕ)) (text : List ℕ) (to to' : K) where
  told_long : (r : Result ℕ PrintFault) → most_bytes < length text → (r ≡ Err print.TooLong) × (to' ≡ to) → Told contents text to to' r
  told_long r long (is, same) = rw is (record { writes = long; unwritten = same; failures = refl })

  told_written : (r : Result ℕ PrintFault) → length text ≤ most_bytes → WritesText (contents to) (contents to') text r
      → Told contents text to to' r
  told_written (Ok n) short h = record { writes = (short, h.0); unwritten = tt; failures = refl }
  told_written (Err (print.Sink written)) short h = record { writes = (short, (written, h.1, h.0)); unwritten = tt; failures = refl }
  told_written (Err print.WrongCount) short h = absurd h
  told_written (Err (print.WrongKind at)) short h = absurd h
  told_written (Err (print.NotOneByte at)) short h = absurd h
  told_written (Err print.TooLong) short h = absurd h

  told_by : (m : Result ℕ PrintFault) (r : Result ℕ PrintFault) → m ≡ length_or_fault None (length text)
      → IfErr m (λ f. (r ≡ Err f) × (to' ≡ to))
      → OnOk m (WritesText (contents to) (contents to') text r) → Told contents text to to' r
  told_by m r is refused written =
      by_test (nat_le (length text) most_bytes)
      (λ t. m ≡ cond t (Ok (length text)) (Err print.TooLong) → Told contents text to to' r)
      (λ short e. told_written r (let le : length text ≤ most_bytes = grind (arith, nat_tests) in le)
      (subst (λ (a : Result ℕ PrintFault). OnOk a (WritesText (contents to) (contents to') text r)) e written))
      (λ long e. told_long r (let lt : most_bytes < length text = grind (arith, nat_tests) in lt)
      (subst (λ (a : Result ℕ PrintFault). IfErr a (λ f. (r ≡ Err f) × (to' ≡ to))) e refused)) is

-- the writer's answer to the values of words
pub told_is : {K : Type 0} (how : WordReading) (contents : K → Option (List ℕ)) (units : List PrintUnit) (words : List (List ℕ))
    (values : List Datum)
    (to to' : K) (r : Result ℕ PrintFault)
    → AreProperUnits units → AreSlots (values_of units) → ValuesOf how units words values
    → IfErr (measured units values) (λ f. (r ≡ Err f) × (to' ≡ to))
    → OnOk (measured units values) (WritesText (contents to) (contents to') (printed units values) r)
    → Told contents (printed units values) to to' r
told_is how contents units words values to to' r proper slots of refused written =
    told_by contents (printed units values) to to' (measured units values) r
    (measured_is units values (of.same ∙ of.count) (no_fault how units words values slots of proper)) refused written

-- a refusal of the writer is the command's
pub printed_answers : (how : WordReading) (units : List PrintUnit) (words : List (List ℕ)) (values : List Datum)
    (before after : Option (List ℕ))
    (fault : PrintFault) → ValuesOf how units words values
    → Writes (printed units values) before after (Err (print_fault fault)) → Answers how units words before after (Err (print_fault fault))
printed_answers how units words values before after print.TooLong of writes = (values, of, writes)
printed_answers how units words values before after print.WrongCount of writes = (values, of, writes)
printed_answers how units words values before after (print.WrongKind at) of writes = (values, of, writes)
printed_answers how units words values before after (print.NotOneByte at) of writes = (values, of, writes)
printed_answers how units words values before after (print.Sink written) of writes = (values, of, writes)

-- want of memory is told of words that stand for values
pub memory_answers : (how : WordReading) (units : List PrintUnit) (words : List (List ℕ)) (held : Option (List ℕ))
    → length words ≡ length (values_of units)
    → AllStand how units words (length words)
    → Answers how units words held held (Err Memory)
memory_answers how units words held count all = let v = values_are how units words count all in (v.0, v.1, tt)

pub memory_is : (how : WordReading) (format units : List PrintUnit) (words : List (List ℕ)) (held : Option (List ℕ)) (n : ℕ)
    (r : Result (Unit {0}) ArgumentFault) → r ≡ Err Memory → units ≡ format → length words ≡ n
    → AllStand how units words n → length words ≡ length (values_of format) → Answers how format words held held r
memory_is how format units words held n r is same many all count =
    rw is (memory_answers how format words held count (subst (λ (us : List PrintUnit). AllStand how us words (length words)) same
    (subst (AllStand how units words) (sym many) all)))

-- what a refusal of the writer says of the command's answer
pub record Refused {K : Type 0} (how : WordReading) (contents : K → Option (List ℕ)) (units : List PrintUnit) (words : List (List ℕ))
    (out out' : K)
    (fault : PrintFault) : Type 0 where
  pub answer : Answers how units words (contents out) (contents out') (Err (print_fault fault))
  pub failures : is_write_fault (Err (print_fault fault)) ≡ is_sink_fault (Err fault)

abbrev refusal : PrintFault → Result ℕ PrintFault
refusal fault = Err fault

-- the units are those of the format, the values those that were made of the words
pub refused_is : {K : Type 0} (how : WordReading) (contents : K → Option (List ℕ)) (format units : List PrintUnit) (words : List (List ℕ))
    (made values : List Value) (out out' : K) (fault : PrintFault)
    → units ≡ format → values ≡ made → AreProperUnits units → AreSlots (values_of units) → ValuesOf how units words (map datum_of made)
    → IfErr (measured format (map datum_of values)) (λ f. (refusal fault ≡ Err f) × (out' ≡ out))
    → OnOk (measured format (map datum_of values)) (WritesText (contents out) (contents out') (printed format (map datum_of values))
    (Err fault))
    → Refused how contents format words out out' fault
refused_is how contents format units words made values out out' fault same shown proper slots of refused written =
    let all : ValuesOf how format words (map datum_of values) =
    subst (λ (us : List PrintUnit). ValuesOf how us words (map datum_of values)) same
    (subst (λ (vs : List Value). ValuesOf how units words (map datum_of vs)) (sym shown) of) in
    let told = told_is how contents format words (map datum_of values) out out' (Err fault) (subst AreProperUnits same proper)
    (subst (λ (us : List PrintUnit). AreSlots (values_of us)) same slots) all refused written in
    record {
      answer = printed_answers how format words (map datum_of values) (contents out) (contents out') fault all told.writes;
      failures =
          told.failures;
    }
