-- The words after a print format: the word at each place stands for the value of the slot with that number.
use Rattle.std.specs.Prelude.{◌≡◌, ◌≢◌, ◌⊎◌, ℕ, ◌+◌, ◌<◌, ◌==◌, List, length, find, slice_get, Option, Some, None}
use Rattle.std.specs.List.{filter_map}
use Rattle.sf_base.specs.Data.{Datum}
use Rattle.sf_format.specs.declared.unit.PrintLetter.{PrintLetter}
use Rattle.sf_format.specs.declared.unit.PrintLetter.TheVariants as letter
use Rattle.sf_format.specs.declared.unit.PrintConv.{PrintConv}
use Rattle.sf_format.specs.declared.unit.Unit.{Unit as PrintUnit}
use Rattle.sf_format.specs.declared.unit.Unit.TheVariants as unit
use Rattle.sf_format.specs.Units.{values_of}
use Rattle.sf_arguments.specs.declared.argument_fault.ArgumentFault.{ArgumentFault}
use Rattle.sf_arguments.specs.declared.argument_fault.ArgumentFault.TheVariants.{BadEscape, NotInKind, NotOneByte}
use Rattle.sf_arguments.specs.Readings.{IsUnread, Reads}
use Rattle.sf_arguments.specs.declared.word_reading.WordReading.{WordReading}
use Rattle.sf_arguments.specs.Words.{IsFloatOf, IsNumberOf, IsReading, StandsFor}

-- ---- words that stand for values

abbrev pub conv_in : PrintUnit → Option PrintConv
conv_in (unit.Byte b) = None
conv_in (unit.Conv c) = Some c

-- the conversion that prints the value of the slot
abbrev pub conv_at : List PrintUnit → ℕ → Option PrintConv
conv_at units slot = find (λ c. c.slot == slot) (filter_map conv_in units)

-- the word stands for the value, as the conversion of the slot prints it
abbrev pub StandsAt : WordReading → List PrintUnit → ℕ → List ℕ → Datum → Type 0
StandsAt how units slot word value = (c : PrintConv) × (conv_at units slot ≡ Some c) × StandsFor how c.letter c.kind word value

-- the words are as many as the format has values, and stand for these, one by one
pub record ValuesOf (how : WordReading) (units : List PrintUnit) (words : List (List ℕ)) (values : List Datum) : Type 0 where
  pub count : length words ≡ length (values_of units)
  pub same : length values ≡ length words
  pub each : (k : ℕ) (word : List ℕ) → slice_get words k ≡ Some word
      → (value : Datum) × (slice_get values k ≡ Some value) × StandsAt how units (k + 1) word value

-- the words at the first places stand for values, so many
abbrev pub AllStand : WordReading → List PrintUnit → List (List ℕ) → ℕ → Type 0
AllStand how units words count = (k : ℕ) (word : List ℕ) → k < count → slice_get words k ≡ Some word
    → (value : Datum) × StandsAt how units (k + 1) word value

-- the bytes of the word of a slot whose value is a text
abbrev pub IsTextAt : WordReading → List PrintUnit → ℕ → List ℕ → List ℕ → Type 0
IsTextAt how units slot word text = (c : PrintConv) × (conv_at units slot ≡ Some c) × IsReading how c.letter word text

-- the words' bytes, one by one
pub record TextsOf (how : WordReading) (units : List PrintUnit) (words texts : List (List ℕ)) : Type 0 where
  pub same : length texts ≡ length words
  pub each : (k : ℕ) (word : List ℕ) → slice_get words k ≡ Some word
      → (text : List ℕ) × (slice_get texts k ≡ Some text) × IsTextAt how units (k + 1) word text

-- ---- words that don't

-- a text with a bad escape
abbrev pub IsBadText : WordReading → PrintConv → List ℕ → ArgumentFault → Type 0
IsBadText how c word fault = (offset : ℕ) × IsUnread how word offset × (fault ≡ BadEscape c.slot offset)

-- more bytes than one, or none
abbrev pub IsNotOne : WordReading → PrintConv → List ℕ → ArgumentFault → Type 0
IsNotOne how c word fault = (bytes : List ℕ) × Reads how word bytes × (length bytes ≢ 1) × (fault ≡ NotOneByte c.slot)

-- no number of the kind
abbrev pub IsNoNumber : PrintConv → List ℕ → ArgumentFault → Type 0
IsNoNumber c word fault = ((value : Datum) → IsNumberOf c.kind word value → ⊥) × (fault ≡ NotInKind c.slot c.kind)

-- no float, or none that is in range
abbrev pub IsNoFloat : PrintConv → List ℕ → ArgumentFault → Type 0
IsNoFloat c word fault = ((value : Datum) → IsFloatOf word value → ⊥) × (fault ≡ NotInKind c.slot c.kind)

-- why a word stands for no value that the letter prints: the first bad escape of a text comes before its length
abbrev pub IsRefusedBy : WordReading → PrintLetter → PrintConv → List ℕ → ArgumentFault → Type 0
IsRefusedBy how letter.Text c word fault = IsBadText how c word fault
IsRefusedBy how letter.One c word fault = IsBadText how c word fault ⊎ IsNotOne how c word fault
IsRefusedBy how (letter.Float style upper) c word fault = IsNoFloat c word fault
IsRefusedBy how _ c word fault = IsNoNumber c word fault

-- the word stands for no value of the conversion of the slot, and is refused so
abbrev pub IsAtFault : WordReading → List PrintUnit → ℕ → List ℕ → ArgumentFault → Type 0
IsAtFault how units slot word fault = (c : PrintConv) × (conv_at units slot ≡ Some c) × IsRefusedBy how c.letter c word fault

-- the words are as many as the format has values, and the fault is that of the first that stands for none
pub record IsLowestFault (how : WordReading) (units : List PrintUnit) (words : List (List ℕ)) (fault : ArgumentFault) : Type 0 where
  pub count : length words ≡ length (values_of units)
  pub place : ℕ
  pub word : List ℕ
  pub is_word : slice_get words place ≡ Some word
  pub at_fault : IsAtFault how units (place + 1) word fault
  pub before : AllStand how units words place
