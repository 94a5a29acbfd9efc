-- The printed text of a format and values, and what is refused. (C11 7.21.6.1, paragraphs 2 to 4 and 9)
use Rattle.std.specs.Prelude.{◌≡◌, ◌<◌, take, ℕ, ◌-◌, Bool, true, false, ◌==◌, nat_le, not, if◌then◌else◌, List, [], ◌∷◌, length, slice_get}
use Rattle.std.specs.Prelude.{fold, Option, Some, None, Result, Ok, Err}
use Rattle.std.specs.List.{flat_map}
use Rattle.std.specs.Io.KnownBytes.{Appends}
use Rattle.sf_base.specs.declared.values.Kind.{Kind}
use Rattle.sf_base.specs.declared.values.Kind.TheVariants as kind
use Rattle.sf_base.specs.Data.{Datum}
pub use Rattle.sf_base.specs.Data.{kind_of}
use Rattle.sf_base.specs.Data.Datum.{Bytes}
use Rattle.sf_format.specs.declared.unit.PrintLetter.{PrintLetter}
use Rattle.sf_format.specs.declared.unit.PrintLetter.TheVariants as letter
use Rattle.sf_format.specs.declared.unit.PrintConv.{PrintConv}
use Rattle.sf_format.specs.declared.unit.Unit.{Unit as PrintUnit}
use Rattle.sf_format.specs.declared.unit.Unit.TheVariants as unit
use Rattle.sf_format.specs.Units.{values_of}
use Rattle.sf_print.specs.declared.fault.PrintFault.{PrintFault}
use Rattle.sf_print.specs.declared.fault.PrintFault.TheVariants as fault
use Rattle.sf_print.specs.texts.Text.{value_text}

-- ---- the printed text

-- the value of a slot; slots count from 1
abbrev pub value_at : List Datum → ℕ → Option Datum
value_at values slot = if slot == 0 then None else slice_get values (slot - 1)

-- a literal is printed as it stands, a conversion as the text of its slot's value
abbrev pub text_or_none : PrintConv → Option Datum → List ℕ
text_or_none c None = []
text_or_none c (Some value) = value_text c value

abbrev pub unit_text : List Datum → PrintUnit → List ℕ
unit_text values (unit.Byte b) = b ∷ []
unit_text values (unit.Conv c) = text_or_none c (value_at values c.slot)

-- the texts of the units, joined (paragraph 3)
abbrev pub printed : List PrintUnit → List Datum → List ℕ
printed units values = flat_map (unit_text values) units

-- ---- what is refused

abbrev pub same_kind : Kind → Kind → Bool
same_kind kind.I8 kind.I8 = true
same_kind kind.I16 kind.I16 = true
same_kind kind.I32 kind.I32 = true
same_kind kind.I64 kind.I64 = true
same_kind kind.U8 kind.U8 = true
same_kind kind.U16 kind.U16 = true
same_kind kind.U32 kind.U32 = true
same_kind kind.U64 kind.U64 = true
same_kind kind.Text kind.Text = true
same_kind kind.F32 kind.F32 = true
same_kind kind.F64 kind.F64 = true
same_kind _ _ = false

-- a value of a kind is printed where the other is due: one of that kind, and an f32 where an f64 is due
abbrev pub is_printed_as : Kind → Kind → Bool
is_printed_as kind.F32 kind.F64 = true
is_printed_as k due = same_kind k due

-- c prints one byte
abbrev pub suits : PrintLetter → Datum → Bool
suits letter.One (Bytes bytes) = length bytes == 1
suits _ value = true

-- what is wrong with a value: its kind, or the number of its bytes
abbrev pub value_fault : PrintConv → Datum → Option PrintFault
value_fault c value =
    if not (is_printed_as (kind_of value) c.kind) then Some (fault.WrongKind c.slot) else
    (if not (suits c.letter value) then Some (fault.NotOneByte c.slot) else None)

abbrev pub fault_or_none : PrintConv → Option Datum → Option PrintFault
fault_or_none c None = None
fault_or_none c (Some value) = value_fault c value

abbrev pub unit_fault : List Datum → PrintUnit → Option PrintFault
unit_fault values (unit.Byte b) = None
unit_fault values (unit.Conv c) = fault_or_none c (value_at values c.slot)

-- the slot of a value at fault
abbrev pub slot_of : PrintFault → ℕ
slot_of (fault.WrongKind at) = at
slot_of (fault.NotOneByte at) = at
slot_of _ = 0

-- of two faults the one of the lower slot
abbrev pub lower : Option PrintFault → Option PrintFault → Option PrintFault
lower None g = g
lower (Some f) None = Some f
lower (Some f) (Some g) = if nat_le (slot_of f) (slot_of g) then Some f else Some g

abbrev pub lowest_fault : List PrintUnit → List Datum → Option PrintFault
lowest_fault units values = fold (λ f u. lower f (unit_fault values u)) None units

-- the greatest length of a printed text
abbrev pub most_bytes : ℕ
most_bytes = 2147483647

abbrev pub length_or_fault : Option PrintFault → ℕ → Result ℕ PrintFault
length_or_fault (Some f) len = Err f
length_or_fault None len = if nat_le len most_bytes then Ok len else Err fault.TooLong

-- the length of the printed text, or what is refused: the number of values, then the lowest slot at fault, then the length
abbrev pub measured : List PrintUnit → List Datum → Result ℕ PrintFault
measured units values = if not (length values == length (values_of units)) then Err fault.WrongCount else length_or_fault
    (lowest_fault units values) (length (printed units values))

-- ---- what is written

abbrev pub is_sink_fault : Result ℕ PrintFault → Bool
is_sink_fault (Err (fault.Sink written)) = true
is_sink_fault _ = false

-- the sink took the text whole, whose length is answered; or it failed after its first bytes, and not all, and their number is answered
abbrev pub WritesText : Option (List ℕ) → Option (List ℕ) → List ℕ → Result ℕ PrintFault → Type 0
WritesText old new text (Ok n) = Appends old new text × (n ≡ length text)
WritesText old new text (Err (fault.Sink written)) = Appends old new (take written text) × (written < length text)
WritesText old new text (Err f) = ⊥
