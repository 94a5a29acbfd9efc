-- Values in C's memory: a cell for each slot, and the bytes of the texts, to which the cells of texts point.
use Rattle.std.specs.Prelude.{◌≡◌, ◌≤◌, ◌+◌, ℕ, zero, suc, ℤ, List, [], ◌∷◌, ◌++◌, length, take, drop, Option, Some, None}
use Rattle.std.specs.Int.{cast_unsigned, w64}
use Rattle.sf_base.specs.declared.real.Real.{Real as Pattern}
use Rattle.sf_base.specs.declared.real.Real.TheVariants.{F32, F64}
use Rattle.sf_base.specs.declared.values.Kind.{Kind}
use Rattle.sf_base.specs.Data.{Datum, Number, Bytes, Real, Assigned, datum_at, kind_of_real}
use Rattle.sf_base.specs.stores.Kept.{text_in}
use Rattle.sf_format.specs.declared.directive.Directive.{Directive}
use Rattle.sf_format.specs.Proper.{destinations_of, kind_at}
use Rattle.sf_c.specs.declared.values.SfValue.{SfValue}
use Rattle.sf_c.specs.Numbers.{kind_number, slot_number}

-- a number in 64 bits, in two's complement (C11 6.2.6.2p2)
abbrev pub bits_of : ℤ → ℕ
bits_of n = cast_unsigned w64 n

-- the pattern of a float, as a number
abbrev pub pattern_of : Pattern → ℕ
pattern_of (F32 bits) = bits
pattern_of (F64 bits) = bits

-- the cell has a number of this kind, which has these bits
pub record HasBits (kind : Kind) (bits : ℕ) (cell : SfValue) : Type 0 where
  pub kind_is : cell.kind ≡ kind_number kind
  pub bits_are : cell.bits ≡ bits

-- the cell points to this text, among the bytes of the texts
pub record HasText (texts text : List ℕ) (cell : SfValue) : Type 0 where
  pub kind_is : cell.kind ≡ 9
  pub len_is : cell.len ≡ length text
  pub within : cell.bits + cell.len ≤ length texts
  pub there : take cell.len (drop cell.bits texts) ≡ text

abbrev pub Has : List ℕ → Datum → SfValue → Type 0
Has texts (Number kind n) cell = HasBits kind (bits_of n) cell
Has texts (Bytes text) cell = HasText texts text cell
Has texts (Real real) cell = HasBits (kind_of_real real) (pattern_of real) cell

-- what a slot was given; nothing, where its item is missing or the run failed before it
abbrev pub Holds : List ℕ → Option Datum → SfValue → Type 0
Holds texts None cell = cell.kind ≡ 0
Holds texts (Some datum) cell = Has texts datum cell

-- the cell of a slot of this kind
pub record IsCell (texts : List ℕ) (kind : Option Kind) (given : Option Datum) (cell : SfValue) : Type 0 where
  pub slot_is : cell.slot ≡ slot_number kind
  pub holds : Holds texts given cell

-- the cells of the slots from this one on
abbrev pub AreCells : List ℕ → List Directive → List Assigned → ℕ → List SfValue → Type 0
AreCells texts ds values slot [] = Unit {0}
AreCells texts ds values slot (cell ∷ cells) =
    IsCell texts (kind_at slot ds) (datum_at slot values) cell × AreCells texts ds values (slot + 1) cells

-- a cell for each slot of the format, from 1 on
pub record IsRow (texts : List ℕ) (ds : List Directive) (values : List Assigned) (row : List SfValue) : Type 0 where
  pub count : length row ≡ length (destinations_of ds)
  pub cells : AreCells texts ds values 1 row

-- ---- how many bytes the texts have

abbrev pub text_given : Option Datum → List ℕ
text_given None = []
text_given (Some datum) = text_in datum

-- the texts of the slots from 1 to n, joined
abbrev pub texts_to : ℕ → List Assigned → List ℕ
texts_to zero values = []
texts_to (suc n) values = texts_to n values ++ text_given (datum_at (suc n) values)
