-- What is known of a value whose text is read back.
use Rattle.std.proofs.Common.{◌≡◌, ◌<◌, ◌⊎◌, ℕ, Bool, true, false, cond, List, ◌++◌, length, refl}
use Rattle.std.specs.Prelude.{not}
use Rattle.sf_base.specs.Data.{Datum}
use Rattle.sf_format.specs.declared.directive.Conversion.{Conversion}
use Rattle.sf_format.specs.declared.unit.PrintConv.{PrintConv}
use Rattle.sf_print.specs.texts.Text.{value_text, blanks}
use Rattle.sf_report.specs.Steps.{Stores}
use Rattle.sf_report.specs.Machine.{shape_skips, passed_end, column_end}
use Rattle.sf_pair.specs.conversions.Neighbours.{stop_set, first_by_letter, column_first, first_read}
use Rattle.sf_pair.specs.Groups.{is_number, width_of, always_full}
use Rattle.sf_pair.proofs.ConversionLemmas.Bodies.{StartsInk, FirstByte}
use Rattle.sf_pair.proofs.ConversionLemmas.Firsts.{FirstIn}
use Rattle.sf_pair.proofs.Taken.{Takes, FirstOut}

-- the white space before an item, where its shape skips it, is that of the padding
abbrev pub SkipsSo : Bool → ℕ → List ℕ → Type 0
SkipsSo true before item = StartsInk item
SkipsSo false before item = before ≡ 0

-- of a strict conversion none stands there
pub skips_by : (strict : Bool) (before : ℕ) (item : List ℕ) → StartsInk item → (strict ≡ true → before ≡ 0)
    → SkipsSo (not strict) before item
skips_by true before item ink none = none refl
skips_by false before item ink none = ink

-- how a value's text is read back
pub record ReadsBack (c : PrintConv) (s : Conversion) (v : Datum) : Type 0 where
  pub before : ℕ
  pub item : List ℕ
  pub text_is : value_text c v ≡ blanks before ++ item
  pub skips : SkipsSo (shape_skips s.shape) before item
  pub ink : is_number s.shape ≡ true → StartsInk item
  pub takes : (rest : List ℕ) → (always_full c s ≡ true) ⊎ FirstOut (stop_set s.shape c) rest → Takes s item rest
  pub stored : passed_end s s.slot item ≡ Stores c.slot v
  pub first : FirstIn (first_by_letter c.letter c s.shape) (value_text c v)
  pub first_byte : FirstByte (value_text c v)

-- how one is read back from a column
pub record ReadsColumn (c : PrintConv) (s : Conversion) (v : Datum) : Type 0 where
  pub full : length (value_text c v) ≡ width_of s
  pub some : 0 < length (value_text c v)
  pub ends : column_end s (value_text c v) ≡ Stores c.slot v
  pub first : FirstIn (column_first c s.shape) (value_text c v)
  pub first_byte : FirstByte (value_text c v)

-- either
abbrev pub Back : Bool → PrintConv → Conversion → Datum → Type 0
Back true c s v = ReadsColumn c s v
Back false c s v = ReadsBack c s v

-- its first byte
pub back_first : (c : PrintConv) (s : Conversion) (v : Datum) → Back s.column c s v
    → FirstIn (first_read c s) (value_text c v) × FirstByte (value_text c v)
back_first c s v back = by s.column back
  where
    by : (t : Bool) → Back t c s v
        → FirstIn (cond t (column_first c s.shape) (first_by_letter c.letter c s.shape)) (value_text c v) × FirstByte (value_text c v)
    by true b = (b.first, b.first_byte)
    by false b = (b.first, b.first_byte)
