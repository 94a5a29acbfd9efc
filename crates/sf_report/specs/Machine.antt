-- Each directive as a machine that is handed bytes. proofs/Ones shows that it makes the directive's step.
use Rattle.std.specs.Prelude.{ℕ, zero, suc, Bool, true, false, not, ◌&&◌, nat_eq, if◌then◌else◌, List, [], ◌∷◌, ◌++◌, Option, Some, None}
use Rattle.std.specs.Prelude.{is_some, ℤ, nat_lt, length}
use Rattle.sf_base.specs.Bytes.{is_white}
use Rattle.std.specs.Option.{option_map}
use Rattle.std.specs.Float.Ieee.{binary32, binary64}
use Rattle.sf_base.specs.Data.{Number, Bytes, Real, value_of}
use Rattle.sf_base.specs.declared.real.Real as real
use Rattle.sf_base.specs.declared.real.Real.TheVariants as reals
use Rattle.sf_base.specs.declared.values.Kind.{Kind}
use Rattle.sf_base.specs.declared.values.Kind.TheVariants as kinds
use Rattle.sf_float_read.specs.item.Tests.{is_float}
use Rattle.sf_float_read.specs.value.Computed.{stored_in}
use Rattle.sf_format.specs.declared.directive.Shape.{Shape}
use Rattle.sf_format.specs.declared.directive.Shape.TheVariants.{Int, Text, Set, Chars, Float, Count}
use Rattle.sf_format.specs.declared.directive.Conversion.{Conversion}
use Rattle.sf_format.specs.declared.directive.Directive.{Directive}
use Rattle.sf_format.specs.Leads.{is_strict_lead}
use Rattle.sf_format.specs.declared.directive.Directive.TheVariants.{Space, Byte, Percent, Conv, Opens}
use Rattle.sf_format.specs.declared.directive.Literal.{Literal}
use Rattle.sf_format.specs.declared.directive.Literal.TheVariants as literal
use Rattle.sf_base.specs.Blanks.{are_white}
use Rattle.sf_item.specs.Columns.{column_width}
use Rattle.sf_item.specs.ColumnTests.{column_text, fills}
use Rattle.sf_item.specs.Tests.{integer_at, matches, can_take}
use Rattle.sf_report.specs.declared.outcome.Status.TheVariants.{InputFailure, MatchingFailure, OutOfRange}
use Rattle.sf_report.specs.Steps.{StepEnd, Passes, Stores, Misses, Fails, missed}

-- how far a directive has come: it took white space alone, or its one byte, or the bytes of its item
pub data Stage : Type 0 where
  Skipping : Stage
  Taken : Stage
  Item : List ℕ → Stage

-- ---- one byte more

-- white space is skipped before the item
abbrev pub shape_skips : Shape → Bool
shape_skips (Int numeral) = not (is_strict_lead numeral.lead)
shape_skips (Text lead) = not (is_strict_lead lead)
shape_skips (Set members) = false
shape_skips Chars = false
shape_skips (Float lead) = not (is_strict_lead lead)
shape_skips Count = false

abbrev pub item_stepped : Conversion → List ℕ → ℕ → Option Stage
item_stepped c f b = if can_take c (f ++ b ∷ []) then Some (Item (f ++ b ∷ [])) else None

abbrev pub conversion_stepped : Conversion → Stage → ℕ → Option Stage
conversion_stepped c Skipping b = if shape_skips c.shape && is_white b then Some Skipping else item_stepped c [] b
conversion_stepped c Taken b = None
conversion_stepped c (Item f) b = item_stepped c f b

abbrev pub space_stepped : Stage → ℕ → Option Stage
space_stepped Skipping b = if is_white b then Some Skipping else None
space_stepped Taken b = None
space_stepped (Item f) b = None

abbrev pub byte_stepped : ℕ → Stage → ℕ → Option Stage
byte_stepped a Skipping b = if nat_eq a b then Some Taken else None
byte_stepped a Taken b = None
byte_stepped a (Item f) b = None

abbrev pub percent_stepped : Stage → ℕ → Option Stage
percent_stepped Skipping b = if is_white b then Some Skipping else byte_stepped 37 Skipping b
percent_stepped Taken b = None
percent_stepped (Item f) b = None

abbrev pub literal_stepped : Literal → Stage → ℕ → Option Stage
literal_stepped (literal.Byte a) q b = byte_stepped a q b
literal_stepped literal.Percent q b = percent_stepped q b

-- ---- columns: the stage Item has all bytes of the column so far

abbrev pub column_taken : Conversion → List ℕ → ℕ → Option Stage
column_taken c f b = if nat_lt (length f) (column_width c) then Some (Item (f ++ b ∷ [])) else None

abbrev pub column_stepped : Conversion → Stage → ℕ → Option Stage
column_stepped c Skipping b = column_taken c [] b
column_stepped c Taken b = None
column_stepped c (Item f) b = column_taken c f b

-- by whether it has =
abbrev pub stepped_by : Bool → Conversion → Stage → ℕ → Option Stage
stepped_by true c q b = column_stepped c q b
stepped_by false c q b = conversion_stepped c q b

-- the stage with the byte b, where that is taken
abbrev pub stepped : Directive → Stage → ℕ → Option Stage
stepped Space q b = space_stepped q b
stepped (Byte a) q b = byte_stepped a q b
stepped Percent q b = percent_stepped q b
stepped (Conv c) q b = stepped_by c.column c q b
stepped (Opens o) q b = literal_stepped o.literal q b

-- some number below n passes the test
abbrev pub some_below : ℕ → (ℕ → Bool) → Bool
some_below zero test = false
some_below (suc n) test = if test n then true else some_below n test

-- no byte would be taken
unfoldable pub is_full : Directive → Stage → Bool
is_full d q = not (some_below 256 (λ b. is_some (stepped d q b)))

-- ---- the end

abbrev pub number_end : Conversion → ℕ → Option ℤ → StepEnd
number_end c slot None = Fails OutOfRange
number_end c slot (Some v) = Stores slot (Number c.kind v)

abbrev pub count_end : Conversion → Option ℕ → ℕ → StepEnd
count_end c None n = Passes
count_end c (Some slot) n = number_end c slot (value_of c.kind false n)

abbrev pub integer_end : Conversion → ℕ → Option (Bool × ℕ) → StepEnd
integer_end c slot None = Passes
integer_end c slot (Some i) = number_end c slot (value_of c.kind i.0 i.1)

-- the float of the kind that a matching sequence gives, where that is in range
abbrev pub real_in : Kind → List ℕ → Option real.Real
real_in kinds.F32 item = option_map reals.F32 (stored_in binary32 item)
real_in kinds.F64 item = option_map reals.F64 (stored_in binary64 item)
real_in _ item = None

-- the same of any text
abbrev pub real_at : Kind → List ℕ → Option real.Real
real_at kind item = if is_float item then real_in kind item else None

abbrev pub real_end : ℕ → Option real.Real → StepEnd
real_end slot None = Fails OutOfRange
real_end slot (Some r) = Stores slot (Real r)

abbrev pub stored_end : Conversion → ℕ → Shape → List ℕ → StepEnd
stored_end c slot (Int numeral) item = integer_end c slot (integer_at numeral item)
stored_end c slot (Float lead) item = real_end slot (real_at c.kind item)
stored_end c slot _ item = Stores slot (Bytes item)

abbrev pub passed_end : Conversion → Option ℕ → List ℕ → StepEnd
passed_end c None item = Passes
passed_end c (Some slot) item = stored_end c slot c.shape item

-- a conversion whose item has these bytes, one at least
abbrev pub item_end : Conversion → List ℕ → StepEnd
item_end c item = if matches c item then passed_end c c.slot item else Fails MatchingFailure

-- nothing was taken; more: a byte follows
abbrev pub nothing_end : Bool → StepEnd
nothing_end more = Fails (if more then MatchingFailure else InputFailure)

-- no byte of an item was taken
abbrev pub empty_end : Conversion → Bool → StepEnd
empty_end c more = if c.optional then Misses else nothing_end more

abbrev pub byte_finished : Stage → Bool → StepEnd
byte_finished Skipping more = nothing_end more
byte_finished Taken more = Passes
byte_finished (Item f) more = Fails MatchingFailure

abbrev pub item_finished : Conversion → Stage → Bool → StepEnd
item_finished c Skipping more = empty_end c more
item_finished c Taken more = Fails MatchingFailure
item_finished c (Item f) more = item_end c f

abbrev pub conversion_finished : Conversion → Shape → Stage → ℕ → Bool → StepEnd
conversion_finished c Count q n more = count_end c c.slot n
conversion_finished c _ q n more = item_finished c q more

-- a column that has the text t
abbrev pub text_end : Conversion → List ℕ → StepEnd
text_end c t = if fills c t then passed_end c c.slot t else Fails MatchingFailure

-- a column with these bytes, one at least; one that is white space alone ends as if a byte stood there that begins no item
abbrev pub column_end : Conversion → List ℕ → StepEnd
column_end c f = if are_white f then empty_end c true else text_end c (column_text c f)

abbrev pub column_finished : Conversion → Stage → Bool → StepEnd
column_finished c Skipping more = empty_end c more
column_finished c Taken more = Fails MatchingFailure
column_finished c (Item f) more = column_end c f

-- by whether it has =
abbrev pub finished_by : Bool → Conversion → Stage → ℕ → Bool → StepEnd
finished_by true c q n more = column_finished c q more
finished_by false c q n more = conversion_finished c c.shape q n more

-- how the directive ends after n bytes of the run; more: a byte follows, which was not taken
abbrev pub finished : Directive → Stage → ℕ → Bool → StepEnd
finished Space q n more = Passes
finished (Byte a) q n more = byte_finished q more
finished Percent q n more = byte_finished q more
finished (Conv c) q n more = finished_by c.column c q n more
finished (Opens o) q n more = missed (byte_finished q more)
