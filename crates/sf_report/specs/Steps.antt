-- One directive of a run (C11 7.21.6.2p4 to p10).
use Rattle.std.specs.Prelude.{◌≡◌, ◌≢◌, ℕ, zero, suc, ◌+◌, ◌⊎◌, Bool, true, false, List, [], ◌∷◌, take, drop, Option, Some, None, ℤ}
use Rattle.std.specs.Option.{option_map}
use Rattle.std.specs.Float.Ieee.{binary32, binary64}
use Rattle.sf_base.specs.Bytes.{IsSkip, AreWhite}
use Rattle.sf_base.specs.Data.{Datum, Number, Bytes, Real, value_of}
use Rattle.sf_base.specs.declared.real.Real as real
use Rattle.sf_base.specs.declared.real.Real.TheVariants as reals
use Rattle.sf_base.specs.declared.values.Kind.{Kind}
use Rattle.sf_base.specs.declared.values.Kind.TheVariants as kinds
use Rattle.sf_float_read.specs.value.Values.{IsStored}
use Rattle.sf_format.specs.declared.directive.Lead.{Lead}
use Rattle.sf_format.specs.declared.directive.Lead.TheVariants.{Any, Minus, Nothing}
use Rattle.sf_format.specs.declared.directive.Shape.{Shape}
use Rattle.sf_format.specs.declared.directive.Shape.TheVariants.{Int, Text, Float, Count}
use Rattle.sf_format.specs.declared.directive.Conversion.{Conversion}
use Rattle.sf_format.specs.declared.directive.Directive.{Directive}
use Rattle.sf_format.specs.declared.directive.Directive.TheVariants.{Space, Byte, Percent, Conv, Opens}
use Rattle.sf_format.specs.declared.directive.Literal.{Literal}
use Rattle.sf_format.specs.declared.directive.Literal.TheVariants as literal
use Rattle.sf_item.specs.Matching.{IsInteger, Matches, IsItem}
use Rattle.sf_item.specs.Columns.{IsColumn, IsTextOf, Fills}
use Rattle.sf_report.specs.declared.outcome.Status.{Status}
use Rattle.sf_report.specs.declared.outcome.Status.TheVariants.{InputFailure, MatchingFailure, OutOfRange}

-- how a directive ends: it passes, perhaps with a value for its slot; its item is missing, and may be; or it fails
pub data StepEnd : Type 0 where
  Passes : StepEnd
  Stores : ℕ → Datum → StepEnd
  Misses : StepEnd
  Fails : Status → StepEnd

-- a byte that has to stand next (C11 7.21.6.2p6)
abbrev pub ByteStep : ℕ → List ℕ → ℕ → StepEnd → Type 0
ByteStep b [] k end = (k ≡ 0) × (end ≡ Fails InputFailure)
ByteStep b (y ∷ x) k end = (y ≡ b) × (k ≡ 1) × (end ≡ Passes) ⊎ (y ≢ b) × (k ≡ 0) × (end ≡ Fails MatchingFailure)

-- the conversion passes with a number, where its kind holds it (our choice where C11 7.21.6.2p10 leaves it undefined)
abbrev pub NumberStored : Conversion → ℕ → Option ℤ → StepEnd → Type 0
NumberStored c slot None end = end ≡ Fails OutOfRange
NumberStored c slot (Some v) end = end ≡ Stores slot (Number c.kind v)

-- %n: n bytes were consumed so far (C11 7.21.6.2p12)
abbrev pub CountStep : Conversion → Option ℕ → ℕ → StepEnd → Type 0
CountStep c None n end = end ≡ Passes
CountStep c (Some slot) n end = NumberStored c slot (value_of c.kind false n) end

-- the float of the kind that a matching sequence gives, where that is in range (C11 7.21.6.2p10, 7.22.1.3p10)
abbrev pub IsReal : Kind → List ℕ → Option real.Real → Type 0
IsReal kinds.F32 item r = (bits : Option ℕ) × IsStored binary32 item bits × (r ≡ option_map reals.F32 bits)
IsReal kinds.F64 item r = (bits : Option ℕ) × IsStored binary64 item bits × (r ≡ option_map reals.F64 bits)
IsReal _ item r = r ≡ None

abbrev pub RealStored : ℕ → Option real.Real → StepEnd → Type 0
RealStored slot None end = end ≡ Fails OutOfRange
RealStored slot (Some r) end = end ≡ Stores slot (Real r)

-- what an assigned conversion stores of a matching item
abbrev pub ItemStored : Conversion → ℕ → Shape → List ℕ → StepEnd → Type 0
ItemStored c slot (Int numeral) item end =
    (negative : Bool) × (m : ℕ) × IsInteger numeral item negative m × NumberStored c slot (value_of c.kind negative m) end
ItemStored c slot (Float lead) item end = (r : Option real.Real) × IsReal c.kind item r × RealStored slot r end
ItemStored c slot _ item end = end ≡ Stores slot (Bytes item)

-- a suppressed conversion stores nothing, and is not checked against its kind
abbrev pub ItemPasses : Conversion → Option ℕ → List ℕ → StepEnd → Type 0
ItemPasses c None item end = end ≡ Passes
ItemPasses c (Some slot) item end = ItemStored c slot c.shape item end

-- An item of no byte: the input ended there, or another byte stands there (C11 7.21.6.2p9). An item that may be missing
-- is then missing (our own; C has no such conversion).
abbrev pub EmptyItem : Bool → List ℕ → StepEnd → Type 0
EmptyItem true x end = end ≡ Misses
EmptyItem false [] end = end ≡ Fails InputFailure
EmptyItem false (b ∷ x) end = end ≡ Fails MatchingFailure

-- how a conversion ends whose item is the first j bytes of x (C11 7.21.6.2p10)
abbrev pub ItemEnds : Conversion → List ℕ → ℕ → StepEnd → Type 0
ItemEnds c x zero end = EmptyItem c.optional x end
ItemEnds c x (suc j) end =
    Matches c (take (suc j) x) × ItemPasses c c.slot (take (suc j) x) end
    ⊎ (Matches c (take (suc j) x) → ⊥) × (end ≡ Fails MatchingFailure)

-- the white space that is skipped before an item (C11 7.21.6.2p8); with ! none is (our own)
abbrev pub IsSkipUnder : Lead → List ℕ → ℕ → Type 0
IsSkipUnder Any x s = IsSkip x s
IsSkipUnder Minus x s = s ≡ 0
IsSkipUnder Nothing x s = s ≡ 0

-- before the item of a shape
abbrev pub IsSkipBefore : Shape → List ℕ → ℕ → Type 0
IsSkipBefore (Int numeral) x s = IsSkipUnder numeral.lead x s
IsSkipBefore (Text lead) x s = IsSkipUnder lead x s
IsSkipBefore (Float lead) x s = IsSkipUnder lead x s
IsSkipBefore _ x s = s ≡ 0

abbrev pub ItemStep : Conversion → List ℕ → ℕ → StepEnd → Type 0
ItemStep c x k end =
    (s : ℕ) × (j : ℕ) × IsSkipBefore c.shape x s × IsItem c (drop s x) j × (k ≡ s + j) × ItemEnds c (drop s x) j end

abbrev pub ConversionStep : Conversion → Shape → List ℕ → ℕ → ℕ → StepEnd → Type 0
ConversionStep c Count x n k end = (k ≡ 0) × CountStep c c.slot n end
ConversionStep c _ x n k end = ItemStep c x k end

-- ---- columns (our own; C has none)

-- a column that is white space alone
abbrev pub BlankColumn : Bool → StepEnd → Type 0
BlankColumn true end = end ≡ Misses
BlankColumn false end = end ≡ Fails MatchingFailure

-- a column that has the text t
abbrev pub TextColumn : Conversion → List ℕ → StepEnd → Type 0
TextColumn c t end = Fills c t × ItemPasses c c.slot t end ⊎ (Fills c t → ⊥) × (end ≡ Fails MatchingFailure)

-- how a conversion ends whose column has these bytes of x
abbrev pub ColumnEnds : Conversion → List ℕ → List ℕ → StepEnd → Type 0
ColumnEnds c x [] end = EmptyItem c.optional x end
ColumnEnds c x (b ∷ s) end =
    AreWhite (b ∷ s) × BlankColumn c.optional end
    ⊎ (AreWhite (b ∷ s) → ⊥) × ((t : List ℕ) × IsTextOf c (b ∷ s) t × TextColumn c t end)

-- it consumes the whole column, whatever stands there
abbrev pub ColumnStep : Conversion → List ℕ → ℕ → StepEnd → Type 0
ColumnStep c x k end = IsColumn c x k × ColumnEnds c x (take k x) end

-- by whether it has =
abbrev pub StepBy : Bool → Conversion → List ℕ → ℕ → ℕ → StepEnd → Type 0
StepBy true c x n k end = ColumnStep c x k end
StepBy false c x n k end = ConversionStep c c.shape x n k end

-- ---- literals

-- %%: white space, and then a percent sign (C11 7.21.6.2p12)
abbrev pub PercentStep : List ℕ → ℕ → StepEnd → Type 0
PercentStep x k end = (s : ℕ) × (j : ℕ) × IsSkip x s × ByteStep 37 (drop s x) j end × (k ≡ s + j)

abbrev pub LiteralStep : Literal → List ℕ → ℕ → StepEnd → Type 0
LiteralStep (literal.Byte b) x k end = ByteStep b x k end
LiteralStep literal.Percent x k end = PercentStep x k end

-- of a directive that may be missing: it is, where it fails (our own; C has none)
abbrev pub missed : StepEnd → StepEnd
missed (Fails status) = Misses
missed end = end

-- a literal that opens a group
abbrev pub OpenerStep : Literal → List ℕ → ℕ → StepEnd → Type 0
OpenerStep l x k end = (e : StepEnd) × LiteralStep l x k e × (end ≡ missed e)

-- on the remaining input x, after n bytes, the directive consumes k bytes and ends so
abbrev pub Step : Directive → List ℕ → ℕ → ℕ → StepEnd → Type 0
Step Space x n k end = IsSkip x k × (end ≡ Passes)
Step (Byte b) x n k end = ByteStep b x k end
Step Percent x n k end = PercentStep x k end
Step (Conv c) x n k end = StepBy c.column c x n k end
Step (Opens o) x n k end = OpenerStep o.literal x k end
