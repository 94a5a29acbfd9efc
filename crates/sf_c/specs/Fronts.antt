-- What a run at the front of a text answers.
use Rattle.std.specs.Prelude.{◌≡◌, ◌≤◌, ◌<◌, ℕ, List, Bool, true, length}
use Rattle.sf_format.specs.declared.directive.Directive.{Directive}
use Rattle.sf_c.specs.declared.records.Front.{Front}
use Rattle.sf_c.specs.declared.records.Front.TheVariants.{Run, TooLong, NoMemory}
use Rattle.sf_c.specs.Records.{IsFirstLine, IsRunAt}

abbrev pub IsFront : Bool → List Directive → ℕ → List ℕ → Front → Type 0
IsFront lines ds limit text (Run scanned size) =
    IsRunAt lines ds limit text size scanned.report × (size ≤ length text) × (lines ≡ true → 0 < size)
IsFront lines ds limit text (TooLong size) = (len : ℕ) × (lines ≡ true) × IsFirstLine text len size × (limit < len)
IsFront lines ds limit text NoMemory = Unit {0}
