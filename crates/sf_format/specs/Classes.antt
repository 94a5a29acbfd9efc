-- The classes of bytes that the parser runs over.
use Rattle.std.specs.Prelude.{ℕ, Bool}
use Rattle.sf_base.specs.Bytes.{is_white}
use Rattle.sf_format.specs.Digits.{is_decimal}
use Rattle.sf_format.specs.declared.fronts.Class.{Class}
use Rattle.sf_format.specs.declared.fronts.Class.TheVariants.{White, Digit, Inner, Flag}
use Rattle.sf_format.specs.PrintLetters.{is_flag}
use Rattle.sf_format.specs.Scanlist.{is_inner}

abbrev pub test_of : Class → ℕ → Bool
test_of White = is_white
test_of Digit = is_decimal
test_of Inner = is_inner
test_of Flag = is_flag
