-- Formats whose last item ends only where a byte doesn't match.
use Rattle.std.specs.Prelude.{◌≡◌, ◌-◌, false, List, length, slice_get, Some, None}
use Rattle.sf_format.specs.declared.directive.Shape.{Shape}
use Rattle.sf_format.specs.declared.directive.Shape.TheVariants.{Int, Text, Set, Chars, Float, Count}
use Rattle.sf_format.specs.declared.directive.Conversion.{Conversion}
use Rattle.sf_format.specs.declared.directive.Directive.{Directive}
use Rattle.sf_format.specs.declared.directive.Directive.TheVariants.{Conv}
use Rattle.sf_format.specs.Proper.{has_group}

-- an item of the shape, if no width bounds it, can go on after any of its bytes; that of a float can't after `infinity`
abbrev pub GoesOn : Shape → Type 0
GoesOn (Int numeral) = Unit {0}
GoesOn (Text lead) = Unit {0}
GoesOn (Set members) = Unit {0}
GoesOn Chars = ⊥
GoesOn (Float lead) = ⊥
GoesOn Count = ⊥

-- the last directive is such a conversion, without a width, without a ? and without a =; and no directive opens a group
pub record EndsUnbounded (ds : List Directive) : Type 0 where
  pub conversion : Conversion
  pub last : slice_get ds (length ds - 1) ≡ Some (Conv conversion)
  pub goes_on : GoesOn conversion.shape
  pub no_width : conversion.width ≡ None
  pub needed : conversion.optional ≡ false
  pub no_column : conversion.column ≡ false
  pub no_group : has_group ds ≡ false
