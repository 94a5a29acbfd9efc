-- The rows of strict texts.
use Rattle.std.proofs.Common.{◌≡◌, Bool, true, false, cond, is_some, refl, arith}
use Rattle.sf_base.specs.Kinds.{bounds_of}
use Rattle.sf_format.specs.declared.directive.Base.{Base}
use Rattle.sf_format.specs.declared.directive.Lead.{Lead}
use Rattle.sf_format.specs.declared.directive.Shape.{Shape}
use Rattle.sf_format.specs.declared.directive.Shape.TheVariants.{Int, Text, Set, Chars, Float, Count}
use Rattle.sf_format.specs.declared.directive.Conversion.{Conversion}
use Rattle.sf_format.specs.declared.directive.Directive.{Directive}
use Rattle.sf_format.specs.declared.directive.Directive.TheVariants.{Space, Byte, Percent, Conv, Opens}
use Rattle.sf_format.specs.declared.layout.Row.{Row}
use Rattle.sf_format.specs.declared.layout.Way.TheVariants as ways
use Rattle.sf_format.specs.Leads.{is_strict_lead}
use Rattle.sf_format.specs.declared.directive.Literal.{Literal}
use Rattle.sf_format.specs.declared.directive.Literal.TheVariants as literal
use Rattle.sf_format.specs.Layout.{row_of, row_of_literal, way_led_by, way_of, way_placed}
use Rattle.sf_run.specs.Pieces.{IsTextRow}

abbrev IsStrictText : Shape → Type 0
IsStrictText shape = (lead : Lead) × (is_strict_lead lead ≡ true) × (shape ≡ Text lead)

no_number : (lead : Lead) (base : Base) → way_led_by lead base ≡ ways.StrictText → ⊥
no_number lead base e = grind arith

strict_text : (lead : Lead) (v : Bool) → is_strict_lead lead ≡ v → cond v ways.StrictText ways.Text ≡ ways.StrictText
    → is_strict_lead lead ≡ true
strict_text lead true is e = is
strict_text lead false is e = absurd cc

of_shape : (shape : Shape) (numeric : Bool) → way_of shape numeric ≡ ways.StrictText → IsStrictText shape
of_shape (Int numeral) true e = absurd (no_number numeral.lead numeral.base e)
of_shape (Int numeral) false e = absurd cc
of_shape (Text lead) numeric e = (lead, strict_text lead (is_strict_lead lead) refl e, refl)
of_shape (Set members) numeric e = absurd (grind arith)
of_shape Chars numeric e = absurd cc
of_shape (Float lead) numeric e = absurd cc
of_shape Count numeric e = absurd cc

placed : (c : Conversion) (v : Bool) → c.column ≡ v → way_placed v c.shape (is_some (bounds_of c.kind)) ≡ ways.StrictText
    → (c.column ≡ false) × IsStrictText c.shape
placed c true is e = absurd cc
placed c false is e = (is, of_shape c.shape (is_some (bounds_of c.kind)) e)

-- the row of a strict text, which is an item
pub record StrictText (d : Directive) (row : Row) : Type 0 where
  pub conversion : Conversion
  pub lead : Lead
  pub is : d ≡ Conv conversion
  pub strict : is_strict_lead lead ≡ true
  pub shape : conversion.shape ≡ Text lead
  pub as_text : IsTextRow row conversion

text_row : (c : Conversion) → c.column ≡ false → IsStrictText c.shape → IsTextRow (row_of (Conv c)) c
text_row c plain is = grind (arith, plain, (is.2))

conversion_row : (c : Conversion) → (row_of (Conv c)).way ≡ ways.StrictText → StrictText (Conv c) (row_of (Conv c))
conversion_row c e =
    let own = placed c c.column refl e in
    record {
      conversion = c;
      lead = own.1.0;
      is = refl;
      strict = own.1.1;
      shape = own.1.2;
      as_text = text_row c own.0 own.1;
    }

no_opener : (l : Literal) → (row_of_literal l).way ≡ ways.StrictText → ⊥
no_opener (literal.Byte b) e = cc
no_opener literal.Percent e = cc

pub strict_text_row : (d : Directive) → (row_of d).way ≡ ways.StrictText → StrictText d (row_of d)
strict_text_row Space e = absurd cc
strict_text_row (Byte b) e = absurd cc
strict_text_row Percent e = absurd cc
strict_text_row (Opens o) e = absurd (no_opener o.literal e)
strict_text_row (Conv c) e = conversion_row c e
