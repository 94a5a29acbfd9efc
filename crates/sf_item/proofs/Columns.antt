-- Columns: the definitions and the tests that compute say the same.
use Rattle.std.proofs.Common.{◌≡◌, ℕ, Bool, true, false, List, Option, refl, sym, true≢false}
use Rattle.std.specs.Prelude.{if◌then◌else◌}
use Rattle.sf_base.specs.Blanks.{are_white, trimmed}
use Rattle.sf_format.specs.declared.directive.Lead.{Lead}
use Rattle.sf_format.specs.declared.directive.Lead.TheVariants.{Any, Minus, Nothing}
use Rattle.sf_format.specs.declared.directive.Shape.{Shape}
use Rattle.sf_format.specs.declared.directive.Shape.TheVariants.{Int, Text, Set, Chars, Float, Count}
use Rattle.sf_format.specs.declared.directive.Conversion.{Conversion}
use Rattle.sf_format.specs.Leads.{is_strict}
use Rattle.sf_item.specs.Columns.{IsTextUnder, IsTextOf, TextFills, ShapeFills, Fills}
use Rattle.sf_item.specs.ColumnTests.{column_text, text_fills, shape_fills, fills}
use Rattle.sf_item.proofs.Blanks.{trimmed_is, trimmed_only}
use Rattle.sf_item.proofs.Deciding.{Tests, tests_shape}

-- ---- what fills

always : Tests true (Unit {0})
always = record { from = λ e. tt; to = λ h. refl }

never : Tests false ⊥
never = record { from = λ e. absurd (true≢false (sym e)); to = λ h. absurd h }

tests_text_fills : (lead : Lead) (width : Option ℕ) (t : List ℕ) → Tests (text_fills lead width t) (TextFills lead width t)
tests_text_fills Any width t = always
tests_text_fills Minus width t = tests_shape (Text Minus) width t
tests_text_fills Nothing width t = tests_shape (Text Nothing) width t

tests_fills : (shape : Shape) (width : Option ℕ) (t : List ℕ) → Tests (shape_fills shape width t) (ShapeFills shape width t)
tests_fills (Int numeral) width t = tests_shape (Int numeral) width t
tests_fills (Text lead) width t = tests_text_fills lead width t
tests_fills (Set members) width t = tests_shape (Set members) width t
tests_fills Chars width t = always
tests_fills (Float lead) width t = tests_shape (Float lead) width t
tests_fills Count width t = never

pub fills_is : (c : Conversion) (t : List ℕ) → (Fills c t → fills c t ≡ true) × (fills c t ≡ true → Fills c t)
fills_is c t = let tests = tests_fills c.shape c.width t in (tests.to, tests.from)

-- ---- the text of a column

text_under : (strict : Bool) (s : List ℕ) → are_white s ≡ false → IsTextUnder strict s (if strict then s else trimmed s)
text_under true s ink = refl
text_under false s ink = trimmed_is s ink

only_under : (strict : Bool) (s t : List ℕ) → IsTextUnder strict s t → t ≡ (if strict then s else trimmed s)
only_under true s t h = h
only_under false s t h = trimmed_only s t h

pub text_is : (c : Conversion) (s : List ℕ) → are_white s ≡ false → IsTextOf c s (column_text c s)
text_is c s ink = text_under (is_strict c.shape) s ink

pub text_only : (c : Conversion) (s t : List ℕ) → IsTextOf c s t → t ≡ column_text c s
text_only c s t h = only_under (is_strict c.shape) s t h
