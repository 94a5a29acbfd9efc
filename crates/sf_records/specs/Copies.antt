-- Copies of reports by a pair of formats.
use Rattle.std.specs.Prelude.{Bool, ◌&&◌, nat_le, List, length}
use Rattle.sf_base.specs.Data.{Datum}
use Rattle.sf_format.specs.declared.directive.Directive.{Directive}
use Rattle.sf_format.specs.declared.unit.Unit.{Unit as PrintUnit}
use Rattle.sf_pair.specs.Fits.{fits}
use Rattle.sf_print.specs.Printed.{most_bytes, printed}
pub use Rattle.sf_forms.specs.makers.Row.{row_in, row_of}
pub use Rattle.sf_forms.specs.makers.Prints.{printed_in, printing}
use Rattle.sf_forms.specs.makers.Works.{Work}

-- the values fit the pair, and their text is none that a print refuses for its length
abbrev pub is_copied : List PrintUnit → List Directive → List Datum → Bool
is_copied units ds row = fits units ds row && nat_le (length (printed units row)) most_bytes

-- a copy prints the values of each record that fits the pair
abbrev pub copying : List PrintUnit → List Directive → Work
copying units ds = record {
  fits = λ r. is_copied units ds (row_in ds r);
  text = λ r. printed units (row_in ds r);
}
