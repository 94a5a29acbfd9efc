-- The formats of the kinds of floats.
use Rattle.std.specs.Float.Ieee.{Format, binary32, binary64}
use Rattle.sf_float_read.specs.declared.value.nearest.FloatKind.{FloatKind}
use Rattle.sf_float_read.specs.declared.value.nearest.FloatKind.TheVariants.{F32, F64}

abbrev pub format_of : FloatKind → Format
format_of F32 = binary32
format_of F64 = binary64
