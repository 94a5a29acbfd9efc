-- The texts of floats, as a scan sees them.
use Rattle.std.specs.Prelude.{ℕ, Bool, false, ◌==◌, ◌&&◌, ◌||◌, nat_lt, List, Option, Some, None, unwrap_or}
use Rattle.std.specs.Float.Ieee.{binary64}
use Rattle.sf_base.specs.declared.real.Real as real
use Rattle.sf_base.specs.declared.real.Real.TheVariants as reals
use Rattle.sf_format.specs.declared.unit.PrintConv.{PrintConv}
use Rattle.sf_float_read.specs.item.Tests.{is_float}
use Rattle.sf_float_read.specs.value.Computed.{stored_in}
use Rattle.sf_print.specs.texts.Floats.{real_text}
use Rattle.sf_print.specs.texts.Visible.{without_blanks}

-- the text of a float without the blanks before it
abbrev pub seen : PrintConv → real.Real → List ℕ
seen c r = without_blanks (real_text c r)

-- that of 0, the shortest
abbrev pub zero_seen : PrintConv → List ℕ
zero_seen c = seen c (reals.F64 0)

-- `f` writes a point where digits follow it, or the flag `#` asks for it (C11 7.21.6.1p6)
abbrev pub has_point : PrintConv → Bool
has_point c = nat_lt 0 (unwrap_or c.precision 6) || c.alt

abbrev pub is_pattern : Option ℕ → ℕ → Bool
is_pattern None bits = false
is_pattern (Some b) bits = b == bits

-- the bytes are a matching sequence of which this pattern is stored
abbrev pub is_read_as : List ℕ → ℕ → Bool
is_read_as item bits = is_float item && is_pattern (stored_in binary64 item) bits
