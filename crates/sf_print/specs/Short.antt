-- Values that need no measuring: no format makes a text of them that is too long.
use Rattle.std.specs.Prelude.{Bool, true, false, nat_le, List, length}
use Rattle.std.specs.List.{list_all}
use Rattle.sf_base.specs.Data.{Datum}
use Rattle.sf_base.specs.Data.Datum.{Number, Bytes, Real}

-- a number, or a text of at most 65536 bytes; floats are measured
abbrev pub is_short : Datum → Bool
is_short (Number k z) = true
is_short (Bytes bytes) = nat_le (length bytes) 65536
is_short (Real r) = false

abbrev pub are_short : List Datum → Bool
are_short values = list_all is_short values
