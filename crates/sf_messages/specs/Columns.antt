-- What is said of columns: the bytes of one that failed, and the white space of the format before it.
use Rattle.std.specs.Prelude.{ℕ, ◌-◌, ◌&&◌, nat_lt, Bool, true, false, not, List, [], Option, Some, is_some, codes, slice_get}
use Rattle.std.specs.Prelude.{if◌then◌else◌, drop, length, min, take, unwrap_or}
use Rattle.sf_format.specs.declared.directive.Directive.{Directive}
use Rattle.sf_format.specs.declared.directive.Directive.TheVariants.{Conv, Space}
use Rattle.sf_run.specs.outcome.Outcome.{Outcome}
use Rattle.sf_run.specs.outcome.Status.{Status}
use Rattle.sf_run.specs.outcome.Status.TheVariants.{InputFailure, MatchingFailure, OutOfRange}

-- the directive takes a column
abbrev pub is_column : Option Directive → Bool
is_column (Some (Conv c)) = c.column
is_column _ = false

-- how many bytes that has; 0 where it takes none
abbrev pub column_width : Option Directive → ℕ
column_width (Some (Conv c)) = if c.column then unwrap_or c.width 1 else 0
column_width _ = 0

-- ---- the bytes of a column

-- bytes were read that don't match, or are out of range
abbrev pub is_misfit : Status → Bool
is_misfit MatchingFailure = true
is_misfit OutOfRange = true
is_misfit status = false

-- a run failed so, and met no end: a column at which it failed was then read whole, since it takes each byte up to its width
abbrev pub is_column_read : Outcome → Bool
is_column_read outcome = is_misfit outcome.status && not (is_some outcome.met)

-- the last of some bytes, where there are so many
abbrev pub last_bytes : ℕ → List ℕ → List ℕ
last_bytes count bytes = if nat_lt (length bytes) count then [] else drop (length bytes - count) bytes

-- The bytes of the column at which a run failed that had this line for its input: it read them last. None where the directive
-- takes no column, and where the column wasn't read whole.
abbrev pub failed_column : List Directive → Outcome → List ℕ → List ℕ
failed_column ds outcome line =
    if is_column_read outcome
    then last_bytes (column_width (slice_get ds (outcome.at - 1))) (take (min outcome.used (length line)) line)
    else []

-- ---- white space before a column

abbrev pub is_space : Option Directive → Bool
is_space (Some Space) = true
is_space _ = false

-- a run failed by what its input has, or hasn't
abbrev pub is_failure : Status → Bool
is_failure InputFailure = true
is_failure MatchingFailure = true
is_failure OutOfRange = true
is_failure status = false

-- at a column before which the format has white space
abbrev pub is_after_space : List Directive → Outcome → Bool
is_after_space ds outcome =
    is_failure outcome.status && (is_space (slice_get ds (outcome.at - 2)) && is_column (slice_get ds (outcome.at - 1)))

-- what is said of it
abbrev pub space_sentence : List ℕ
space_sentence =
    codes "white space in the format takes the blanks of the column after it, too: write %*c for a byte that is passed over"

-- ---- columns of conversions with !

-- where what such a conversion wants has to stand
abbrev pub whole_text : Bool → List ℕ
whole_text true = codes ", in the whole column"
whole_text false = []
