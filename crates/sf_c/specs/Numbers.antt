-- The numbers that stand for variants in C.
use Rattle.std.specs.Prelude.{ℕ, nat_eq, if◌then◌else◌, List, [], ◌∷◌, Option, Some, None}
use Rattle.sf_base.specs.declared.values.Kind.{Kind}
use Rattle.sf_base.specs.declared.values.Kind.TheVariants as kind
use Rattle.sf_format.specs.declared.directive.Profile.{Profile}
use Rattle.sf_format.specs.declared.directive.Profile.TheVariants.{One, Two, Three}
use Rattle.sf_format.specs.declared.fault.FormatWhy.{FormatWhy}
use Rattle.sf_format.specs.declared.fault.FormatWhy.TheVariants as format
use Rattle.sf_run.specs.outcome.Ending.{Ending}
use Rattle.sf_run.specs.outcome.Status.{Status}
use Rattle.sf_run.specs.outcome.Status.TheVariants as status
use Rattle.sf_pair.specs.declared.fault.PairWhy.{PairWhy}
use Rattle.sf_pair.specs.declared.fault.PairWhy.TheVariants as pair

abbrev pub profile_of : ℕ → Option Profile
profile_of n = if nat_eq n 1 then Some One else (if nat_eq n 2 then Some Two else (if nat_eq n 3 then Some Three else None))

-- the kinds in the order of their numbers, from 1
abbrev pub kinds : List Kind
kinds = kind.I8 ∷ kind.I16 ∷ kind.I32 ∷ kind.I64 ∷ kind.U8 ∷ kind.U16 ∷ kind.U32 ∷ kind.U64 ∷ kind.Text ∷ kind.F32 ∷ kind.F64 ∷ []

abbrev pub kind_number : Kind → ℕ
kind_number kind.I8 = 1
kind_number kind.I16 = 2
kind_number kind.I32 = 3
kind_number kind.I64 = 4
kind_number kind.U8 = 5
kind_number kind.U16 = 6
kind_number kind.U32 = 7
kind_number kind.U64 = 8
kind_number kind.Text = 9
kind_number kind.F32 = 10
kind_number kind.F64 = 11

-- the kind of a slot; 0 where there is no such slot
abbrev pub slot_number : Option Kind → ℕ
slot_number None = 0
slot_number (Some k) = kind_number k

-- the statuses in the order of their numbers, from 0
abbrev pub statuses : List Status
statuses = status.Done ∷ status.InputFailure ∷ status.MatchingFailure ∷ status.OutOfRange ∷ status.TooLong ∷ status.NoMemory ∷ []

abbrev pub status_number : Status → ℕ
status_number status.Done = 0
status_number status.InputFailure = 1
status_number status.MatchingFailure = 2
status_number status.OutOfRange = 3
status_number status.TooLong = 4
status_number status.NoMemory = 5

-- whether the run met the end of the text
abbrev pub met_number : Option Ending → ℕ
met_number None = 0
met_number (Some ending) = 1

-- the number of a format's fault, as the 8 of F8
abbrev pub format_number : FormatWhy → ℕ
format_number format.Truncated = 1
format_number format.ZeroWidth = 2
format_number format.TooWide = 3
format_number format.UnknownLetter = 4
format_number format.LeftOut = 5
format_number format.BadLength = 6
format_number format.OpenSet = 7
format_number format.BackwardRange = 8
format_number format.BadCount = 9
format_number format.MixedNumbering = 10
format_number format.BadNumber = 11
format_number format.NumberTwice = 12
format_number format.NumberGap = 13
format_number format.Nul = 14
format_number format.FormatTooLong = 15
format_number format.TooManyDestinations = 16
format_number format.BadFlag = 17
format_number format.PrecisionTooLarge = 18
format_number format.NoMemory = 19
format_number format.BadMark = 20
format_number format.BadGroup = 21

-- the number of a pair's fault, as the 6 of Q6
abbrev pub pair_number : PairWhy → ℕ
pair_number pair.NotAligned = 1
pair_number pair.KindDiffers = 2
pair_number pair.NumberDiffers = 3
pair_number pair.NoWidth = 4
pair_number pair.TooNarrow = 5
pair_number pair.RunsOn = 6
pair_number pair.OpenEnd = 7
pair_number pair.LeadingZero = 8
pair_number pair.NotWritten = 9
pair_number pair.BadFlagHere = 10
pair_number pair.NoValues = 11
pair_number pair.MayBeMissing = 13
pair_number pair.BadMark = 14
