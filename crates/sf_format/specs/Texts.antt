-- The texts for a format that is refused.
use Rattle.std.specs.Prelude.{ℕ, List, ◌++◌, codes}
use Rattle.std.specs.Fmt.{decimal}
use Rattle.sf_format.specs.declared.fault.FormatWhy.{FormatWhy}
use Rattle.sf_format.specs.declared.fault.FormatWhy.TheVariants as why
use Rattle.sf_format.specs.declared.fault.FormatFault.{FormatFault}

-- the code and the name of the reason
abbrev pub why_text : FormatWhy → List ℕ
why_text why.Truncated = codes "F1 Truncated"
why_text why.ZeroWidth = codes "F2 ZeroWidth"
why_text why.TooWide = codes "F3 TooWide"
why_text why.UnknownLetter = codes "F4 UnknownLetter"
why_text why.LeftOut = codes "F5 LeftOut"
why_text why.BadLength = codes "F6 BadLength"
why_text why.OpenSet = codes "F7 OpenSet"
why_text why.BackwardRange = codes "F8 BackwardRange"
why_text why.BadCount = codes "F9 BadCount"
why_text why.MixedNumbering = codes "F10 MixedNumbering"
why_text why.BadNumber = codes "F11 BadNumber"
why_text why.NumberTwice = codes "F12 NumberTwice"
why_text why.NumberGap = codes "F13 NumberGap"
why_text why.Nul = codes "F14 Nul"
why_text why.FormatTooLong = codes "F15 FormatTooLong"
why_text why.TooManyDestinations = codes "F16 TooManyDestinations"
why_text why.BadFlag = codes "F17 BadFlag"
why_text why.PrecisionTooLarge = codes "F18 PrecisionTooLarge"
why_text why.NoMemory = codes "F19 NoMemory"
why_text why.BadMark = codes "F20 BadMark"
why_text why.BadGroup = codes "F21 BadGroup"

-- and the place, in decimal digits
abbrev pub fault_text : FormatFault → List ℕ
fault_text fault = why_text fault.why ++ (codes " at " ++ decimal fault.at)
