-- The texts for formats that are no pair.
use Rattle.std.specs.Prelude.{ℕ, List, ◌++◌, codes}
use Rattle.std.specs.Fmt.{decimal}
use Rattle.sf_pair.specs.declared.fault.PairWhy.{PairWhy}
use Rattle.sf_pair.specs.declared.fault.PairWhy.TheVariants as why
use Rattle.sf_pair.specs.declared.fault.PairFault.{PairFault}

-- the code and the name of the reason
abbrev pub why_text : PairWhy → List ℕ
why_text why.NotAligned = codes "Q1 NotAligned"
why_text why.KindDiffers = codes "Q2 KindDiffers"
why_text why.NumberDiffers = codes "Q3 NumberDiffers"
why_text why.NoWidth = codes "Q4 NoWidth"
why_text why.TooNarrow = codes "Q5 TooNarrow"
why_text why.RunsOn = codes "Q6 RunsOn"
why_text why.OpenEnd = codes "Q7 OpenEnd"
why_text why.LeadingZero = codes "Q8 LeadingZero"
why_text why.NotWritten = codes "Q9 NotWritten"
why_text why.BadFlagHere = codes "Q10 BadFlagHere"
why_text why.NoValues = codes "Q11 NoValues"
why_text why.MayBeMissing = codes "Q13 MayBeMissing"
why_text why.BadMark = codes "Q14 BadMark"

-- and the number of the directive, in decimal digits
abbrev pub fault_text : PairFault → List ℕ
fault_text fault = why_text fault.why ++ (codes " at " ++ decimal fault.at)
