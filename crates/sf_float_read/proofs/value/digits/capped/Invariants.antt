use Rattle.std.proofs.Common.{take}
use Rattle.std.specs.Str.Parse.{digits_value}
use Rattle.sf_float_read.specs.value.Hexadecimals.{IsCapped}
use Rattle.sf_float_read.proofs.value.digits.capped.Given as goal

abbrev pub invariant-loop-b : goal.invariant-loop-b
invariant-loop-b l = IsCapped (digits_value 10 (take l.b-index l.text)) l.number
