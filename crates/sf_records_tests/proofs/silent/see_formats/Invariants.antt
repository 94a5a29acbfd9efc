use Rattle.std.proofs.Common.{take}
use Rattle.std.specs.List.{AllByRecursion}
use Rattle.sf_format.specs.Proper.{IsAccepted}
use Rattle.sf_records_tests.proofs.silent.see_formats.Given as goal

-- those so far are accepted
abbrev pub invariant-loop-format : goal.invariant-loop-format
invariant-loop-format l = AllByRecursion IsAccepted (take l.format-index l.formats)
