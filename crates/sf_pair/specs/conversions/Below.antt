-- The laws of the crates below.
use Rattle.sf_format.specs.Laws.{JustSlotsHaveKinds}
use Rattle.sf_float_read.specs.item.Laws.{PlainFloatsParse}
use Rattle.sf_float_read.specs.item.Tests.{TestsAreSequences}
use Rattle.sf_float_read.specs.value.Laws.{StoredIsComputed}
use Rattle.sf_item.specs.Laws.{FrontsCanBeTaken, ReadingsGoOn}
use Rattle.sf_print.specs.digits.Numeral.{AreNumerals, OnlyNumeral}
use Rattle.sf_report.specs.Laws.{EachByteIsTried, EachHasOneReport, EachMachineSteps, EachRunIsComputed, EachRunIsTold, EachStepIsComputed}
use Rattle.sf_report.specs.Laws.{EachStepIsWithin}

pub record LawsBelow : Type 0 where
  pub kinds : JustSlotsHaveKinds
  pub numerals : AreNumerals
  pub only_numeral : OnlyNumeral
  pub floats : TestsAreSequences
  pub plain : PlainFloatsParse
  pub stored : StoredIsComputed
  pub fronts : FrontsCanBeTaken
  pub parts : ReadingsGoOn
  pub steps : EachStepIsComputed
  pub within : EachStepIsWithin
  pub machine : EachMachineSteps
  pub runs : EachRunIsComputed
  pub told : EachRunIsTold
  pub reports : EachHasOneReport
  pub tried : EachByteIsTried
