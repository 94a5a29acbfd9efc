use Rattle.std.proofs.Common.{◌≡◌, take, Some}
use Rattle.sf_format.specs.declared.directive.Numeral.{Numeral}
use Rattle.sf_item.specs.declared.reached.Reached.TheVariants.{Digits}
use Rattle.sf_item.specs.Progress.{Progress}
use Rattle.sf_item.specs.Scan.{Shows, ShowsNext}
use Rattle.sf_item.specs.Tests.{read}
use Rattle.sf_item.proofs.integer.digit_front.Given as goal

-- the digits so far were read
abbrev pub invariant-loop-i : goal.invariant-loop-i
invariant-loop-i l = record {
  read : (numeral : Numeral) (p : Progress) → Shows (Digits l.fn.digits) p
      → ShowsNext (Some (Digits l.digits)) (read numeral (Some p) (take l.i l.piece));
  nothing : l.i ≡ 0 → l.digits ≡ l.fn.digits;
}
