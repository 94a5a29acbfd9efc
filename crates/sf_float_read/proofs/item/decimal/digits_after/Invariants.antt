use Rattle.std.proofs.Common.{◌≡◌, ◌+◌, ◌-◌, ◌<◌, ◌^◌, take}
use Rattle.std.specs.Str.Parse.{AllDigits, digits_value_after}
use Rattle.sf_float_read.proofs.item.decimal.digits_after.Given as goal

-- the bytes so far are digits, and their number was taken
abbrev pub invariant-loop-i : goal.invariant-loop-i
invariant-loop-i l = record {
  all : AllDigits 10 (take l.i l.bytes);
  value : l.number ≡ digits_value_after 10 l.before (take l.i l.bytes);
  small : l.number < 10 ^ (19 - l.most + l.i);
}
