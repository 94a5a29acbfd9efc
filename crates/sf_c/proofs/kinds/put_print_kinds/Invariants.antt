use Rattle.std.proofs.Common.{◌≡◌, take, drop}
use Rattle.sf_format.specs.Slots.{kind_with}
use Rattle.sf_format.specs.Units.{values_of}
use Rattle.sf_c.specs.Formats.{kinds_to}
use Rattle.sf_c.proofs.kinds.put_print_kinds.Given as goal

-- the kinds of the slots so far are written, and no other
abbrev pub invariant-loop-index : goal.invariant-loop-index
invariant-loop-index l = record {
  front : take l.index l.kinds ≡ kinds_to l.index (λ slot. kind_with slot (values_of l.format));
  rest : drop l.slots l.kinds ≡ drop l.slots l.fn.kinds;
}
