use Rattle.std.proofs.Common.{◌≡◌, ◌/◌, suc, ◌-◌, arith}
use Rattle.sf_float.proofs.Values.{least_field, at_field}
use Rattle.sf_float.proofs.hexadecimal.binary_of.Goals as goal

pub returns-then-field-eq0-clause-value : goal.returns-then-field-eq0-clause-value
returns-then-field-eq0-clause-value c = least_field c.args.bits c.requires c.if-field-eq0.true

pub returns-clause-value : goal.returns-clause-value
returns-clause-value c =
    let j = c.args.bits / 4503599627370496 - 1 in
    let e : c.args.bits / 4503599627370496 ≡ suc j = omega (arith, c.if-field-eq0.false) in
    at_field c.args.bits j c.requires e
