use Rattle.sf_pair.proofs.ConversionLemmas.RealCode.{fixed_len, exponent_len, general_len, lone_len, hexadecimal_len}
use Rattle.sf_pair.proofs.conversions.reals.zero_digits_len.Goals as goal

pub returns-in-Fixed-clause-len : goal.returns-in-Fixed-clause-len
returns-in-Fixed-clause-len c = fixed_len c.args.conv.now c.args.style c.unwrap_or-decimals.result c.pointed_len.result c.in-Fixed.is
    c.unwrap_or-decimals.ensures c.pointed_len.ensures.len

pub returns-in-Exponent-clause-len : goal.returns-in-Exponent-clause-len
returns-in-Exponent-clause-len c = exponent_len c.args.conv.now c.args.style c.unwrap_or-decimals.result
    c.pointed_len-in-Exponent.result c.in-Exponent.is c.unwrap_or-decimals.ensures c.pointed_len-in-Exponent.ensures.len

pub returns-then-conv-clause-len : goal.returns-then-conv-clause-len
returns-then-conv-clause-len c = general_len c.args.conv.now c.args.style c.unwrap_or-decimals.result c.max.result
    c.pointed_len-then-conv.result c.in-General.is c.unwrap_or-decimals.ensures c.if-conv.true c.max.ensures
    c.pointed_len-then-conv.ensures.len

pub returns-else-conv-clause-len : goal.returns-else-conv-clause-len
returns-else-conv-clause-len c = lone_len c.args.conv.now c.args.style c.in-General.is c.if-conv.false

pub returns-in-Hexadecimal-clause-len : goal.returns-in-Hexadecimal-clause-len
returns-in-Hexadecimal-clause-len c = hexadecimal_len c.args.conv.now c.args.style c.unwrap_or.result
    c.pointed_len-in-Hexadecimal.result c.in-Hexadecimal.is c.unwrap_or.ensures c.pointed_len-in-Hexadecimal.ensures.len
