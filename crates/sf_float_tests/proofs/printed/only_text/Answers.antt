use Rattle.std.proofs.Common.{from_bits}
use Rattle.std.specs.Float.Ieee.{binary64}
use Rattle.sf_float_tests.proofs.printed.only_text.Goals as goal

pub returns : goal.returns
returns c = λ t h. c.one_text.ensures c.args.conv.now (from_bits binary64 c.args.bits) t h
