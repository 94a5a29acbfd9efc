use Rattle.sf_arguments.proofs.Floats.{float_read, out_of_range}
use Rattle.sf_arguments.proofs.argument.float_of_word.Goals as goal

pub returns-in-Some-clause-some : goal.returns-in-Some-clause-some
returns-in-Some-clause-some c =
    float_read c.args.word.now c.as_bytes-text.result.now c.in-Some.bits c.as_bytes-text.ensures.value
    (c.is_float.ensures.0 c.if-not-is_float.false) c.in-Some.ensures

pub returns-in-None-clause-none : goal.returns-in-None-clause-none
returns-in-None-clause-none c =
    out_of_range c.args.word.now c.as_bytes-text.result.now c.as_bytes-text.ensures.value c.in-None.ensures
