use Rattle.std.proofs.Common.{take, arith}
use Rattle.std.proofs.lemmas.List.{length-take-le}
use Rattle.sf_float.proofs.Computed.{one_text}
use Rattle.sf_float.proofs.text.write_float.Goals as goal

pub returns-clause-text : goal.returns-clause-text
returns-clause-text c =
    let w = c.write_size-len in
    let size = take w.result w.new.out in
    (size, w.ensures.text, c.field_around.ensures size (length-take-le w.result w.new.out (omega (arith, w.ensures.end, w.array_long))))

pub returns-clause-computed : goal.returns-clause-computed
returns-clause-computed c = one_text c.args.conv.now c.args.x _ (returns-clause-text c)
