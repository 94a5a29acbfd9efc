use Rattle.std.proofs.Common.{refl, sym}
use Rattle.sf_float.specs.fewest.Digits.{number_of}
use Rattle.sf_float.proofs.FewestLemmas.Full.{far_none}
use Rattle.sf_float.proofs.FewestLemmas.Texts.{not_zero}
use Rattle.sf_float.proofs.fewest.trial.tried_short.Goals as goal

pub returns-then-is_far-clause-value : goal.returns-then-is_far-clause-value
returns-then-is_far-clause-value c =
    let z = c.requires.cut in
    let k = c.args.cut in
    sym (far_none c.args.real c.args.m c.requires.full (not_zero (number_of c.args.real) k.first k.twice k.lost z) k.first k.twice k.lost z
    c.requires.few.0 (c.if-is_far.ensures.low refl) (c.if-is_far.ensures.high refl))
