use Rattle.std.proofs.Common.{◌∙◌, take, replicate}
use Rattle.sf_float.specs.Computed.{float_text}
use Rattle.sf_print.proofs.TextLemmas.Reals.{six_joined}
use Rattle.sf_print.proofs.texts.floats.float_pieces.Goals as goal

pub returns : goal.returns
returns c =
    let w = c.write_float-len in
    let f = w.result.0 in
    six_joined (replicate f.left 32) f.sign.now f.mark.now (replicate f.zeros 48) (take w.result.1 w.new.out) (replicate f.right 32)
    ∙ w.ensures.computed
    ∙ (λ i. float_text (c.float_conv.ensures i) (c.number_of.ensures i))
