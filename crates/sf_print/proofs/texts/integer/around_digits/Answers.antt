use Rattle.std.proofs.Common.{refl}
use Rattle.sf_print.proofs.TextLemmas.Around.{laid, abs_of}
use Rattle.sf_print.proofs.texts.integer.around_digits.Goals as goal

pub returns : goal.returns
returns c =
    let p = c.padding-left.ensures in
    laid c.args.conv.now _ c.args.magnitude c.args.digits.now _ _ _ _ c.leading_zeros-lead.result _ _
    (abs_of c.args.negative c.args.magnitude) c.requires.digits c.sign_bytes-sign.ensures.text c.mark_bytes-mark.ensures.text
    c.leading_zeros-lead.ensures.text refl p.left p.inner p.right
