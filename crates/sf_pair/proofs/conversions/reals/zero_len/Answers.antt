use Rattle.sf_pair.proofs.ConversionLemmas.RealCode.{zero_len_so}
use Rattle.sf_pair.proofs.conversions.reals.zero_len.Goals as goal

pub returns : goal.returns
returns c = zero_len_so c.args.conv.now c.float_style-style.result c.sign_len.result c.hidden_len.result c.mark_len.result
    c.zero_digits_len.result c.filled_len.result c.float_style-style.ensures.text c.sign_len.ensures c.hidden_len.ensures
    c.mark_len.ensures c.zero_digits_len.ensures.len c.filled_len.ensures
