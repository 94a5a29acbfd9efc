use Rattle.sf_forms.proofs.QuotedBytes.{quoted_most, quoted_text}
use Rattle.sf_forms.proofs.escape.quoted_byte.Goals as goal

pub returns-clause-most : goal.returns-clause-most
returns-clause-most c = quoted_most c.args.b c.ranges.b.fits

pub returns-clause-text : goal.returns-clause-text
returns-clause-text c = quoted_text c.args.b c.ranges.b.fits
