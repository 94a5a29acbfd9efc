use Rattle.std.proofs.Common.{sym, ◌∙◌}
use Rattle.sf_float_read.proofs.ValueLemmas.FormsApart.{infinity_at, nan_at, prefix_at}
use Rattle.sf_float_read.proofs.value.form.form_of.Goals as goal

pub returns-in-105 : goal.returns-in-105
returns-in-105 c = infinity_at c.args.size.now c.requires (sym c.to_ascii_lowercase.ensures.value ∙ c.in-105.is)

pub returns-in-110 : goal.returns-in-110
returns-in-110 c = nan_at c.args.size.now c.requires (sym c.to_ascii_lowercase.ensures.value ∙ c.in-110.is)

pub returns-in-48 : goal.returns-in-48
returns-in-48 c =
    prefix_at c.args.size.now c.if-size-gt1.true c.requires (sym c.to_ascii_lowercase.ensures.value ∙ c.in-48.is)
    (sym c.to_ascii_lowercase-then-size-gt1.ensures.value ∙ c.if-to_ascii_lowercase-eq120.true)
