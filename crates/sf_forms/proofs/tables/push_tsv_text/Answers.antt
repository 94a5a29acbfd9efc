use Rattle.std.proofs.Common.{◌∙◌, rules, sym}
use Rattle.sf_forms.specs.Tables.{tsv_escaped}
use Rattle.sf_forms.proofs.Escaping.{plain_text, tsv_keeps}
use Rattle.sf_forms.proofs.tables.push_tsv_text.Goals as goal

pub returns-then-plain_run-bytes-clause-pushed : goal.returns-then-plain_run-bytes-clause-pushed
returns-then-plain_run-bytes-clause-pushed c =
    rw (plain_text tsv_escaped tsv_keeps c.args.bytes.now (sym c.plain_run.ensures.count ∙ c.if-plain_run-bytes.true))
    (search (rules, c.extend_from_slice.ensures.items))
