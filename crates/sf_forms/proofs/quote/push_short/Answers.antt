use Rattle.std.proofs.Common.{◌+◌, ◌∙◌, arith}
use Rattle.sf_forms.proofs.Short.{short_quoted, written_back}
use Rattle.sf_forms.proofs.quote.push_short.Goals as goal

pub returns-clause-pushed : goal.returns-clause-pushed
returns-clause-pushed c =
    c.truncate.ensures.items ∙ written_back _ _ c.copy_over.new.buf _ (omega (arith, c.copy_over.auto.buf, c.deref_mut.ensures.len))
    ∙ short_quoted c.args.output.now.items c.args.bytes.now c.deref_mut.result.now c.copy_over.new.buf (c.len-start.result + 1) _
    (omega (arith, c.len-start.ensures, c.args.output.now.ok.0)) (omega arith) c.requires
    (c.deref_mut.ensures.value ∙ c.in_ok-extend_from_slice.ensures.items) c.copy_over.ensures
