use Rattle.std.proofs.Common.{set, refl, arith}
use Rattle.sf_forms.proofs.Short.{quoted_in_place}
use Rattle.sf_forms.proofs.quote.write_plain.Goals as goal

pub returns-clause-written : goal.returns-clause-written
returns-clause-written c =
    quoted_in_place c.args.buf.now (set c.args.buf.now c.args.at 34) c.copy_over.new.buf c.args.bytes.now c.args.at _ (omega arith)
    (omega arith) refl c.copy_over.ensures
