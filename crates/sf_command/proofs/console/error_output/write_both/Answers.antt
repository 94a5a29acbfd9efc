use Rattle.std.proofs.Common.{◌∙◌, false, inl, refl, sym}
use Rattle.sf_records.proofs.LinewiseLemmas.Telling.{on_ok, tells_then}
use Rattle.sf_command.proofs.ConsoleLemmas.Saying.{written}
use Rattle.sf_command.proofs.console.error_output.write_both.Goals as goal

pub returns-else-is_err-clause-told : goal.returns-else-is_err-clause-told
returns-else-is_err-clause-told g c =
    tells_then false false _ (g.C.Console.said c.args.err.now) (g.C.Console.said c.write.new.err)
    (g.C.Console.said c.write-else-is_err.new.err) c.args.one.now c.args.other.now
    (inl (refl, refl, on_ok c.write.result (sym c.is_err.ensures.value ∙ c.if-is_err.false) c.write.ensures.took))
    (written c.write-else-is_err.result _ (g.C.Console.said c.write.new.err)
    (g.C.Console.said c.write-else-is_err.new.err) c.args.other.now c.is_err-else-is_err.ensures.value c.write-else-is_err.ensures.took
    c.write-else-is_err.ensures.failed)
