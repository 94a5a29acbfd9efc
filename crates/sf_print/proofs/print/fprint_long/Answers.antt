use Rattle.std.proofs.Common.{◌≡◌, ◌∙◌, Bool, cond, map, ap, sym, Err}
use Rattle.std.proofs.lemmas.Result.{err_from_is_err_and}
use Rattle.sf_base.specs.Data.{datum_of}
use Rattle.sf_print.specs.sink.Sinks.{counted_on}
use Rattle.sf_print.specs.Printed.{measured, is_sink_fault}
use Rattle.sf_print.proofs.Judged.{measured_kept}
use Rattle.sf_print.proofs.print.fprint_long.Goals as goal

pub returns-in_err-refuse-clause-failures : goal.returns-in_err-refuse-clause-failures
returns-in_err-refuse-clause-failures g c =
    let p = err_from_is_err_and c.from_residual.result c.from_residual.ensures.1 in
    let e : c.from_residual.result ≡ measured c.args.format.now (map datum_of c.args.values.now) =
    p.1 ∙ ap Err p.2 ∙ sym c.in_err-refuse.ensures.told in
    sym (ap (λ (t : Bool). cond t (counted_on (g.K.Sink.failures c.args.to.now)) (g.K.Sink.failures c.args.to.now))
    (ap is_sink_fault e ∙ measured_kept c.args.format.now (map datum_of c.args.values.now)))
