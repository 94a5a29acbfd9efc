use Rattle.std.proofs.Common.{◌≡◌, ◌∙◌, Bool, cond, map, ap, sym, Err}
use Rattle.std.proofs.lemmas.Result.{err_from_is_err_and}
use Rattle.std.specs.Option.{option_map}
use Rattle.sf_base.specs.Data.{datum_of}
use Rattle.sf_print.specs.sink.Sinks.{counted_on}
use Rattle.sf_print.specs.Given.{given_measured}
use Rattle.sf_print.specs.Printed.{is_sink_fault}
use Rattle.sf_print.proofs.Judged.{given_measured_kept}
use Rattle.sf_print.proofs.given.fprint_given.Goals as goal

pub returns-in_err-measure_given-clause-failures : goal.returns-in_err-measure_given-clause-failures
returns-in_err-measure_given-clause-failures g c =
    let p = err_from_is_err_and c.from_residual.result c.from_residual.ensures.1 in
    let e : c.from_residual.result ≡ given_measured c.args.format.now (map (option_map datum_of) c.args.given.now) =
    p.1 ∙ ap Err p.2 ∙ sym c.in_err-measure_given.ensures.told in
    sym (ap (λ (t : Bool). cond t (counted_on (g.K.Sink.failures c.args.to.now)) (g.K.Sink.failures c.args.to.now))
    (ap is_sink_fault e ∙ given_measured_kept c.args.format.now (map (option_map datum_of) c.args.given.now)))
