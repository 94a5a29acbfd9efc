use Rattle.std.proofs.Common.{map}
use Rattle.std.specs.Option.{option_map}
use Rattle.sf_base.specs.Data.{datum_of}
use Rattle.sf_print.proofs.Judged.{given_measured_kept}
use Rattle.sf_forms.proofs.MakerLemmas.Faults.{sink_part}
use Rattle.sf_forms.proofs.makers.print.print_given.Goals as goal

pub returns-in-Err-Sink-clause-made : goal.returns-in-Err-Sink-clause-made
returns-in-Err-Sink-clause-made g c =
    sink_part _ _ (given_measured_kept c.args.print.now (map (option_map datum_of) c.args.given.now)) _ _ c.in-Err-Sink.field-0 _ _
    c.in-Err-Sink.field-0-is c.in-Err-Sink.ensures.refused c.in-Err-Sink.ensures.written
