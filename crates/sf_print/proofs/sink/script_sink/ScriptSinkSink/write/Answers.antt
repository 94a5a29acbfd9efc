use Rattle.std.proofs.Common.{rules}
use Rattle.sf_print.proofs.sink.script_sink.ScriptSinkSink.write.Goals as goal

pub returns-then-is_ok-clause-script : goal.returns-then-is_ok-clause-script
returns-then-is_ok-clause-script c = search rules
