use Rattle.std.proofs.Common.{rules}
use Rattle.sf_print.proofs.sink.list_sink.ListSink.bytes.Goals as goal

pub returns : goal.returns
returns c = search rules
