use Rattle.std.proofs.Common.{map, string_bytes}
use Rattle.sf_command.proofs.EntryLemmas.Asking.{can_run, was_read}
use Rattle.sf_command.proofs.entry.invocation.tool_over.Goals as goal

pub run_asked-requires : goal.run_asked-requires
run_asked-requires g c = can_run (map string_bytes c.args.words.now) c.read_words-asked.result c.read_words-asked.ensures.order

pub returns : goal.returns
returns g c =
    let words = map string_bytes c.args.words.now in
    let read = was_read words c.read_words-asked.result c.read_words-asked.ensures.order c.read_words-asked.ensures.taken
    c.read_words-asked.ensures.refused in
    (c.read_words-asked.result, read, c.run_asked.result, c.run_asked.ensures, c.exit_of.ensures)
