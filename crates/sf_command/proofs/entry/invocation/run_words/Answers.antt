use Rattle.std.proofs.Common.{map, rules, string_bytes}
use Rattle.sf_command.proofs.EntryLemmas.Asking.{can_run, was_read}
use Rattle.sf_command.proofs.entry.invocation.run_words.Goals as goal

pub run_ahead-requires : goal.run_ahead-requires
run_ahead-requires g c = (
  search rules,
  can_run (map string_bytes c.args.words.now) c.read_words-asked.result
      c.read_words-asked.ensures.order,
)

pub returns : goal.returns
returns g c =
    let asked = c.read_words-asked.result in
    let read = was_read (map string_bytes c.args.words.now) asked c.read_words-asked.ensures.order c.read_words-asked.ensures.taken
    c.read_words-asked.ensures.refused in
    (asked, c.run_ahead.result, record { read = read; done = c.run_ahead.ensures }, c.exit_of.ensures)
