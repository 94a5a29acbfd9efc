use Rattle.std.proofs.Common.{inl, inr, map, refl, string_bytes, sym}
use Rattle.sf_command.proofs.EntryLemmas.Asking.{can_run, was_read}
use Rattle.sf_command.proofs.entry.program.run_program.Goals as goal

pub run_open-closed-requires : goal.run_open-closed-requires
run_open-closed-requires g c = can_run (map string_bytes c.args.words.now) c.read_words-asked.result c.read_words-asked.ensures.order

pub returns-in-Ok : goal.returns-in-Ok
returns-in-Ok g c =
    let words = map string_bytes c.args.words.now in
    let asked = c.read_words-asked.result in
    let read = was_read words asked c.read_words-asked.ensures.order c.read_words-asked.ensures.taken c.read_words-asked.ensures.refused in
    let (ran, (closed, (said, (answer, exits, closes, back)))) = c.run_open-closed.ensures in
    record {
      first = c.new-errors.result;
      last = c.run_open-closed.new.errors;
      start = c.new-errors.ensures.contents;
      sound = c.new-errors.ensures.failures;
      end = sym c.into_writer.ensures;
      does = inl (record {
        asked = asked;
        opened = c.in-Ok.opened;
        ran = ran;
        closed = closed;
        said = said;
        answer = answer;
        empty = c.in-Ok.ensures.contents;
        sound = c.in-Ok.ensures.failures;
        fresh = c.in-Ok.ensures.flushed;
        read = read;
        runs = exits;
        at_once = λ awaited. c.in-Ok.ensures.nothing (c.is_awaited.ensures.1 awaited);
        closes = closes;
        back = back;
      });
    }

pub returns-in-Err : goal.returns-in-Err
returns-in-Err g c = record {
  first = c.new-errors.result;
  last = c.say_fault.new.errors;
  start = c.new-errors.ensures.contents;
  sound = c.new-errors.ensures.failures;
  end = sym c.into_writer-in-Err.ensures;
  does = inr (refl, refl, c.in-Err.ensures.back, c.say_fault.ensures, c.status.ensures);
}
