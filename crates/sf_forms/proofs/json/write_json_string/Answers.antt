use Rattle.std.proofs.Common.{ℕ, List, arith, sym, true≢false}
use Rattle.sf_forms.specs.JsonStrings.{json_from}
use Rattle.sf_forms.proofs.Filling.{around_length, ends_at, quotes_around}
use Rattle.sf_forms.proofs.json.write_json_string.Goals as goal

pub returns-clause-written : goal.returns-clause-written
returns-clause-written c =
    quotes_around c.args.buf.now c.write_byte-start.new.buf c.write_characters.new.buf c.write_byte.new.buf
    (json_from 0 c.args.bytes.now) c.args.at c.write_byte-start.result c.in_ok-end.end
    c.write_byte.result c.write_byte-start.ensures.written c.in_ok-end.ensures.written c.write_byte.ensures.written

pub returns-in_err-end-clause-answers : goal.returns-in_err-end-clause-answers
returns-in_err-end-clause-answers c room =
    let text : List ℕ = json_from 0 c.args.bytes.now in
    absurd (true≢false (sym (c.in_err-end.ensures.answers (omega (arith, room, around_length text, c.write_byte-start.ensures.end)))))

pub returns-then-end-buf-clause-answers : goal.returns-then-end-buf-clause-answers
returns-then-end-buf-clause-answers c room =
    let text : List ℕ = json_from 0 c.args.bytes.now in
    absurd (omega (
      arith,
      room,
      around_length text,
      c.write_byte-start.ensures.end,
      ends_at c.write_byte-start.new.buf c.write_characters.new.buf text c.write_byte-start.result c.in_ok-end.end (omega arith)
          c.in_ok-end.ensures.within c.in_ok-end.ensures.written,
    ))
