use Rattle.std.proofs.Common.{length, ap, arith, ◌∙◌, sym}
use Rattle.sf_forms.proofs.Rooms.{around, plain_string, written_as}
use Rattle.sf_forms.proofs.json.write_long.Goals as goal

pub returns-then-are_plain-clause-written : goal.returns-then-are_plain-clause-written
returns-then-are_plain-clause-written c =
    written_as c.write_plain.result c.args.buf.now c.write_plain.new.buf _ _ c.args.at
    (plain_string c.args.bytes.now (sym c.are_plain.ensures ∙ c.if-are_plain.true)) c.write_plain.ensures.written

pub returns-then-are_plain-clause-answers : goal.returns-then-are_plain-clause-answers
returns-then-are_plain-clause-answers c room =
    c.write_plain.ensures.answers (omega (
      arith,
      room,
      ap length (plain_string c.args.bytes.now (sym c.are_plain.ensures ∙ c.if-are_plain.true)),
      around c.args.bytes.now,
    ))
