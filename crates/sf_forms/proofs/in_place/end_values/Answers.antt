use Rattle.std.proofs.Common.{arith}
use Rattle.sf_forms.proofs.InPlace.{closed_if, ends_somewhere, line_ended_in}
use Rattle.sf_forms.proofs.in_place.end_values.Goals as goal

pub returns-then-end-eq0-clause-answers : goal.returns-then-end-eq0-clause-answers
returns-then-end-eq0-clause-answers c texts some is room =
    absurd (ends_somewhere c.args.form texts c.args.buf.now c.args.end some is c.if-end-eq0.true)

pub returns-in-Json-clause-ended : goal.returns-in-Json-clause-ended
returns-in-Json-clause-ended c texts is =
    closed_if c.args.form c.close_array.result texts c.args.buf.now c.close_array.new.buf c.args.end c.in-Json.is
    (omega (arith, c.if-end-eq0.false)) c.requires is c.close_array.ensures.written

pub returns-in-Plain-clause-ended : goal.returns-in-Plain-clause-ended
returns-in-Plain-clause-ended c texts is =
    line_ended_in c.args.form texts c.args.buf.now c.end_line.new.buf c.args.end c.in-Plain.is (omega (arith, c.if-end-eq0.false))
    c.requires is c.end_line.ensures
