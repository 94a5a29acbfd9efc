use Rattle.std.proofs.Common.{map, arith}
use Rattle.std.proofs.lemmas.List.{length-map}
use Rattle.sf_base.specs.Data.{datum_of}
use Rattle.sf_print.proofs.InPlace.{row_told, row_written}
use Rattle.sf_print.proofs.print.write_row.Goals as goal

pub returns-clause-written : goal.returns-clause-written
returns-clause-written c =
    row_written c.write_printed.result (map datum_of c.args.values.now) c.args.format.now c.write_printed.new.buf
    c.write_printed.ensures.written

pub returns-clause-measured : goal.returns-clause-measured
returns-clause-measured c =
    row_told c.write_printed.result (map datum_of c.args.values.now) c.args.format.now c.write_printed.new.buf
    (omega (arith, length-map c.args.values.now datum_of, c.values.ensures.count, c.if-values.false))
    (omega (arith, c.requires, c.write_printed.auto.buf)) c.write_printed.ensures.within c.write_printed.ensures.written
    c.write_printed.ensures.suited
