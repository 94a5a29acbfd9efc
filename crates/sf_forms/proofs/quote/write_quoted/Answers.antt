use Rattle.std.proofs.Common.{[], ◌∷◌, arith, length-append}
use Rattle.std.specs.List.{flat_map}
use Rattle.sf_forms.specs.Quotes.{escaped}
use Rattle.sf_forms.proofs.Filling.{written_after}
use Rattle.sf_forms.proofs.quote.write_quoted.Goals as goal

pub returns-clause-written : goal.returns-clause-written
returns-clause-written c =
    written_after c.write_rest.result c.args.buf.now c.write_byte-start.new.buf c.write_rest.new.buf (34 ∷ []) _ c.args.at
    c.write_byte-start.result c.write_byte-start.ensures.written c.write_rest.ensures.written

pub returns-clause-answers : goal.returns-clause-answers
returns-clause-answers c room =
    c.write_rest.ensures.answers (omega (
      arith,
      room,
      length-append (flat_map escaped c.args.bytes.now) (34 ∷ []),
      c.write_byte-start.ensures.end,
      c.write_byte-start.auto.buf,
    ))
