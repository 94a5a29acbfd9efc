use Rattle.std.proofs.Common.{◌∙◌, ◌∷◌, ◌++◌, [], List, ℕ, ap, arith, codes, take}
use Rattle.sf_forms.proofs.Heading.{front_is, front_length}
use Rattle.sf_forms.proofs.headed_line.write_front.Goals as goal

pub returns-clause-written : goal.returns-clause-written
returns-clause-written c =
    front_is c.args.tag c.args.destinations c.write_tag.result (take c.write_all-start.result c.write_all-start.new.buf) c.write_tag.new.buf
    c.if-is_none.ensures
    (c.write_all-start.ensures.written
    ∙ ap (λ (t : List ℕ). t ++ 34 ∷ (codes "format" ++ 34 ∷ 58 ∷ [])) c.write_byte-brace.ensures.written) c.write_tag.ensures.written

pub returns-clause-answers : goal.returns-clause-answers
returns-clause-answers c room =
    c.write_tag.ensures.answers (omega (
      arith,
      room,
      front_length c.args.tag c.args.destinations c.if-is_none.ensures,
      c.write_byte-brace.ensures.end,
      c.write_byte-brace.auto.buf,
      c.write_all-start.ensures.end,
      c.write_all-start.auto.buf,
    ))
