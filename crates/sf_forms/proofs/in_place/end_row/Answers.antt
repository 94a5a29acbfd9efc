use Rattle.std.proofs.Common.{List, ℕ, [], ◌∷◌, ◌++◌, ap, sym, ◌∙◌, arith}
use Rattle.sf_forms.proofs.InPlace.{csv_ended, lone_ended}
use Rattle.sf_forms.proofs.in_place.end_row.Goals as goal

pub returns-then-end-gt1-clause-ended : goal.returns-then-end-gt1-clause-ended
returns-then-end-gt1-clause-ended c texts is =
    csv_ended texts c.args.buf.now c.end_line.new.buf c.args.end c.requires.some (λ one. omega (arith, one, c.if-end-gt1.true))
    c.requires.within is c.end_line.ensures

pub returns-clause-ended : goal.returns-clause-ended
returns-clause-ended c texts is =
    c.write_byte.ensures.written ∙ ap (λ (t : List ℕ). t ++ 10 ∷ []) (c.write_byte-third.ensures.written
    ∙ ap (λ (t : List ℕ). t ++ 34 ∷ []) c.write_byte-second.ensures.written)
    ∙ sym (lone_ended texts c.args.buf.now c.args.end (omega (arith, c.requires.some, c.if-end-gt1.false)) c.requires.within is)
