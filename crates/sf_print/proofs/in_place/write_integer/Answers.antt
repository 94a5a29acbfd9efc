use Rattle.std.proofs.Common.{List, ℕ, ◌++◌, take, ap, sym, ◌∙◌, arith}
use Rattle.sf_print.proofs.InPlace.{front_kept, some_front_kept}
use Rattle.sf_print.proofs.TextLemmas.Plainness.{plain_shown}
use Rattle.sf_print.proofs.in_place.write_integer.Goals as goal

pub returns-then-not-is_plain_conv-clause-before : goal.returns-then-not-is_plain_conv-clause-before
returns-then-not-is_plain_conv-clause-before c =
    some_front_kept c.write_padded_number.result c.args.buf.now c.write_padded_number.new.buf _ c.args.at c.requires
    c.write_padded_number.ensures.within c.write_padded_number.ensures.written

pub returns-clause-written : goal.returns-clause-written
returns-clause-written c =
    c.write_number.ensures.written
    ∙ ap (λ (t : List ℕ). take c.args.at c.args.buf.now ++ t)
    (sym (plain_shown c.args.conv.now c.args.number (sym c.is_plain_conv.ensures ∙ c.if-not-is_plain_conv.false)))

pub returns-clause-before : goal.returns-clause-before
returns-clause-before c =
    front_kept c.args.buf.now c.write_number.new.buf _ c.args.at c.write_number.result c.requires
    (omega (arith, c.write_number.ensures.most, c.write_number.auto.buf, c.if-buf-at-lt-NUMBER_BYTES.false)) c.write_number.ensures.written
