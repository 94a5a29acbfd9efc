use Rattle.std.proofs.Common.{false, ap, sym, ◌∙◌, arith}
use Rattle.std.specs.Fmt.{digits, decimal}
use Rattle.sf_print.specs.texts.Text.{base_of, is_upper}
use Rattle.sf_print.proofs.DigitLemmas.Digits.{length_most}
use Rattle.sf_print.proofs.TextLemmas.Around.{ten, to_end, from_start}
use Rattle.sf_print.proofs.texts.integer.write_magnitude.Goals as goal

pub write_digits-requires-clause-room : goal.write_digits-requires-clause-room
write_digits-requires-clause-room c = (length_most _ _ _, omega arith)

pub write_digits-requires-in-HexLower-clause-room : goal.write_digits-requires-in-HexLower-clause-room
write_digits-requires-in-HexLower-clause-room c = (length_most _ _ _, omega arith)

pub write_digits-requires-in-HexUpper-clause-room : goal.write_digits-requires-in-HexUpper-clause-room
write_digits-requires-in-HexUpper-clause-room c = (length_most _ _ _, omega arith)

pub write_digits-requires-in-Binary-clause-room : goal.write_digits-requires-in-Binary-clause-room
write_digits-requires-in-Binary-clause-room c = (length_most _ _ _, omega arith)

pub write_decimal-requires-clause-digits : goal.write_decimal-requires-clause-digits
write_decimal-requires-clause-digits c = omega (arith, length_most 10 false c.args.magnitude)

pub returns-in-Octal-clause-written : goal.returns-in-Octal-clause-written
returns-in-Octal-clause-written c =
    to_end c.write_digits.result _ _ c.args.buf.now c.write_digits.ensures.start (omega arith) c.write_digits.ensures.written
    ∙ ap (λ l. digits (base_of l) (is_upper l) c.args.magnitude) (sym c.in-Octal.is)

pub returns-in-HexLower-clause-written : goal.returns-in-HexLower-clause-written
returns-in-HexLower-clause-written c =
    to_end c.write_digits-in-HexLower.result _ _ c.args.buf.now c.write_digits-in-HexLower.ensures.start
    (omega arith) c.write_digits-in-HexLower.ensures.written ∙ ap (λ l. digits (base_of l) (is_upper l) c.args.magnitude)
    (sym c.in-HexLower.is)

pub returns-in-HexUpper-clause-written : goal.returns-in-HexUpper-clause-written
returns-in-HexUpper-clause-written c =
    to_end c.write_digits-in-HexUpper.result _ _ c.args.buf.now c.write_digits-in-HexUpper.ensures.start
    (omega arith) c.write_digits-in-HexUpper.ensures.written ∙ ap (λ l. digits (base_of l) (is_upper l) c.args.magnitude)
    (sym c.in-HexUpper.is)

pub returns-in-Binary-clause-written : goal.returns-in-Binary-clause-written
returns-in-Binary-clause-written c =
    to_end c.write_digits-in-Binary.result _ _ c.args.buf.now c.write_digits-in-Binary.ensures.start
    (omega arith) c.write_digits-in-Binary.ensures.written ∙ ap (λ l. digits (base_of l) (is_upper l) c.args.magnitude)
    (sym c.in-Binary.is)

pub returns-in_default-clause-written : goal.returns-in_default-clause-written
returns-in_default-clause-written c =
    let t = ten c.args.letter c.in_default.not-Octal c.in_default.not-HexLower c.in_default.not-HexUpper c.in_default.not-Binary in
    from_start c.write_decimal.result (decimal c.args.magnitude) _ c.args.buf.now c.write_decimal.ensures.written
    ∙ (λ i. digits (t.0 i) (t.1 i) c.args.magnitude)
