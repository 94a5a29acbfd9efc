use Rattle.std.proofs.Common.{sym, ap, ◌∙◌, subst}
use Rattle.std.specs.Float.Ieee.{of_bits}
use Rattle.sf_float_read.specs.declared.item.reached.Radix.TheVariants.{Sixteen}
use Rattle.sf_float_read.specs.item.Sequences.{IsExponentPart}
use Rattle.sf_float_read.proofs.ItemLemmas.Joined.{numeral_of, exponent_from}
use Rattle.sf_float_read.specs.value.Formats.{format_of}
use Rattle.sf_float_read.proofs.ValueLemmas.HexParts.{whole_drop, exponent_rest, of_raised, of_lowered}
use Rattle.sf_float_read.proofs.value.hexadecimal.hexadecimal.Goals as goal

pub read_exponent-negative-requires : goal.read_exponent-negative-requires
read_exponent-negative-requires c =
    let t = c.args.numeral.now in
    let r = c.read_digits-at.ensures.read in
    let n = numeral_of Sixteen t c.requires in
    let read = r.2 ∙ ap (λ s. (r.0, c.read_digits-at.result.0.places, s)) (sym (whole_drop t c.read_digits-at.result.1)) in
    subst (IsExponentPart Sixteen) (exponent_rest (format_of c.args.kind) t _ n r.0 c.read_digits-at.result.0.places read)
    (exponent_from Sixteen n.exponent n.raised)

pub returns-then-negative-clause-value : goal.returns-then-negative-clause-value
returns-then-negative-clause-value c =
    let t = c.args.numeral.now in
    let r = c.read_digits-at.ensures.read in
    let e = c.read_exponent-negative in
    let read = r.2 ∙ ap (λ s. (r.0, c.read_digits-at.result.0.places, s)) (sym (whole_drop t c.read_digits-at.result.1)) in
    of_lowered (format_of c.args.kind) t _ (numeral_of Sixteen t c.requires) r.0 c.read_digits-at.result.0.places read
    (of_bits (format_of c.args.kind) c.lowered.result)
    (sym e.ensures.minus ∙ c.if-negative.true) (c.lowered.ensures r.0 _ r.1 e.ensures.number).0

pub returns-then-negative-clause-most : goal.returns-then-negative-clause-most
returns-then-negative-clause-most c = let r = c.read_digits-at.ensures.read in
    (c.lowered.ensures r.0 _ r.1 c.read_exponent-negative.ensures.number).1

pub returns-else-negative-clause-value : goal.returns-else-negative-clause-value
returns-else-negative-clause-value c =
    let t = c.args.numeral.now in
    let r = c.read_digits-at.ensures.read in
    let e = c.read_exponent-negative in
    let read = r.2 ∙ ap (λ s. (r.0, c.read_digits-at.result.0.places, s)) (sym (whole_drop t c.read_digits-at.result.1)) in
    of_raised (format_of c.args.kind) t _ (numeral_of Sixteen t c.requires) r.0 c.read_digits-at.result.0.places read
    (of_bits (format_of c.args.kind) c.raised.result)
    (sym e.ensures.minus ∙ c.if-negative.false) (c.raised.ensures r.0 _ r.1 e.ensures.number).0

pub returns-else-negative-clause-most : goal.returns-else-negative-clause-most
returns-else-negative-clause-most c = let r = c.read_digits-at.ensures.read in
    (c.raised.ensures r.0 _ r.1 c.read_exponent-negative.ensures.number).1
