use Rattle.std.proofs.Common.{None, false, from_bits, subst, take}
use Rattle.std.specs.Float.{is_sign_negative}
use Rattle.std.specs.Float.Ieee.{Float, binary64}
use lib.Ieee.Bits.{of_bits-fits}
use Rattle.sf_float.specs.Hexadecimal.{IsHexadecimalText}
use Rattle.sf_float_tests.proofs.printed.hexadecimal_of.Goals as goal

pub returns-clause-reads : goal.returns-clause-reads
returns-clause-reads c =
    let t = take c.write_hexadecimal.result c.write_hexadecimal.new.out in
    c.hexadecimal_reads_back.ensures (from_bits binary64 c.args.bits) false None t (of_bits-fits binary64 c.args.bits) tt
    (subst (λ (y : Float). IsHexadecimalText false None y t) c.f64_from_bits_with_nan.ensures c.write_hexadecimal.ensures.text)

pub returns-clause-only : goal.returns-clause-only
returns-clause-only c = λ y h.
    let x = from_bits binary64 c.args.bits in
    let t = take c.write_hexadecimal.result c.write_hexadecimal.new.out in
    c.one_hex_value.ensures binary64 (is_sign_negative x) t y x h
    (c.hexadecimal_reads_back.ensures x false None t (of_bits-fits binary64 c.args.bits) tt
    (subst (λ (y : Float). IsHexadecimalText false None y t) c.f64_from_bits_with_nan.ensures c.write_hexadecimal.ensures.text))
