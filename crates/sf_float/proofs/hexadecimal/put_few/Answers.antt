use Rattle.std.proofs.Common.{◌≡◌, ◌-◌, ◌+◌, ◌/◌, ◌^◌, ◌++◌, ap, ◌∙◌, arith}
use Rattle.std.proofs.Math.Nat.{div-one}
use Rattle.sf_float.specs.Hexadecimal.{hex_digits, hex_point, hex_text}
use Rattle.sf_float.proofs.Hexadecimals.{few_digits}
use Rattle.sf_float.proofs.hexadecimal.put_few.Goals as goal

pub returns-clause-written : goal.returns-clause-written
returns-clause-written c =
    let d = c.args.decimals in
    let n = c.nearest_shifted-n.result in
    let e : d + 1 - d ≡ 1 = omega arith in
    let z : d - 0 ≡ d = omega arith in
    c.put_hex_point.ensures.written
    ∙ (λ i. c.put_hex-end.ensures.written i ++ hex_point c.args.alt (z i) (div-one n i))
    ∙ ap (λ k. hex_digits k (n / 16 ^ d) ++ hex_point c.args.alt d n) e
    ∙ ap (hex_text c.args.alt d) (c.nearest_shifted-n.ensures.value ∙ few_digits c.args.m d c.requires.0)
