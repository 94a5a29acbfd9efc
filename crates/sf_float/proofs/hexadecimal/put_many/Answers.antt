use Rattle.std.proofs.Common.{◌≡◌, ◌-◌, ◌+◌, ◌*◌, ◌/◌, ◌%◌, ◌^◌, ◌++◌, [], ◌∷◌, ◌||◌, if◌then◌else◌, take, replicate, sym, ap, ◌∙◌, arith}
use Rattle.std.proofs.Common.{lt-ltb}
use Rattle.std.proofs.Math.Nat.{div-one, le_of_lt}
use Rattle.std.specs.Float.Ieee.Nearest.{closest}
use Rattle.sf_float.specs.Hexadecimal.{hex_digit, hex_digits}
use Rattle.sf_float.proofs.Hexadecimals.{many_digits, whole_of_many, hex_with_zeros}
use Rattle.sf_float.proofs.hexadecimal.put_many.Goals as goal

pub returns-clause-written : goal.returns-clause-written
returns-clause-written c =
    let m = c.args.m in
    let d = c.args.decimals in
    let w = d - 13 in
    let wide = m * 16 ^ w in
    let h = c.requires.0 in
    let e : 13 + w ≡ d = omega arith in
    let first = c.put_hex-end.ensures.written in
    let pointed = ap (λ k. take k c.put-end.new.out) c.put-end.ensures.end ∙ c.put-end.ensures.written ∙ ap (λ t. t ++ 46 ∷ []) first in
    let digits = c.put_hex-end-2.ensures.written ∙ (λ i. pointed i ++ hex_digits 13 (div-one m i)) in
    c.put_zeros.ensures.written
    ∙ ap (λ t. t ++ replicate w 48) digits
    ∙ ap (λ t. hex_digit (m / 16 ^ 13 % 16) ∷ 46 ∷ t) (sym (hex_with_zeros 13 w m) ∙ ap (λ k. hex_digits k wide) e)
    ∙ ap (λ q. hex_digit (q % 16) ∷ 46 ∷ hex_digits d wide) (whole_of_many m d h)
    ∙ ap (λ n. hex_digit (n / 16 ^ d % 16) ∷ 46 ∷ hex_digits d n) (many_digits m d (le_of_lt h))
    ∙ ap (λ b. hex_digit (closest (m * 16 ^ d) (2 ^ 52) / 16 ^ d % 16) ∷
    (if b || c.args.alt then 46 ∷ hex_digits d (closest (m * 16 ^ d) (2 ^ 52)) else [])) (sym (lt-ltb 0 d (omega arith)))
