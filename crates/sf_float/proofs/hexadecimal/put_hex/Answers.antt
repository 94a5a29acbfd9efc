use Rattle.std.proofs.Common.{◌≡◌, ◌-◌, ◌/◌, ◌%◌, ◌^◌, ◌++◌, ◌∷◌, [], take, ap, ◌∙◌, arith, append_assoc}
use Rattle.sf_float.specs.Hexadecimal.{hex_digits, hex_digit}
use Rattle.sf_float.proofs.Hexadecimals.{grown}
use Rattle.sf_float.proofs.hexadecimal.put_hex.Goals as goal

pub loop-k-preserved : goal.loop-k-preserved
loop-k-preserved c =
    let l = c.loop-k in
    let p = c.put-end in
    let v = c.args.m in
    let front = take c.args.at c.args.out.now in
    let b : c.byte_of.result ≡ hex_digit (v / 16 ^ (l.k - 1) % 16) = c.byte_of.ensures ∙ ap hex_digit c.digit_at.ensures.value in (
      omega (arith, l.invariant.0),
      omega (arith, l.invariant.1),
      omega (arith, p.ensures.end, l.invariant.2),
      ap (λ t. take t p.new.out) p.ensures.end ∙ p.ensures.written
          ∙ (λ i. l.invariant.3 i ++ b i ∷ [])
          ∙ append_assoc front (hex_digits (c.args.from - l.k) (v / 16 ^ l.k)) _
          ∙ ap (λ t. front ++ t) (grown v c.args.from l.k (omega arith) l.invariant.1),
    )
