-- Texts that were copied into a buffer.
use Rattle.std.proofs.Common.{◌≡◌, ℕ, ◌+◌, ◌≤◌, List, ◌++◌, length, take, sym, ap, ◌∙◌, arith, append_assoc, length-append}
use Rattle.std.proofs.lemmas.List.{length-take-le, take_at}

-- the front of what was copied
pub part_written : (buf new text more rest : List ℕ) (at n : ℕ) → at ≤ length buf → n ≡ length text
    → new ≡ take at buf ++ ((text ++ more) ++ rest) → take (at + n) new ≡ take at buf ++ text
part_written buf new text more rest at n start is_long is =
    let whole : new ≡ (take at buf ++ text) ++ (more ++ rest) =
    is ∙ ap (λ (t : List ℕ). take at buf ++ t) (append_assoc text more rest) ∙ sym (append_assoc (take at buf) text (more ++ rest)) in
    let long : length (take at buf ++ text) ≡ at + n =
    omega (arith, length-append (take at buf) text, length-take-le at buf start, is_long) in
    ap (take (at + n)) whole ∙ take_at (take at buf ++ text) (more ++ rest) (at + n) long
