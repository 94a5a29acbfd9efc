-- Bytes that are moved over those of a block.
use Rattle.std.proofs.Common.{◌≡◌, ◌+◌, ◌≤◌, ◌∙◌, ℕ, List, ◌++◌, length, take, drop, sym, ap, arith}
use Rattle.std.proofs.lemmas.List.{length-take-le, take-take, take_at}
use Rattle.sf_base.proofs.StoreLemmas.EntryLemmas.{front_moved}

-- of more bytes that were moved over those at the place, the first count
pub moved_over : (at count more len : ℕ) (items new piece : List ℕ) → len ≡ length items → length new ≡ length items → at ≤ length items
    → more ≤ length piece → count ≤ more → take (at + length (take more piece)) new ≡ take at items ++ take more piece
    → take (at + count) (take len (new ++ drop (length new) items)) ≡ take at items ++ take count piece
moved_over at count more len items new piece is_len same inside long few moved =
    let whole : take len (new ++ drop (length new) items) ≡ new = take_at new (drop (length new) items) len (omega (arith, same, is_len)) in
    let all : length (take more piece) ≡ more = length-take-le more piece long in
    let front : length (take at items) ≡ at = length-take-le at items inside in
    ap (take (at + count)) whole
    ∙ sym (take-take (at + count) (at + length (take more piece)) new (omega (arith, all, few)))
    ∙ ap (take (at + count)) moved
    ∙ front_moved (take at items) piece count more (at + count) few (omega (arith, front))
