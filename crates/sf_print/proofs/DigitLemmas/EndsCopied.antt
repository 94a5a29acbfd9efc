-- A text copied by its ends.
use Rattle.std.proofs.Common.{◌≡◌, ℕ, ◌+◌, ◌-◌, ◌≤◌, List, ◌++◌, length, take, drop, append_assoc, refl, sym, ap, ◌∙◌, arith}
use Rattle.std.proofs.lemmas.List.{drop-drop, take_all, take-take, take-append-drop, length-take, length-take-le, length-drop}
use Rattle.std.proofs.lemmas.List.{length-append}
use Rattle.std.proofs.lemmas.Slice.{take-put_mid, drop-put_mid}
use Rattle.std.proofs.Math.Seq.{take-append-add}
use Rattle.std.proofs.lemmas.Simd.{put_chunk_is}
use lib.Lanes.{chunk, put_chunk}
use borrow.Rule.Slice.PartMut.{put_mid}

pub ends_copied : (b xs p q : List ℕ) (at w k l : ℕ) → w ≤ length xs → length xs ≤ w + w → at + length xs ≤ length b → k ≡ w → l ≡ w
    → p ≡ take w xs → q ≡ drop (length xs - w) xs
    → put_mid (at + length xs - w) l (put_mid at k b p) q ≡ take at b ++ (xs ++ drop (at + length xs) b)
ends_copied b xs p q at w k l low high room k_is l_is p_is q_is =
    let n : ℕ = length xs in
    let long_p : length p ≡ w = ap length p_is ∙ length-take-le w xs low in
    let long_q : length q ≡ w = omega (arith, ap length q_is, length-drop (n - w) xs) in
    let once : List ℕ = put_mid at k b p in
    let whole : List ℕ = put_mid (at + n - w) l once q in
    let front : take (at + w) once ≡ take at b ++ p = take-put_mid at k b p (at + w) (omega arith) (omega arith) in
    let at_long : length (take at b) ≡ at = length-take-le at b (omega arith) in
    let long : at + w ≤ length once = omega (
      arith,
      ap length front,
      length-take (at + w) once,
      length-append (take at b) p,
      at_long,
      long_p,
    ) in
    let place : at + n - w ≡ length (take at b) + (n - w) = omega arith in
    let begun : take (at + n - w) once ≡ take at b ++ take (n - w) xs =
    sym (take-take (at + n - w) (at + w) once (omega arith)) ∙ ap (take (at + n - w)) front ∙ ap (λ (i : ℕ). take i (take at b ++ p)) place
    ∙ take-append-add (take at b) p (n - w) ∙ ap (λ (t : List ℕ). take at b ++ take (n - w) t) p_is
    ∙ ap (λ (t : List ℕ). take at b ++ t) (take-take (n - w) w xs (omega arith)) in
    let written : take (at + n) whole ≡ (take at b ++ take (n - w) xs) ++ drop (n - w) xs =
    take-put_mid (at + n - w) l once q (at + n) (omega arith) (omega arith) ∙ (λ i. begun i ++ q_is i) in
    let rest : drop (at + n) whole ≡ drop (at + n) b =
    drop-put_mid (at + n - w) l once q (at + n) (omega arith) (omega arith) (omega arith)
    ∙ drop-put_mid at k b p (at + n) (omega arith) (omega arith) (omega arith) in
    sym (take-append-drop (at + n) whole) ∙ (λ i. written i ++ rest i)
    ∙ ap (λ (t : List ℕ). t ++ drop (at + n) b) (append_assoc (take at b) (take (n - w) xs) (drop (n - w) xs)
    ∙ ap (λ (t : List ℕ). take at b ++ t) (take-append-drop (n - w) xs))
    ∙ append_assoc (take at b) xs (drop (at + n) b)

-- a part that was copied over a buffer
pub part_put : (at : ℕ) (b p : List ℕ) (w : ℕ) → length p ≡ w → take at b ++ (p ++ drop (at + length p) b) ≡ put_mid at w b p
part_put at b p w long = ap (λ (t : List ℕ). take at b ++ (p ++ t)) (ap (λ (n : ℕ). drop (at + n) b) long ∙ sym (drop-drop w at b))

-- the same by the parts as they were copied
pub parts_copied : (b xs p q c d : List ℕ) (at w e : ℕ) → w ≤ length xs → length xs ≤ w + w → at + length xs ≤ length b
    → p ≡ take w xs → q ≡ drop (length xs - w) xs → e ≡ at + length xs - w → c ≡ take at b ++ (p ++ drop (at + length p) b)
    → d ≡ take e c ++ (q ++ drop (e + length q) c)
    → d ≡ take at b ++ (xs ++ drop (at + length xs) b)
parts_copied b xs p q c d at w e low high room p_is q_is e_is c_is d_is =
    let long_p : length p ≡ w = ap length p_is ∙ length-take-le w xs low in
    let long_q : length q ≡ w = omega (arith, low, ap length q_is, length-drop (length xs - w) xs) in
    let first : c ≡ put_mid at w b p = c_is ∙ part_put at b p w long_p in
    d_is ∙ part_put e c q w long_q ∙ (λ i. put_mid (e_is i) w (first i) q)
    ∙ ends_copied b xs p q at w w w low high room refl refl p_is q_is

-- a part that was copied as one vector
pub lanes_put : (at n : ℕ) (b xs : List ℕ) → length xs ≡ n → at + length xs ≤ length b
    → put_chunk at b (chunk 0 n xs) ≡ take at b ++ (xs ++ drop (at + length xs) b)
lanes_put at n b xs is room =
    let all : chunk 0 n xs ≡ xs = take_all n xs (omega (arith, is)) in
    ap (put_chunk at b) all ∙ put_chunk_is at b xs room ∙ ap (λ (t : List ℕ). take at b ++ (xs ++ t)) (drop-drop (length xs) at b)
