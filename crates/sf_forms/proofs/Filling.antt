-- Texts that are written in place, by what is left of them to be written.
use Rattle.std.proofs.Common.{◌≡◌, ℕ, zero, suc, ◌+◌, ◌-◌, ◌<◌, ◌≤◌, Bool, true, false, cond, List, [], ◌∷◌, ◌++◌, length, take, drop}
use Rattle.std.proofs.Common.{get_or}
use Rattle.std.proofs.Common.{drop-cons, append_assoc, refl, sym, ap, ◌∙◌, arith, Option, Some, None, IfSome}
use Rattle.std.proofs.lemmas.List.{append-nil, drop-drop, length-append, length-drop, length-take-le, take-append-drop, take-take}
use Rattle.std.proofs.lemmas.List.{take_all, take_at}
use Rattle.std.specs.List.{flat_map, prefix_len, slice_range}

module _ (e : ℕ → List ℕ) where
  -- bytes that stand as they are in front
  pub kept_front : (q : ℕ → Bool) → ((b : ℕ) → q b ≡ true → e b ≡ b ∷ []) → (xs : List ℕ) (n : ℕ) → n ≤ prefix_len q xs
      → flat_map e xs ≡ take n xs ++ flat_map e (drop n xs)
  kept_front q keeps xs zero few = refl
  kept_front q keeps [] (suc n) few = absurd (omega (arith, few))
  kept_front q keeps (x ∷ xs) (suc n) few = go (q x) refl few (λ less. kept_front q keeps xs n less)
    where
      go : (t : Bool) → q x ≡ t → suc n ≤ cond t (1 + prefix_len q xs) 0
          → (n ≤ prefix_len q xs → flat_map e xs ≡ take n xs ++ flat_map e (drop n xs))
          → flat_map e (x ∷ xs) ≡ take (suc n) (x ∷ xs) ++ flat_map e (drop (suc n) (x ∷ xs))
      go true is few h = ap (λ (t : List ℕ). t ++ flat_map e xs) (keeps x is) ∙ ap (λ (t : List ℕ). x ∷ t) (h (omega (arith, few)))
      go false is few h = absurd (omega (arith, few))

  -- a front of what was copied in one piece
  pub lanes_written : (xs buf new rest : List ℕ) (d end n : ℕ) → d + 16 ≤ length xs → end ≤ length buf → n ≤ 16
      → new ≡ take end buf ++ (slice_range xs d (d + 16) ++ rest)
      → flat_map e (drop d xs) ≡ take n (drop d xs) ++ flat_map e (drop n (drop d xs))
      → take (end + n) new ++ flat_map e (drop (d + n) xs) ≡ take end buf ++ flat_map e (drop d xs)
  lanes_written xs buf new rest d end n within room few is kept =
      let ys : List ℕ = drop d xs in
      let begun : List ℕ = take end buf in
      let piece : slice_range xs d (d + 16) ≡ take 16 ys = ap (λ (k : ℕ). take k ys) {x = d + 16 - d} {y = 16} (omega arith) in
      let parts : take 16 ys ≡ take n ys ++ drop n (take 16 ys) = sym (take-append-drop n (take 16 ys))
      ∙ ap (λ (t : List ℕ). t ++ drop n (take 16 ys)) (take-take n 16 ys few) in
      let whole : new ≡ (begun ++ take n ys) ++ (drop n (take 16 ys) ++ rest) =
      is ∙ ap (λ (t : List ℕ). begun ++ (t ++ rest)) (piece ∙ parts)
      ∙ ap (λ (t : List ℕ). begun ++ t) (append_assoc (take n ys) (drop n (take 16 ys)) rest)
      ∙ sym (append_assoc begun (take n ys) (drop n (take 16 ys) ++ rest)) in
      let long : length (begun ++ take n ys) ≡ end + n =
      omega (
        arith,
        length-append begun (take n ys),
        length-take-le end buf room,
        length-take-le n ys (omega (arith, few, within, length-drop d xs)),
      ) in
      let front : take (end + n) new ≡ begun ++ take n ys = ap (take (end + n)) whole
      ∙ take_at (begun ++ take n ys) (drop n (take 16 ys) ++ rest) (end + n) long in
      let left : drop (d + n) xs ≡ drop n ys = sym (drop-drop n d xs) in
      ap (λ (t : List ℕ). t ++ flat_map e (drop (d + n) xs)) front ∙ append_assoc begun (take n ys) (flat_map e (drop (d + n) xs))
      ∙ ap (λ (t : List ℕ). begun ++ t) (ap (λ (t : List ℕ). take n ys ++ flat_map e t) left ∙ sym kept)

  -- one byte more
  pub byte_written : (xs out new : List ℕ) (d : ℕ) → d < length xs → new ≡ out ++ e (get_or xs d 0)
      → new ++ flat_map e (drop (d + 1) xs) ≡ out ++ flat_map e (drop d xs)
  byte_written xs out new d within is =
      let at : drop d xs ≡ get_or xs d 0 ∷ drop (suc d) xs = drop-cons xs d 0 within in
      let next : drop (d + 1) xs ≡ drop (suc d) xs = ap (λ (k : ℕ). drop k xs) {x = d + 1} {y = suc d} (omega arith) in
      rw (is, next, at) (append_assoc out (e (get_or xs d 0)) (flat_map e (drop (suc d) xs)))

  none_left : (xs : List ℕ) (d : ℕ) → length xs ≤ d → flat_map e (drop d xs) ≡ []
  none_left xs d all = none (drop d xs) (omega (arith, all, length-drop d xs))
    where
      none : (ys : List ℕ) → length ys ≤ 0 → flat_map e ys ≡ []
      none [] few = refl
      none (y ∷ ys) few = absurd (omega (arith, few))

  -- nothing is left
  pub all_written : (xs out all : List ℕ) (d : ℕ) → length xs ≤ d → out ++ flat_map e (drop d xs) ≡ all → out ≡ all
  all_written xs out all d none is = sym (append-nil out) ∙ ap (λ (t : List ℕ). out ++ t) (sym (none_left xs d none)) ∙ is

  -- what was written in a block, and pushed
  pub block_pushed : (xs out new block : List ℕ) (d taken end : ℕ) → d ≤ length xs
      → take end block ++ flat_map e (drop taken (slice_range xs d (length xs))) ≡ flat_map e (slice_range xs d (length xs))
      → new ≡ out ++ take end block
      → new ++ flat_map e (drop (d + taken) xs) ≡ out ++ flat_map e (drop d xs)
  block_pushed xs out new block d taken end within written is =
      let part : List ℕ = take end block in
      let rest : slice_range xs d (length xs) ≡ drop d xs =
      take_all (length xs - d) (drop d xs) (omega (arith, within, length-drop d xs)) in
      let left : drop (d + taken) xs ≡ drop taken (drop d xs) = sym (drop-drop taken d xs) in
      rw (is, left) (append_assoc out part (flat_map e (drop taken (drop d xs)))
      ∙ ap (λ (t : List ℕ). out ++ t) (ap (λ (t : List ℕ). part ++ flat_map e (drop taken t)) (sym rest) ∙ written ∙ ap (flat_map e) rest))

  -- of a block with room some bytes are filled from its start on
  pub some_taken : (xs new : List ℕ) (taken end : ℕ) → 0 < length xs → end ≤ length new → 21 ≤ length new
      → (taken < length xs → length new < end + 21) → take end new ++ flat_map e (drop taken xs) ≡ flat_map e xs → 0 < taken
  some_taken xs new zero end some high room full is =
      absurd (omega (
        arith,
        room,
        full some,
        ap length is,
        length-append (take end new) (flat_map e xs),
        length-take-le end new high,
      ))
  some_taken xs new (suc taken) end some high room full is = omega arith

-- ---- room

-- how far a text has come, by what is left of it
pub come : (buf new rest all : List ℕ) (at end : ℕ) → at ≤ length buf → end ≤ length new → take end new ++ rest ≡ take at buf ++ all
    → end + length rest ≡ at + length all
come buf new rest all at end low high is =
    omega (
      arith,
      ap length is,
      length-append (take end new) rest,
      length-append (take at buf) all,
      length-take-le end new high,
      length-take-le at buf low,
    )

-- a text between quotes
pub quotes_around : (buf first middle last text : List ℕ) (at start end stop : ℕ) → take start first ≡ take at buf ++ 34 ∷ []
    → take end middle ≡ take start first ++ text → take stop last ≡ take end middle ++ 34 ∷ []
    → take stop last ≡ take at buf ++ (34 ∷ (text ++ 34 ∷ []))
quotes_around buf first middle last text at start end stop opened written closed =
    closed ∙ ap (λ (t : List ℕ). t ++ 34 ∷ []) (written ∙ ap (λ (t : List ℕ). t ++ text) opened)
    ∙ append_assoc (take at buf ++ 34 ∷ []) text (34 ∷ []) ∙ append_assoc (take at buf) (34 ∷ []) (text ++ 34 ∷ [])

-- its length
pub around_length : (text : List ℕ) → length (34 ∷ (text ++ 34 ∷ [])) ≡ length text + 2
around_length text = omega (arith, length-append text (34 ∷ []))

-- what was written after something else
pub written_after : (r : Option ℕ) (buf begun new first text : List ℕ) (at start : ℕ) → take start begun ≡ take at buf ++ first
    → IfSome r (λ end. take end new ≡ take start begun ++ text) → IfSome r (λ end. take end new ≡ take at buf ++ (first ++ text))
written_after None buf begun new first text at start opened written = tt
written_after (Some end) buf begun new first text at start opened written =
    written ∙ ap (λ (t : List ℕ). t ++ text) opened ∙ append_assoc (take at buf) first text

-- the front of what was copied
pub part_written : (buf new part rest text : List ℕ) (at n : ℕ) → at ≤ length buf → n ≤ length part
    → new ≡ take at buf ++ (part ++ rest) → take n part ≡ text → take (at + n) new ≡ take at buf ++ text
part_written buf new part rest text at n within few is front =
    let whole : new ≡ (take at buf ++ take n part) ++ (drop n part ++ rest) =
    is ∙ ap (λ (t : List ℕ). take at buf ++ (t ++ rest)) (sym (take-append-drop n part))
    ∙ ap (λ (t : List ℕ). take at buf ++ t) (append_assoc (take n part) (drop n part) rest)
    ∙ sym (append_assoc (take at buf) (take n part) (drop n part ++ rest)) in
    let long : length (take at buf ++ take n part) ≡ at + n =
    omega (arith, length-append (take at buf) (take n part), length-take-le at buf within, length-take-le n part few) in
    ap (take (at + n)) whole ∙ take_at (take at buf ++ take n part) (drop n part ++ rest) (at + n) long
    ∙ ap (λ (t : List ℕ). take at buf ++ t) front

-- where a text ends that was written from a place on
pub ends_at : (buf new text : List ℕ) (at end : ℕ) → at ≤ length buf → end ≤ length new → take end new ≡ take at buf ++ text
    → end ≡ at + length text
ends_at buf new text at end low high is =
    omega (arith, ap length is, length-append (take at buf) text, length-take-le end new high, length-take-le at buf low)
