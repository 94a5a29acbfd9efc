-- The bytes of a block that wait for a writer.
use Rattle.std.proofs.Common.{◌≡◌, ℕ, ◌+◌, ◌-◌, ◌≤◌, List, [], ◌++◌, length, take, drop, ap, sym, ◌∙◌, arith, append_assoc, append-nil}
use Rattle.std.proofs.Common.{Option, Some, None, IfSome, refl}
use Rattle.std.specs.List.{slice_range}
use Rattle.std.proofs.lemmas.List.{length-append, take-append-drop, drop-take, drop-drop, drop-append-le, length-take-le, length-drop}
use Rattle.std.proofs.lemmas.List.{take-take}
use Rattle.std.proofs.lemmas.Slice.{take-put_mid}
use borrow.Rule.Slice.PartMut.{put_mid}
use Rattle.std.proofs.Math.Seq.{take-append-add, take-append_seam}
use Rattle.std.specs.Io.KnownBytes.{Appends, Keeps, append_known}

length-range : (block : List ℕ) (start end : ℕ) → end ≤ length block → length (slice_range block start end) ≡ end - start
length-range block start end e = let l = length-drop start block in length-take-le (end - start) (drop start block) (omega arith)

-- Bytes that are copied after the waiting ones wait after them.
pub waits_behind : (block bytes : List ℕ) (start end : ℕ) → start ≤ end → end ≤ length block
    → slice_range (take end block ++ (bytes ++ drop (end + length bytes) block)) start (end + length bytes)
    ≡ slice_range block start end ++ bytes
waits_behind block bytes start end s e =
    let rest : List ℕ = drop (end + length bytes) block in
    let whole = length-take-le end block e in
    let waits : drop start (take end block) ≡ slice_range block start end =
    ap (λ (n : ℕ). drop start (take n block)) {x = end} {y = start + (end - start)} (omega arith) ∙ drop-take start (end - start) block in
    let count = length-range block start end e in
    ap (λ (t : List ℕ). take (end + length bytes - start) t) (drop-append-le start (take end block) (bytes ++ rest) (omega arith)
    ∙ ap (λ (t : List ℕ). t ++ (bytes ++ rest)) waits)
    ∙ ap (λ (n : ℕ). take n (slice_range block start end ++ (bytes ++ rest))) {x = end + length bytes - start}
    {y = length (slice_range block start end) + length bytes} (omega arith)
    ∙ take-append-add (slice_range block start end) (bytes ++ rest) (length bytes)
    ∙ ap (λ (t : List ℕ). slice_range block start end ++ t) (take-append_seam bytes rest)

-- What waits in a block, by the front of the block.
waits_in_front : (block : List ℕ) (start end : ℕ) → start ≤ end → slice_range block start end ≡ drop start (take end block)
waits_in_front block start end s =
    sym (ap (λ (n : ℕ). drop start (take n block)) {x = end} {y = start + (end - start)} (omega arith) ∙ drop-take start (end - start)
    block)

-- Bytes that were written after the waiting ones wait after them.
pub waits_after : (block new bytes : List ℕ) (start end len : ℕ) → start ≤ end → end ≤ length block
    → take (end + len) new ≡ take end block ++ bytes → slice_range new start (end + len) ≡ slice_range block start end ++ bytes
waits_after block new bytes start end len s e written =
    let whole = length-take-le end block e in
    waits_in_front new start (end + len) (omega arith) ∙ ap (drop start) written
    ∙ drop-append-le start (take end block) bytes (omega arith)
    ∙ ap (λ (t : List ℕ). t ++ bytes) (sym (waits_in_front block start end s))

-- Where the front of the block is as before, the same bytes wait.
pub waits_still : (block new : List ℕ) (start end : ℕ) → start ≤ end → take end new ≡ take end block
    → slice_range new start end ≡ slice_range block start end
waits_still block new start end s same =
    waits_in_front new start end s ∙ ap (drop start) same ∙ sym (waits_in_front block start end s)

-- how many bytes were written there
pub written_length : (block new bytes : List ℕ) (end len : ℕ) → end ≤ length block → end + len ≤ length new
    → take (end + len) new ≡ take end block ++ bytes → length bytes ≡ len
written_length block new bytes end len e fits written =
    omega (arith, ap length written, length-append (take end block) bytes, length-take-le end block e, length-take-le (end + len) new fits)

-- A text that was written into what follows a front of the block.
pub written_after : (block room text : List ℕ) (end : ℕ) (r : Option ℕ) → end ≤ length block → IfSome r (λ len. len ≤ length room)
    → IfSome r (λ len. take len room ≡ text)
    → IfSome r (λ len. take (end + len) (put_mid end (length block - end) block room) ≡ take end block ++ text)
written_after block room text end None e within written = tt
written_after block room text end (Some len) e within written =
    let whole = length-take-le end block e in
    let all : List ℕ = put_mid end (length block - end) block room in
    sym (take-take (end + len) (end + length room) all (omega (arith, within)))
    ∙ ap (take (end + len)) (take-put_mid end (length block - end) block room (end + length room) refl e)
    ∙ ap (λ (n : ℕ). take n (take end block ++ room)) {x = end + len} {y = length (take end block) + len} (omega arith)
    ∙ take-append-add (take end block) room len ∙ ap (λ (t : List ℕ). take end block ++ t) written

-- So was what a writer wrote that room was lent.
pub lent_after : (Writes : List ℕ → Type 0) (block room : List ℕ) (end : ℕ) (r : Option ℕ) → end ≤ length block
    → IfSome r (λ len. len ≤ length room) → IfSome r (λ len. Writes (take len room))
    → IfSome r (λ len. (text : List ℕ) × Writes text
    × (take (end + len) (put_mid end (length block - end) block room) ≡ take end block ++ text))
lent_after Writes block room end None e within written = tt
lent_after Writes block room end (Some len) e within written =
    (take len room, written, written_after block room (take len room) end (Some len) e within refl)

-- Where the writer took the first n of the waiting bytes, the others wait.
pub others_wait : (block : List ℕ) (start end n : ℕ) → start ≤ end → end ≤ length block → n ≤ length (slice_range block start end)
    → slice_range block start end ≡ take n (slice_range block start end) ++ slice_range block (start + n) end
others_wait block start end n s e most =
    let count = length-range block start end e in
    sym (take-append-drop n (slice_range block start end))
    ∙ ap (λ (t : List ℕ). take n (slice_range block start end) ++ t)
    (ap (λ (m : ℕ). drop n (take m (drop start block))) {x = end - start} {y = n + (end - (start + n))} (omega arith)
    ∙ drop-take n (end - (start + n)) (drop start block)
    ∙ ap (λ (t : List ℕ). take (end - (start + n)) t) (drop-drop n start block))

-- What is known of the bytes stays, where a writer takes a front of those that wait.
pub kept_on : (k old new : Option (List ℕ)) (waiting front rest : List ℕ) → waiting ≡ front ++ rest → Keeps k (append_known old waiting)
    → Appends old new front → Keeps k (append_known new rest)
kept_on None old new waiting front rest cut kept took = tt
kept_on (Some k) None new waiting front rest cut kept took = absurd kept
kept_on (Some k) (Some old) None waiting front rest cut kept took = absurd took
kept_on (Some k) (Some old) (Some new) waiting front rest cut kept took =
    ap (λ (t : List ℕ). t ++ rest) took ∙ append_assoc old front rest ∙ ap (λ (t : List ℕ). old ++ t) (sym cut) ∙ kept

-- What is known of the bytes, with more after it.
pub waits_too : (old : Option (List ℕ)) (waiting bytes now : List ℕ) → now ≡ waiting ++ bytes
    → Appends (append_known old waiting) (append_known old now) bytes
waits_too None waiting bytes now more = tt
waits_too (Some old) waiting bytes now more = ap (λ (t : List ℕ). old ++ t) more ∙ sym (append_assoc old waiting bytes)

-- A block in which bytes were written over others has its length.
pub length-over : (block bytes : List ℕ) (at : ℕ) → at + length bytes ≤ length block
    → length (take at block ++ (bytes ++ drop (at + length bytes) block)) ≡ length block
length-over block bytes at fits =
    let rest : List ℕ = drop (at + length bytes) block in
    let a = length-take-le at block (omega arith) in
    let b = length-drop (at + length bytes) block in
    let c = length-append bytes rest in
    let d = length-append (take at block) (bytes ++ rest) in
    omega arith

-- Where nothing is held back and nothing waits, the bytes are the writer's.
pub writer_has_all : (known given : Option (List ℕ)) (held : List ℕ) → known ≡ given → held ≡ []
    → append_known (append_known known held) [] ≡ given
writer_has_all None given held same none = same
writer_has_all (Some known) given held same none = ap (λ (t : List ℕ). Some t)
    (append-nil (known ++ held) ∙ ap (λ (t : List ℕ). known ++ t) none ∙ append-nil known) ∙ same

-- What is known of the bytes stayed, and then more came.
pub keeps_then : (old mid new : Option (List ℕ)) (bytes : List ℕ) → Keeps old mid → Appends mid new bytes → Appends old new bytes
keeps_then None mid new bytes kept more = tt
keeps_then (Some old) None new bytes kept more = absurd kept
keeps_then (Some old) (Some mid) None bytes kept more = absurd more
keeps_then (Some old) (Some mid) (Some new) bytes kept more = more ∙ ap (λ (t : List ℕ). t ++ bytes) kept
