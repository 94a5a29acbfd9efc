-- Short texts: looked at by their ends, and put between quotes.
use Rattle.std.proofs.Common.{◌≡◌, ℕ, zero, suc, ◌+◌, ◌-◌, ◌<◌, ◌≤◌, Bool, true, false, ◌&&◌, not, cond, List, [], ◌∷◌, ◌++◌, map}
use Rattle.std.proofs.Common.{eqb, length, take, drop, replicate, set, length-set, append_assoc, refl, sym, ap, ◌∙◌}
use Rattle.std.proofs.Common.{arith, true≢false, Option, Some, None, IfSome}
use Rattle.std.proofs.lemmas.List.{take-take, take_all, take_at, take_more_set, take-append-drop, length-take, length-take-le, length-drop}
use Rattle.std.proofs.lemmas.List.{drop-take, length-append, drop-replicate}
use Rattle.std.proofs.lemmas.List.Folds.{list_all-append}
use Rattle.std.proofs.lemmas.Bool.{eqb-true, eq-eqb}
use Rattle.std.proofs.lemmas.Simd.{leading_from_mask_l}
use Rattle.std.proofs.Math.Seq.{take-append-add, take-length, drop-append-add, take-append_seam}
use Rattle.std.specs.List.{flat_map, list_all, prefix_len, slice_range}
use Rattle.sf_base.proofs.Lanes.{not_not}
use borrow.Rule.Slice.PartMut.{mid_of, post_of, put_mid, same_len_mid}
use lib.Lanes.{chunk, mask_l}
use Rattle.sf_forms.specs.Quotes.{escaped, is_plain, quoted}
use Rattle.sf_forms.proofs.Quoting.{plain_escaped, plain_front, whole_front}

-- ---- plain bytes

both : (a b : Bool) → a && b ≡ true → (a ≡ true) × (b ≡ true)
both true b e = (refl, e)
both false b e = absurd (true≢false (sym e))

pub plain_all : (xs : List ℕ) → list_all is_plain xs ≡ true → flat_map escaped xs ≡ xs
plain_all [] e = refl
plain_all (x ∷ xs) e =
    let w = both (is_plain x) (list_all is_plain xs) e in
    (λ i. plain_escaped x w.0 i ++ plain_all xs w.1 i)

pub all_of_front : (p : ℕ → Bool) (xs : List ℕ) → prefix_len p xs ≡ length xs → list_all p xs ≡ true
all_of_front p [] e = refl
all_of_front p (x ∷ xs) e = go (p x) e (all_of_front p xs)
  where
    go : (t : Bool) → cond t (1 + prefix_len p xs) 0 ≡ suc (length xs) → (prefix_len p xs ≡ length xs → list_all p xs ≡ true)
        → t && list_all p xs ≡ true
    go true e h = h (omega (arith, e))
    go false e h = absurd (omega (arith, e))

parts_pass : (p : ℕ → Bool) (xs ys : List ℕ) → list_all p (xs ++ ys) ≡ true → (list_all p xs ≡ true) × (list_all p ys ≡ true)
parts_pass p xs ys e = both (list_all p xs) (list_all p ys) (sym (list_all-append p xs ys) ∙ e)

-- a text passes whose ends do, where they meet
ends_pass : (p : ℕ → Bool) (xs : List ℕ) (w m : ℕ) → m ≤ w → list_all p (take w xs) ≡ true → list_all p (drop m xs) ≡ true
    → list_all p xs ≡ true
ends_pass p xs w m few front back =
    let begun : list_all p (take m xs) ≡ true = ap (list_all p) (sym (take-take m w xs few))
    ∙ (parts_pass p (take m (take w xs)) (drop m (take w xs)) (ap (list_all p) (take-append-drop m (take w xs)) ∙ front)).0 in
    ap (list_all p) (sym (take-append-drop m xs)) ∙ list_all-append p (take m xs) (drop m xs) ∙ (λ i. begun i && back i)

same_bool : (a b : Bool) → (a ≡ true → b ≡ true) → (b ≡ true → a ≡ true) → a ≡ b
same_bool true b f g = sym (f refl)
same_bool false true f g = g refl
same_bool false false f g = refl

-- of plain bytes no bit is set
none_set : (xs : List ℕ) → list_all is_plain xs ≡ true → mask_l (map (λ b. not (is_plain b)) xs) ≡ 0
none_set [] e = refl
none_set (x ∷ xs) e = let w = both (is_plain x) (list_all is_plain xs) e in rw (w.0, none_set xs w.1) refl

all_of_parts : (p : ℕ → Bool) (xs ys : List ℕ) → list_all p xs ≡ true → list_all p ys ≡ true → list_all p (xs ++ ys) ≡ true
all_of_parts p xs ys e f = list_all-append p xs ys ∙ (λ i. e i && f i)

-- whether no bit of the mask of both ends, with blanks after, is set
pub plain_by_ends : (xs front back : List ℕ) (w k m : ℕ) → w ≤ length xs → length xs ≤ w + w → w ≤ 8 → k ≡ w → front ≡ take w xs
    → back ≡ drop (length xs - w) xs
    → m ≡ mask_l (map (λ b. not (is_plain b)) (chunk 0 16 (put_mid w k (front ++ drop w (replicate 16 32)) back)))
    → eqb m 0 ≡ list_all is_plain xs
plain_by_ends xs front back w k m low high few k_is front_is back_is mask =
    same_bool (eqb m 0) (list_all is_plain xs) (λ e. all_are (eqb-true m 0 e)) (λ e. eq-eqb m 0 (no_bit e))
  where
    blanks : List ℕ
    blanks = replicate 16 32

    begun : List ℕ
    begun = front ++ drop w blanks

    lanes : List ℕ
    lanes = put_mid w k begun back

    front_long : length front ≡ w
    front_long = ap length front_is ∙ length-take-le w xs low

    back_long : length back ≡ w
    back_long = omega (arith, ap length back_is, length-drop (length xs - w) xs)

    begun_long : length begun ≡ 16
    begun_long = omega (arith, length-append front (drop w blanks), length-drop w blanks, front_long, few)

    mid_long : length (mid_of w k begun) ≡ w
    mid_long = omega (arith, length-take k (drop w begun), length-drop w begun, begun_long, k_is, few)

    whole : chunk 0 16 lanes ≡ lanes
    whole = take_all 16 lanes (omega (arith, same_len_mid w k begun back (back_long ∙ sym mid_long), begun_long))

    mask_is : m ≡ mask_l (map (λ b. not (is_plain b)) lanes)
    mask_is = mask ∙ ap (λ (ts : List ℕ). mask_l (map (λ b. not (is_plain b)) ts)) whole

    front_at : take w begun ≡ take w xs
    front_at = take_at front (drop w blanks) w front_long ∙ front_is

    all_are : m ≡ 0 → list_all is_plain xs ≡ true
    all_are none =
        let all : list_all is_plain lanes ≡ true = all_of_front is_plain lanes
        (sym (not_not is_plain lanes) ∙ leading_from_mask_l (λ b. not (is_plain b)) lanes (sym mask_is ∙ none)) in
        let parts = parts_pass is_plain (take w begun) (back ++ post_of w k begun) all in
        let last = parts_pass is_plain back (post_of w k begun) parts.1 in
        ends_pass is_plain xs w (length xs - w) (omega arith) (ap (list_all is_plain) (sym front_at) ∙ parts.0)
        (ap (list_all is_plain) (sym back_is) ∙ last.0)

    blanks_are : (n : ℕ) → list_all is_plain (replicate n 32) ≡ true
    blanks_are zero = refl
    blanks_are (suc n) = blanks_are n

    no_bit : list_all is_plain xs ≡ true → m ≡ 0
    no_bit all =
        let first : list_all is_plain front ≡ true = ap (list_all is_plain) front_is
        ∙ (parts_pass is_plain (take w xs) (drop w xs) (ap (list_all is_plain) (take-append-drop w xs) ∙ all)).0 in
        let last : list_all is_plain back ≡ true =
        ap (list_all is_plain) back_is ∙ (parts_pass is_plain (take (length xs - w) xs) (drop (length xs - w) xs)
        (ap (list_all is_plain) (take-append-drop (length xs - w) xs) ∙ all)).1 in
        let behind : list_all is_plain (drop w blanks) ≡ true = (parts_pass is_plain (take w blanks) (drop w blanks)
        (ap (list_all is_plain) (take-append-drop w blanks) ∙ blanks_are 16)).1 in
        let filled : list_all is_plain begun ≡ true = all_of_parts is_plain front (drop w blanks) first behind in
        let start : list_all is_plain (take w begun) ≡ true = ap (list_all is_plain) front_at ∙ ap (list_all is_plain) (sym front_is)
        ∙ first in
        let rest : list_all is_plain (post_of w k begun) ≡ true = post_plain filled in
        mask_is ∙ none_set lanes (all_of_parts is_plain (take w begun) (back ++ post_of w k begun) start
        (all_of_parts is_plain back (post_of w k begun) last rest))
      where
        post_plain : list_all is_plain begun ≡ true → list_all is_plain (post_of w k begun) ≡ true
        post_plain filled =
            let tail : list_all is_plain (drop w begun) ≡ true = (parts_pass is_plain (take w begun) (drop w begun)
            (ap (list_all is_plain) (take-append-drop w begun) ∙ filled)).1 in
            (parts_pass is_plain (take k (drop w begun)) (drop k (drop w begun))
            (ap (list_all is_plain) (take-append-drop k (drop w begun)) ∙ tail)).1

pub front_of_all : (xs : List ℕ) → list_all is_plain xs ≡ true → prefix_len is_plain xs ≡ length xs
front_of_all [] e = refl
front_of_all (x ∷ xs) e = let w = both (is_plain x) (list_all is_plain xs) e in rw (w.0) (omega (arith, front_of_all xs w.1))

-- a run that is all of a text
pub plain_by_run : (xs : List ℕ) (run : ℕ) → run ≡ prefix_len is_plain xs → eqb run (length xs) ≡ list_all is_plain xs
plain_by_run xs run is = same_bool (eqb run (length xs)) (list_all is_plain xs)
    (λ e. all_of_front is_plain xs (sym is ∙ eqb-true run (length xs) e)) (λ e. eq-eqb run (length xs) (is ∙ front_of_all xs e))

-- ---- between quotes

pub short_quoted : (out xs before new : List ℕ) (start end : ℕ) → start ≡ length out + 1 → end ≡ start + length xs + 1
    → length xs ≤ 16 → before ≡ out ++ replicate 24 34
    → new ≡ take start before ++ (xs ++ drop (start + length xs) before) → take end new ≡ out ++ (34 ∷ (xs ++ 34 ∷ []))
short_quoted out xs before new start end start_is end_is short room is =
    let n : ℕ = length xs in
    let rest : List ℕ = replicate (22 - n) 34 in
    let first : take start before ≡ out ++ 34 ∷ [] = (λ i. take (start_is i) (room i)) ∙ take-append-add out (replicate 24 34) 1 in
    let place : start + n ≡ length out + (1 + n) = omega arith in
    let more : 24 - (1 + n) ≡ suc (22 - n) = omega arith in
    let behind : drop (start + n) before ≡ 34 ∷ rest =
    (λ i. drop (place i) (room i)) ∙ drop-append-add out (replicate 24 34) (1 + n) ∙ drop-replicate (1 + n) 24 34
    ∙ ap (λ (k : ℕ). replicate k 34) more in
    let all : new ≡ ((out ++ 34 ∷ []) ++ (xs ++ 34 ∷ [])) ++ rest =
    is ∙ (λ i. first i ++ (xs ++ behind i)) ∙ ap (λ (t : List ℕ). (out ++ 34 ∷ []) ++ t) (sym (append_assoc xs (34 ∷ []) rest))
    ∙ sym (append_assoc (out ++ 34 ∷ []) (xs ++ 34 ∷ []) rest) in
    let long : length ((out ++ 34 ∷ []) ++ (xs ++ 34 ∷ [])) ≡ end =
    omega (
      arith,
      length-append (out ++ 34 ∷ []) (xs ++ 34 ∷ []),
      length-append out (34 ∷ []),
      length-append xs (34 ∷ []),
      start_is,
      end_is,
    ) in
    ap (take end) all ∙ take_at ((out ++ 34 ∷ []) ++ (xs ++ 34 ∷ [])) rest end long ∙ append_assoc out (34 ∷ []) (xs ++ 34 ∷ [])

-- what was written through a slice of all elements is what the list holds
pub written_back : (n end : ℕ) (buf rest : List ℕ) → n ≡ length buf → take end (take n (buf ++ rest)) ≡ take end buf
written_back n end buf rest e = ap (take end) (ap (λ (k : ℕ). take k (buf ++ rest)) e ∙ take-append_seam buf rest)

-- a quote and bytes after it, in place
pub begun_in_place : (buf begun copied xs rest : List ℕ) (at : ℕ) → at < length buf → begun ≡ set buf at 34
    → copied ≡ take (at + 1) begun ++ (xs ++ rest) → take (at + 1 + length xs) copied ≡ take at buf ++ 34 ∷ xs
begun_in_place buf begun copied xs rest at room begun_is copied_is =
    let first : take (at + 1) begun ≡ take at buf ++ 34 ∷ [] = ap (take (at + 1)) begun_is ∙ take_more_set buf at 34 room in
    let begun_long : length begun ≡ length buf = ap length begun_is ∙ length-set buf at 34 in
    let first_long : length (take (at + 1) begun) ≡ at + 1 = length-take-le (at + 1) begun (omega arith) in
    let front_long : length (take (at + 1) begun ++ xs) ≡ at + 1 + length xs = omega (arith, length-append (take (at + 1) begun) xs) in
    ap (take (at + 1 + length xs)) (copied_is ∙ sym (append_assoc (take (at + 1) begun) xs rest))
    ∙ take_at (take (at + 1) begun ++ xs) rest (at + 1 + length xs) front_long ∙ ap (λ (t : List ℕ). t ++ xs) first
    ∙ append_assoc (take at buf) (34 ∷ []) xs

-- bytes between quotes, in place
pub quoted_in_place : (buf begun copied xs : List ℕ) (at end : ℕ) → end ≡ at + 1 + length xs → at + length xs + 2 ≤ length buf
    → begun ≡ set buf at 34
    → copied ≡ take (at + 1) begun ++ (xs ++ drop (at + 1 + length xs) begun)
    → take (end + 1) (set copied end 34) ≡ take at buf ++ (34 ∷ (xs ++ 34 ∷ []))
quoted_in_place buf begun copied xs at end end_is room begun_is copied_is =
    let rest : List ℕ = drop (at + 1 + length xs) begun in
    let begun_long : length begun ≡ length buf = ap length begun_is ∙ length-set buf at 34 in
    let copied_long : end < length copied = omega (
      arith,
      ap length copied_is,
      length-append (take (at + 1) begun) (xs ++ rest),
      length-take-le (at + 1) begun (omega arith),
      length-append xs rest,
      length-drop (at + 1 + length xs) begun,
    ) in
    take_more_set copied end 34 copied_long
    ∙ ap (λ (t : List ℕ). t ++ 34 ∷ []) (ap (λ (k : ℕ). take k copied) end_is
    ∙ begun_in_place buf begun copied xs rest at (omega arith) begun_is copied_is)
    ∙ append_assoc (take at buf) (34 ∷ xs) (34 ∷ [])

-- bytes that are plain as a whole stand between quotes as they are
pub all_quoted : (out xs : List ℕ) → prefix_len is_plain xs ≡ length xs → out ++ (34 ∷ (xs ++ 34 ∷ [])) ≡ out ++ quoted xs
all_quoted out xs e = ap (λ (t : List ℕ). out ++ (34 ∷ (t ++ 34 ∷ []))) (sym (whole_front xs e))

-- what is written after a quote and some bytes as they are: all of them, where they are plain
pub plain_written : (buf begun new xs : List ℕ) (at plain end : ℕ) → plain ≡ length xs
    → take (at + 1 + length xs) begun ≡ take at buf ++ 34 ∷ xs
    → take end new ≡ take (at + 1 + plain) begun ++ 34 ∷ [] → take end new ≡ take at buf ++ (34 ∷ (xs ++ 34 ∷ []))
plain_written buf begun new xs at plain end all front is =
    is ∙ ap (λ (k : ℕ). take (at + 1 + k) begun ++ 34 ∷ []) all ∙ ap (λ (t : List ℕ). t ++ 34 ∷ []) front
    ∙ append_assoc (take at buf) (34 ∷ xs) (34 ∷ [])

-- or those that are plain, and the rest by their escapes
rest_written : (buf begun new xs : List ℕ) (at plain end : ℕ) → at ≤ length buf → plain ≤ length xs → plain ≡ prefix_len is_plain xs
    → take (at + 1 + length xs) begun ≡ take at buf ++ 34 ∷ xs
    → take end new ≡ take (at + 1 + plain) begun ++ (flat_map escaped (slice_range xs plain (length xs)) ++ 34 ∷ [])
    → take end new ≡ take at buf ++ quoted xs
rest_written buf begun new xs at plain end low within count front is =
    let rest : slice_range xs plain (length xs) ≡ drop plain xs =
    take_all (length xs - plain) (drop plain xs) (omega (arith, within, length-drop plain xs)) in
    let parts : take at buf ++ 34 ∷ xs ≡ (take at buf ++ 34 ∷ take plain xs) ++ drop plain xs =
    ap (λ (t : List ℕ). take at buf ++ 34 ∷ t) (sym (take-append-drop plain xs))
    ∙ sym (append_assoc (take at buf) (34 ∷ take plain xs) (drop plain xs)) in
    let long : length (take at buf ++ 34 ∷ take plain xs) ≡ at + 1 + plain =
    omega (
      arith,
      length-append (take at buf) (34 ∷ take plain xs),
      length-take-le at buf low,
      length-take-le plain xs within,
    ) in
    let some : take (at + 1 + plain) begun ≡ take at buf ++ 34 ∷ take plain xs =
    sym (take-take (at + 1 + plain) (at + 1 + length xs) begun (omega (arith, within))) ∙ ap (take (at + 1 + plain)) (front ∙ parts)
    ∙ take_at (take at buf ++ 34 ∷ take plain xs) (drop plain xs) (at + 1 + plain) long in
    let text : flat_map escaped xs ≡ take plain xs ++ flat_map escaped (drop plain xs) = rw count (plain_front xs) in
    is ∙ (λ i. some i ++ (flat_map escaped (rest i) ++ 34 ∷ []))
    ∙ append_assoc (take at buf) (34 ∷ take plain xs) (flat_map escaped (drop plain xs) ++ 34 ∷ [])
    ∙ ap (λ (t : List ℕ). take at buf ++ 34 ∷ t) (sym (append_assoc (take plain xs) (flat_map escaped (drop plain xs)) (34 ∷ [])))
    ∙ ap (λ (t : List ℕ). take at buf ++ (34 ∷ (t ++ 34 ∷ []))) (sym text)

pub rest_written_if : (r : Option ℕ) (buf begun new xs : List ℕ) (at plain : ℕ) → at ≤ length buf → plain ≤ length xs
    → plain ≡ prefix_len is_plain xs → take (at + 1 + length xs) begun ≡ take at buf ++ 34 ∷ xs
    → IfSome r (λ end. take end new
    ≡ take (at + 1 + plain) begun ++ (flat_map escaped (slice_range xs plain (length xs)) ++ 34 ∷ []))
    → IfSome r (λ end. take end new ≡ take at buf ++ quoted xs)
rest_written_if None buf begun new xs at plain low within count front is = tt
rest_written_if (Some end) buf begun new xs at plain low within count front is =
    rest_written buf begun new xs at plain end low within count front is

-- the same with more after it
pub rest_then : (r : Option ℕ) (buf begun new xs tail : List ℕ) (at plain : ℕ) → at ≤ length buf → plain ≤ length xs
    → plain ≡ prefix_len is_plain xs → take (at + 1 + length xs) begun ≡ take at buf ++ 34 ∷ xs
    → IfSome r (λ end. take end new
    ≡ take (at + 1 + plain) begun ++ ((flat_map escaped (slice_range xs plain (length xs)) ++ 34 ∷ []) ++ tail))
    → IfSome r (λ end. take end new ≡ take at buf ++ (quoted xs ++ tail))
rest_then None buf begun new xs tail at plain low within count front is = tt
rest_then (Some end) buf begun new xs tail at plain low within count front is =
    let mid : List ℕ = take (at + 1 + plain) begun ++ (flat_map escaped (slice_range xs plain (length xs)) ++ 34 ∷ []) in
    let text : mid ≡ take at buf ++ quoted xs =
    sym (take-length mid) ∙ rest_written buf begun mid xs at plain (length mid) low within count front (take-length mid) in
    is
    ∙ sym (append_assoc (take (at + 1 + plain) begun) (flat_map escaped (slice_range xs plain (length xs)) ++ 34 ∷ []) tail)
    ∙ ap (λ (t : List ℕ). t ++ tail) text ∙ append_assoc (take at buf) (quoted xs) tail

-- the end of a front of a piece, by the piece
pub cut_rest : (piece : List ℕ) (count plain : ℕ) → count ≤ length piece → plain ≤ count
    → slice_range piece plain count ≡ slice_range (take count piece) plain (length (take count piece))
cut_rest piece count plain within low =
    let xs : List ℕ = take count piece in
    let long : length xs ≡ count = length-take-le count piece within in
    let sum : plain + (count - plain) ≡ count = omega (arith, low) in
    sym (drop-take plain (count - plain) piece) ∙ ap (λ (k : ℕ). drop plain (take k piece)) sum
    ∙ sym (take_all (length xs - plain) (drop plain xs) (omega (arith, length-drop plain xs)))

-- how long the rest is
pub rest_length : (xs : List ℕ) (plain : ℕ) → plain ≤ length xs → plain ≡ prefix_len is_plain xs
    → length (quoted xs) ≡ 2 + plain + length (flat_map escaped (slice_range xs plain (length xs)))
rest_length xs plain within count =
    let rest : slice_range xs plain (length xs) ≡ drop plain xs =
    take_all (length xs - plain) (drop plain xs) (omega (arith, within, length-drop plain xs)) in
    let text : flat_map escaped xs ≡ take plain xs ++ flat_map escaped (drop plain xs) = rw count (plain_front xs) in
    omega (
      arith,
      length-append (flat_map escaped xs) (34 ∷ []),
      ap length text,
      length-append (take plain xs) (flat_map escaped (drop plain xs)),
      length-take-le plain xs within,
      ap (λ (t : List ℕ). length (flat_map escaped t)) rest,
    )

-- what stood before a quote and some bytes stays
pub front_stays : (buf begun xs : List ℕ) (at : ℕ) → at ≤ length buf → take (at + 1 + length xs) begun ≡ take at buf ++ 34 ∷ xs
    → take at begun ≡ take at buf
front_stays buf begun xs at low front =
    sym (take-take at (at + 1 + length xs) begun (omega arith)) ∙ ap (take at) front
    ∙ take_at (take at buf) (34 ∷ xs) at (length-take-le at buf low)
