-- Scanlists: their ranges and members, and their text.
use Rattle.std.proofs.Common.{◌≡◌, ◌≢◌, ℕ, ◌+◌, ◌-◌, ◌<◌, ◌≤◌, Bool, ◌&&◌, ◌||◌, nat_eq, nat_le, List, [], ◌∷◌, ◌++◌, get_or, take, drop}
use Rattle.std.proofs.Common.{length, None, refl, sym, ap, ◌∙◌, arith, length-append, length-drop, true, false, subst, append_assoc}
use Rattle.std.proofs.lemmas.List.{take_rest, take_at, drop_at}
use Rattle.std.proofs.lemmas.Bool.Decides.{nat_tests}
use Rattle.std.specs.Prelude.{◌==◌}
use Rattle.sf_base.specs.Sets.{has_byte}
use Rattle.sf_format.specs.Lists.{front, behind, mark_at, is_written}
use Rattle.sf_format.specs.Scanlist.{backward_range, is_listed, is_inner, Scanlist, IsScanlist, IsSetBy, IsSetOf, caret_text, scanlist_text}
use Rattle.sf_format.specs.Cut.{members_at, close_at, list_of, bracket_at}
use Rattle.sf_format.proofs.Outcomes.{same_test, not_false, other_byte, byte_differs}
use Rattle.sf_format.proofs.Prefixes.{front_behind, Stops, front_passes, front_of, behind_of}
use Rattle.std.specs.List.{AllByRecursion}
use Rattle.sf_base.specs.Bytes.{AreBytes}
use Rattle.sf_format.specs.Pieces.{Opening, Bracket}
use Rattle.sf_format.specs.Rules.{first_of, place_of}
use Rattle.sf_format.specs.Faults.{list_rules}
use Rattle.sf_format.proofs.Cutting.{mark_joined, mark_none}
use Rattle.sf_format.proofs.Rules.{Quiet, quiet_is, none_from, all_front, all_back}

-- what follows the first bytes, as long as the rest of them
abbrev pub after : ℕ → List ℕ → List ℕ
after k xs = take (length xs - k) (drop k xs)

pub length-after : (k : ℕ) (xs : List ℕ) → k ≤ length xs → k + length (after k xs) ≡ length xs
length-after k xs h = omega (arith, ap length (take_rest xs k), length-drop k xs, h)

-- no range begins with the first byte
abbrev IsSingle : List ℕ → Type 0
IsSingle xs = 3 ≤ length xs → get_or xs 1 0 ≢ 45

-- ---- backward ranges

pub backward_single : (m : ℕ) (xs : List ℕ) → 3 ≤ length xs → get_or xs 1 0 ≢ 45 → backward_range (m + 1) (after 1 xs) ≡ backward_range m xs
backward_single m (a ∷ b ∷ c ∷ xs) long other = rw (take_rest (a ∷ b ∷ c ∷ xs) 1) (grind (arith, nat_tests))
backward_single m _ long other = absurd (omega (arith, long))

pub backward_range_passed : (m : ℕ) (xs : List ℕ) → 3 ≤ length xs → get_or xs 1 0 ≡ 45 → get_or xs 0 0 ≤ get_or xs 2 0
    → backward_range (m + 3) (after 3 xs) ≡ backward_range m xs
backward_range_passed m (a ∷ b ∷ c ∷ xs) long dash up = rw (take_rest (a ∷ b ∷ c ∷ xs) 3) (grind (arith, nat_tests))
backward_range_passed m _ long dash up = absurd (omega (arith, long))

-- where a list begins doesn't matter for whether its ranges are backward
pub no_backward : (m n : ℕ) (xs : List ℕ) → backward_range m xs ≡ None → backward_range n xs ≡ None
no_backward m n (low ∷ dash ∷ high ∷ rest) e =
    grind (arith, no_backward (m + 3) (n + 3) rest, no_backward (m + 1) (n + 1) (dash ∷ high ∷ rest))
no_backward m n _ e = refl

pub forward_single : (xs : List ℕ) → 1 ≤ length xs → IsSingle xs → backward_range 0 xs ≡ None → backward_range 0 (after 1 xs) ≡ None
forward_single [] some single e = absurd (omega (arith, some))
forward_single (a ∷ []) some single e = refl
forward_single (a ∷ b ∷ []) some single e = refl
forward_single (a ∷ b ∷ c ∷ xs) some single e =
    let long : 3 ≤ length (a ∷ b ∷ c ∷ xs) = omega arith in
    no_backward 1 0 (after 1 (a ∷ b ∷ c ∷ xs)) (backward_single 0 (a ∷ b ∷ c ∷ xs) long (single long) ∙ e)

-- the ends of the first range, and what follows it
range_forward : (xs : List ℕ) → 3 ≤ length xs → get_or xs 1 0 ≡ 45 → backward_range 0 xs ≡ None → get_or xs 0 0 ≤ get_or xs 2 0
range_forward (a ∷ b ∷ c ∷ xs) long dash e = grind (arith, nat_tests)
range_forward _ long dash e = absurd (omega (arith, long))

pub forward_range : (xs : List ℕ) → 3 ≤ length xs → get_or xs 1 0 ≡ 45 → backward_range 0 xs ≡ None → backward_range 0 (after 3 xs) ≡ None
forward_range xs long dash e =
    no_backward 3 0 (after 3 xs) (backward_range_passed 0 xs long dash (range_forward xs long dash e) ∙ e)

-- ---- sets

listed_single : (k : ℕ) (xs : List ℕ) → 1 ≤ length xs → IsSingle xs
    → is_listed xs k ≡ (nat_eq (get_or xs 0 0) k || is_listed (after 1 xs) k)
listed_single k [] some single = absurd (omega (arith, some))
listed_single k (a ∷ []) some single = grind arith
listed_single k (a ∷ b ∷ []) some single = refl
listed_single k (a ∷ b ∷ c ∷ xs) some single =
    let other : b ≢ 45 = single (omega arith) in rw (take_rest (a ∷ b ∷ c ∷ xs) 1) (grind (arith, nat_tests))

listed_range : (k : ℕ) (xs : List ℕ) → 3 ≤ length xs → get_or xs 1 0 ≡ 45
    → is_listed xs k ≡ ((nat_le (get_or xs 0 0) k && nat_le k (get_or xs 2 0)) || is_listed (after 3 xs) k)
listed_range k (a ∷ b ∷ c ∷ xs) long dash = rw (take_rest (a ∷ b ∷ c ∷ xs) 3) (grind (arith, nat_tests))
listed_range k _ long dash = absurd (omega (arith, long))

-- the set has what the members before the rest list
abbrev pub HasMembers : List Bool → List ℕ → List ℕ → Type 0
HasMembers set rest members = (k : ℕ) → k < 256 → (has_byte set k || is_listed rest k) ≡ is_listed members k

either_side : (here before later : Bool) → ((here || before) || later) ≡ (before || (here || later))
either_side here before later = grind arith

pub one_more : (old new : List Bool) (xs members : List ℕ) → 1 ≤ length xs → IsSingle xs → HasMembers old xs members
    → ((k : ℕ) → k < 256 → has_byte new k ≡ (k == get_or xs 0 0 || has_byte old k)) → HasMembers new (after 1 xs) members
one_more old new xs members some single has put = λ k byte.
    rw (
      put k byte,
      same_test k (get_or xs 0 0),
      either_side (nat_eq (get_or xs 0 0) k) (has_byte old k) (is_listed (after 1 xs) k),
      ← listed_single k xs some single,
    )
    (has k byte)

pub range_more : (old new : List Bool) (xs members : List ℕ) → 3 ≤ length xs → get_or xs 1 0 ≡ 45 → HasMembers old xs members
    → ((k : ℕ) → k < 256 → has_byte new k ≡ ((nat_le (get_or xs 0 0) k && nat_le k (get_or xs 2 0)) || has_byte old k))
    → HasMembers new (after 3 xs) members
range_more old new xs members long dash has put = λ k byte.
    rw (
      put k byte,
      either_side (nat_le (get_or xs 0 0) k && nat_le k (get_or xs 2 0)) (has_byte old k) (is_listed (after 3 xs) k),
      ← listed_range k xs long dash,
    )
    (has k byte)

-- the split of a scanlist after its members
pub members_split : (text others : List ℕ) → 0 < length text → others ≡ front is_inner (drop 1 text)
    → (1 + length others ≤ length text) × (take (1 + length others) text ≡ members_at text)
    × (drop (1 + length others) text ≡ close_at text)
members_split [] others some e = absurd (omega (arith, some))
members_split (b ∷ x) others some e =
    let whole : others ++ behind is_inner x ≡ x = rw e (front_behind is_inner x) in
    let long : length (b ∷ others) ≡ 1 + length others = omega arith in
    let joined : (b ∷ others) ++ behind is_inner x ≡ b ∷ x = ap (λ t. b ∷ t) whole in (
      omega (arith, length-append others (behind is_inner x), ap length whole),
      ap (take (1 + length others)) (sym joined) ∙ take_at (b ∷ others) (behind is_inner x) (1 + length others) long ∙ ap (λ t. b ∷ t) e,
      ap (drop (1 + length others)) (sym joined) ∙ drop_at (b ∷ others) (behind is_inner x) (1 + length others) long,
    )

-- ---- NUL

place_none : (b n : ℕ) (xs : List ℕ) → place_of b n xs ≡ None → AllByRecursion (λ x. x ≢ b) xs
place_none b n [] e = tt
place_none b n (x ∷ xs) e = grind (arith, nat_tests, place_none b (n + 1) xs)

no_place : (b n : ℕ) (xs : List ℕ) → AllByRecursion (λ x. x ≢ b) xs → place_of b n xs ≡ None
no_place b n [] h = refl
no_place b n (x ∷ xs) h = grind (arith, nat_tests, no_place b (n + 1) xs h.1)

-- ---- the ^

no_mark : (mark : ℕ) (x : List ℕ) → (mark_at mark x).0 ≡ false → Stops (λ b. nat_eq b mark) (mark_at mark x).1
no_mark mark [] e = tt
no_mark mark (b ∷ x) e = grind arith

caret_of : (complemented : Bool) (b : ℕ) (y : List ℕ) → (complemented ≡ false → b ≢ 94)
    → mark_at 94 (caret_text complemented ++ b ∷ y) ≡ (complemented, b ∷ y)
caret_of true b y first = refl
caret_of false b y first = mark_none 94 (b ∷ y) (byte_differs b 94 (first refl))

-- ---- from the text to the scanlist

pub record Listed (y : List ℕ) (list : Scanlist) (rest : List ℕ) : Type 0 where
  pub is : IsScanlist list
  pub text : scanlist_text list ++ rest ≡ y

closed_text : (x : List ℕ) → is_written (behind is_inner x) ≡ true → front is_inner x ++ 93 ∷ drop 1 (behind is_inner x) ≡ x
closed_text [] written = absurd (cc)
closed_text (b ∷ x) written = grind (arith, nat_tests, closed_text x)

-- what stands after the [ and its ^, without a fault
pub listed : (q m : ℕ) (y : List ℕ) → AreBytes y → Quiet (list_rules q m (mark_at 94 y).1)
    → Listed y (list_of (mark_at 94 y).0 (mark_at 94 y).1) (drop 1 (close_at (mark_at 94 y).1))
listed q m y bytes = by_members (mark_at 94 y).0 (mark_at 94 y).1 (no_mark 94 y) (mark_joined caret_text 94 y refl refl)
  where
    by_members : (c : Bool) (x : List ℕ) → (c ≡ false → Stops (λ b. nat_eq b 94) x) → caret_text c ++ x ≡ y
        → Quiet (list_rules q m x) → Listed y (list_of c x) (drop 1 (close_at x))
    by_members c [] first e quiet = absurd (cc)
    by_members c (b ∷ x) first e quiet = record {
      is = record {
        first = λ plain. other_byte b 94 (first plain);
        bytes =
            let after = all_back (λ a. a < 256) (caret_text c) (b ∷ x) (subst AreBytes (sym e) bytes) in
            (after.0, all_front (λ a. a < 256) (front is_inner x) (behind is_inner x) (rw (front_behind is_inner x) after.1));
        others = front_passes is_inner x;
        no_nul = place_none 0 m (b ∷ front is_inner x) (none_from _ quiet.0);
        forward = no_backward m 0 (b ∷ front is_inner x) (none_from _ quiet.1.1.0);
      };
      text =
          append_assoc (caret_text c) (b ∷ (front is_inner x ++ 93 ∷ [])) (drop 1 (behind is_inner x))
          ∙ rw (append_assoc (front is_inner x) (93 ∷ []) (drop 1 (behind is_inner x)), closed_text x (not_false _ quiet.1.0)) e;
    }

-- ---- from the scanlist to the text

-- what stands after the ^
abbrev inner_text : Scanlist → List ℕ → List ℕ
inner_text list rest = list.first ∷ (list.others ++ 93 ∷ rest)

pub marked : (list : Scanlist) (rest : List ℕ) → IsScanlist list
    → mark_at 94 (scanlist_text list ++ rest) ≡ (list.complemented, inner_text list rest)
marked list rest is =
    rw (append_assoc (caret_text list.complemented) (list.first ∷ (list.others ++ 93 ∷ [])) rest, append_assoc list.others (93 ∷ []) rest)
    (caret_of list.complemented list.first (list.others ++ 93 ∷ rest) is.first)

pub bracket_of : (o : Opening) (list : Scanlist) (rest : List ℕ) → IsScanlist list
    → bracket_at o (mark_at 94 (scanlist_text list ++ rest)) ≡ record { piece = Bracket o list; rest = rest }
bracket_of o list rest is =
    rw (
      marked list rest is,
      front_of is_inner list.others (93 ∷ rest) is.others refl,
      behind_of is_inner list.others (93 ∷ rest) is.others refl,
    )

pub quiet_list : (q m : ℕ) (list : Scanlist) (rest : List ℕ) → IsScanlist list → Quiet (list_rules q m (inner_text list rest))
quiet_list q m list rest is =
    let members = list.first ∷ list.others in
    rw (front_of is_inner list.others (93 ∷ rest) is.others refl, behind_of is_inner list.others (93 ∷ rest) is.others refl)
    (rw (no_place 0 m members is.no_nul), (refl, (rw (no_backward 0 m members is.forward), tt)))

-- ---- what is read of a scanlist

pub list_forward : (q m : ℕ) (x members : List ℕ) → members ≡ members_at x → first_of (list_rules q m x) ≡ None
    → backward_range 0 members ≡ None
list_forward q m x members e none =
    let quiet = quiet_is (list_rules q m x) none in
    rw e (no_backward m 0 (members_at x) (none_from _ quiet.1.1.0))

pub list_set : (q m : ℕ) (c : Bool) (x members : List ℕ) (set : List Bool) → members ≡ members_at x → first_of (list_rules q m x) ≡ None
    → IsSetBy c members set → IsSetOf (list_of c x) set
list_set q m c [] members set e none is = absurd (let h = (quiet_is (list_rules q m []) none).1.0 in cc)
list_set q m c (b ∷ x) members set e none is = rw e at is
