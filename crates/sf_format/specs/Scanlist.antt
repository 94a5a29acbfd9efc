-- Scanlists (C11 7.21.6.2p12, the case of `[`).
use Rattle.std.specs.Prelude.{◌≡◌, ◌≢◌, ℕ, ◌+◌, ◌<◌, Bool, true, false, not, ◌&&◌, ◌||◌, List, [], ◌∷◌, ◌++◌, length, Option, Some, None}
use Rattle.std.specs.Prelude.{nat_eq, nat_le, nat_lt, if◌then◌else◌, codes}
use Prim.Native.Char.{code}
use Rattle.std.specs.List.{AllByRecursion}
use Rattle.sf_base.specs.Bytes.{AreBytes}
use Rattle.sf_base.specs.Sets.{has_byte}

-- b is in a list of ranges, low - high, and single members, read from the left
abbrev pub is_listed : List ℕ → ℕ → Bool
is_listed [] b = false
is_listed (low ∷ []) b = nat_eq low b
is_listed (low ∷ dash ∷ []) b = nat_eq low b || nat_eq dash b
is_listed (low ∷ dash ∷ high ∷ rest) b =
    if nat_eq dash (code "-") then (nat_le low b && nat_le b high) || is_listed rest b
    else nat_eq low b || is_listed (dash ∷ high ∷ rest) b

-- where the leftmost range begins whose low end is above its high end; the list begins at n
abbrev pub backward_range : ℕ → List ℕ → Option ℕ
backward_range n [] = None
backward_range n (low ∷ []) = None
backward_range n (low ∷ dash ∷ []) = None
backward_range n (low ∷ dash ∷ high ∷ rest) =
    if nat_eq dash (code "-") then (if nat_lt high low then Some n else backward_range (n + 3) rest)
    else backward_range (n + 1) (dash ∷ high ∷ rest)

-- a byte that doesn't close a scanlist
abbrev pub is_inner : ℕ → Bool
is_inner b = not (nat_eq b (code "]"))

-- what stands between `[` and the closing `]`: perhaps ^, a first member, and bytes that aren't ]
pub record Scanlist : Type 0 where
  pub complemented : Bool
  pub first : ℕ
  pub others : List ℕ

abbrev pub caret_text : Bool → List ℕ
caret_text true = codes "^"
caret_text false = []

-- the scanlist's text, with the ] that closes it
abbrev pub scanlist_text : Scanlist → List ℕ
scanlist_text list = caret_text list.complemented ++ (list.first ∷ (list.others ++ codes "]"))

pub record IsScanlist (list : Scanlist) : Type 0 where
  -- a ^ in first place complements
  pub first : list.complemented ≡ false → list.first ≢ code "^"
  pub others : AllByRecursion (λ b. is_inner b ≡ true) list.others
  pub bytes : AreBytes (list.first ∷ list.others)
  pub no_nul : AllByRecursion (λ b. b ≢ 0) (list.first ∷ list.others)
  pub forward : backward_range 0 (list.first ∷ list.others) ≡ None

-- the byte is in the set of a list of members, or of its complement
abbrev pub is_chosen : Bool → List ℕ → ℕ → Bool
is_chosen complemented members b = if complemented then not (is_listed members b) else is_listed members b

-- the set has those bytes, and no other
abbrev pub IsSetBy : Bool → List ℕ → List Bool → Type 0
IsSetBy complemented members set =
    (length set ≡ 256) × ((b : ℕ) → b < 256 → has_byte set b ≡ is_chosen complemented members b)

-- the byte is in the scanlist's set
abbrev pub is_member : Scanlist → ℕ → Bool
is_member list b = is_chosen list.complemented (list.first ∷ list.others) b

-- the set has the bytes of the scanlist, and no other
abbrev pub IsSetOf : Scanlist → List Bool → Type 0
IsSetOf list set = IsSetBy list.complemented (list.first ∷ list.others) set
