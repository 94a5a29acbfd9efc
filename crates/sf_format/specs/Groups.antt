-- Groups of directives that may be missing, in scan formats of profile 3: %?( directives %).
use Rattle.std.specs.Prelude.{◌≡◌, ℕ, suc, ◌+◌, Bool, true, false, ◌||◌, List, [], ◌∷◌, length, Option, Some, None, nat_eq}
use Prim.Native.Char.{code}
use Rattle.std.specs.Option.{option_map}
use Rattle.sf_format.specs.declared.groups.Role.{Role}
use Rattle.sf_format.specs.declared.groups.Role.TheVariants.{Start, End, Leads, Follows}
use Rattle.sf_format.specs.declared.groups.Stage.{Stage}
use Rattle.sf_format.specs.declared.groups.Stage.TheVariants.{Outside, First, Inside}
use Rattle.sf_format.specs.Pieces.{Piece, WhiteSpace, Ordinary, Percents, Plain, Bracket, GroupStart, GroupEnd, piece_text}

-- what a conversion is to groups, which follows the first directive of one at the earliest, or may be that
abbrev pub role_by : Bool → Role
role_by true = Follows
role_by false = Leads

-- what a part is to groups: white space, n and what has a ? are no first directive of one
abbrev pub role_of : Piece → Role
role_of (WhiteSpace bs) = Follows
role_of (Ordinary b) = Leads
role_of Percents = Leads
role_of (Plain o letter) = role_by (o.optional || nat_eq letter (code "n"))
role_of (Bracket o list) = role_by o.optional
role_of GroupStart = Start
role_of GroupEnd = End

-- a part may stand there: outside a group none may be the end of one, the first in a group is a directive that may lead it, and after
-- that no other group begins
abbrev pub may_stand : Stage → Role → Bool
may_stand Outside End = false
may_stand Outside role = true
may_stand First Leads = true
may_stand First role = false
may_stand Inside Start = false
may_stand Inside role = true

-- where the part after it stands
abbrev pub next_stage : Stage → Role → Stage
next_stage stage Start = First
next_stage stage End = Outside
next_stage First role = Inside
next_stage stage role = stage

-- where the part after all of them stands
abbrev pub stage_after : Stage → List Piece → Stage
stage_after stage [] = stage
stage_after stage (piece ∷ pieces) = stage_after (next_stage stage (role_of piece)) pieces

-- each of the parts may stand where it does, from there on
abbrev pub AreGrouped : Stage → List Piece → Type 0
AreGrouped stage [] = Unit {0}
AreGrouped stage (piece ∷ pieces) =
    (may_stand stage (role_of piece) ≡ true) × AreGrouped (next_stage stage (role_of piece)) pieces

-- how many directives stand before the end of the group, if it has one
abbrev pub left_in : List Piece → Option ℕ
left_in [] = None
left_in (GroupEnd ∷ pieces) = Some 0
left_in (piece ∷ pieces) = option_map suc (left_in pieces)

-- how many directives follow the next one in the group that it opens, if it is the first of one
abbrev pub opened_by : Bool → List Piece → Option ℕ
opened_by true pieces = left_in pieces
opened_by false pieces = None

-- the place of the last mark that opens a group, where the parts begin at p; else the one that was found before
abbrev pub last_start : ℕ → ℕ → List Piece → ℕ
last_start found p [] = found
last_start found p (GroupStart ∷ pieces) = last_start p (p + length (piece_text GroupStart)) pieces
last_start found p (piece ∷ pieces) = last_start found (p + length (piece_text piece)) pieces

-- the place that is reported of a part at p that may not stand there: of one that may not be the first in its group, or is its end, that
-- where the group begins
abbrev pub place_told : Stage → Role → ℕ → ℕ → ℕ
place_told First Start start p = p
place_told First role start p = start
place_told stage role start p = p

-- a group is open
abbrev pub is_open : Stage → Bool
is_open Outside = false
is_open stage = true
