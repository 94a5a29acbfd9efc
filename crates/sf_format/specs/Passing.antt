-- What the parser's values stand for.
use Rattle.std.specs.Prelude.{◌≡◌, ℕ, ◌+◌, Bool, true, false, List, [], ◌∷◌, ◌++◌, ◌<◌, length, map, drop, ◌⊎◌, Result, Ok, Err, Option}
use Rattle.std.specs.Prelude.{Some, None, MatchOption, suc}
use Rattle.std.specs.Borrow.{Bor}
use Prim.Native.Char.{code}
use Rattle.std.specs.List.{AllByRecursion}
use Rattle.sf_base.specs.declared.values.Kind.{Kind}
use Rattle.sf_base.specs.declared.rules.Rule.{Rule as CodeRule}
use Rattle.sf_base.specs.Sets.{has_byte}
use Rattle.sf_format.specs.declared.directive.Shape.{Shape}
use Rattle.sf_format.specs.declared.directive.Shape.TheVariants as shape
use Rattle.sf_format.specs.declared.directive.Directive.{Directive}
use Rattle.sf_format.specs.declared.directive.Directive.TheVariants as directive
use Rattle.sf_format.specs.declared.fault.FormatFault.{FormatFault}
use Rattle.sf_format.specs.declared.fault.FormatWhy.{FormatWhy}
use Rattle.sf_format.specs.declared.fault.FormatWhy.TheVariants.{NumberTwice, NumberGap, BadGroup}
use Rattle.sf_format.specs.declared.letter.Letter.{Letter}
use Rattle.sf_format.specs.declared.letter.Letter.TheVariants.{Set}
use Rattle.sf_format.specs.declared.opening.Written.{Written}
use Rattle.sf_format.specs.declared.slots.Slots.{Slots}
use Rattle.sf_format.specs.declared.scan.scanlist.Listed.{Listed}
use Rattle.sf_format.specs.Language.{Language, Scan, Print}
use Rattle.sf_format.specs.Letters.{has_doubles}
use Rattle.sf_format.specs.PrintGrammar.{StartsAboveZero}
use Rattle.sf_format.specs.declared.grammar.Passed.{Passed}
use Rattle.sf_format.specs.declared.grammar.Before.{Before}
use Rattle.sf_format.specs.declared.grammar.Step.{Step}
use Rattle.sf_format.specs.declared.groups.Group.{Group}
use Rattle.sf_format.specs.declared.groups.Role.{Role}
use Rattle.sf_format.specs.declared.groups.Role.TheVariants.{Start, End}
use Rattle.sf_format.specs.declared.groups.Stage.TheVariants.{Outside}
use Rattle.sf_format.specs.Groups.{role_of, may_stand, next_stage, stage_after, last_start, place_told}
use Rattle.sf_format.specs.declared.directive.Literal.{Literal}
use Rattle.sf_format.specs.declared.directive.Literal.TheVariants as literal
use Rattle.sf_format.specs.declared.noted.Noted.{Noted}
use Rattle.sf_format.specs.Lists.{is_any_of, is_written, mark_at}
use Rattle.sf_format.specs.Scanlist.{IsSetBy}
use Rattle.sf_format.specs.Pieces.{Opening, Piece, Ordinary, Percents, is_mark}
use Rattle.sf_format.specs.Cut.{Part, part_at, members_at, close_at}
use Rattle.sf_format.specs.Slots.{slot_of}
use Rattle.sf_format.specs.Grammar.{assigned_opening, destinations, width_of, shape_of, MeanAll}
use Rattle.sf_format.specs.Rules.{Rule, first_of, slot_rules}
use Rattle.sf_format.specs.Faults.{bracket_rules, next_rules, repeated, beyond, no_memory}
use Rattle.sf_format.specs.Reading.{read, judged}

abbrev pub precision_of : Bool → List ℕ → Option (List ℕ)
precision_of true ds = Some ds
precision_of false ds = None

-- an opening without where its digits lie in memory
abbrev pub opening_of : Written → Opening
opening_of o = record {
  number = o.number.now;
  star = o.star;
  optional = o.optional;
  column = o.column;
  strict = o.strict;
  flags = o.flags.now;
  width = o.width.now;
  precision = precision_of o.point o.precision.now;
  size = o.size;
}

abbrev pub fault_of : FormatFault → FormatWhy × ℕ
fault_of fault = (fault.why, fault.at)

abbrev pub fault_in : Option FormatFault → Option (FormatWhy × ℕ)
fault_in None = None
fault_in (Some fault) = Some (fault_of fault)

-- a row of a table of rules
abbrev pub row_of : CodeRule FormatFault → Rule
row_of rule = record { why = rule.why.why; applies = rule.applies; at = rule.why.at }

-- ---- one specification

-- what the language has of an opening
abbrev pub IsIn : Language → Opening → Type 0
IsIn (Scan profile) o =
    (o.flags ≡ []) × (o.precision ≡ None) × (o.optional ≡ true → has_doubles profile ≡ true)
    × (o.column ≡ true → has_doubles profile ≡ true)
    × (o.strict ≡ true → has_doubles profile ≡ true)
IsIn (Print profile) o = (o.star ≡ false) × (o.optional ≡ false) × (o.column ≡ false) × (o.strict ≡ false) × StartsAboveZero o.width

-- the first fault by the rules, or else the letter that was found, and the kind that it has
abbrev pub Converts : {L : Type 0} → Option L → (L → Option Kind) → List Rule → Result (L × Kind) FormatFault → Type 0
Converts letter kind rules (Ok found) = (first_of rules ≡ None) × (letter ≡ Some found.0) × (kind found.0 ≡ Some found.1)
Converts letter kind rules (Err fault) = first_of rules ≡ Some (fault_of fault)

abbrev pub is_set : Letter → Bool
is_set Set = true
is_set _ = false

-- what follows the scanlist after a letter, if it has one
abbrev pub rest_behind : Bool → List ℕ → List ℕ
rest_behind true x = drop 1 (close_at (mark_at (code "^") x).1)
rest_behind false x = x

-- the scanlist after a letter, which is a [ or isn't
abbrev pub IsListed : Bool → List ℕ → Listed → Type 0
IsListed true x listed = (listed.complemented ≡ (mark_at (code "^") x).0) × (listed.members.now ≡ members_at (mark_at (code "^") x).1)
IsListed false x listed = Unit {0}

-- the first fault of the scanlist, or else what it is and what follows
abbrev pub ListsBehind : Bool → ℕ → List ℕ → Result Listed FormatFault → Type 0
ListsBehind bracket q x (Ok listed) =
    (first_of (bracket_rules bracket q x) ≡ None) × IsListed bracket x listed × (listed.rest.now ≡ rest_behind bracket x)
ListsBehind bracket q x (Err fault) = first_of (bracket_rules bracket q x) ≡ Some (fault_of fault)

-- what a letter takes, by its members if it is a [
abbrev pub ShapeBy : Bool → Letter → Bool → Listed → Shape → Type 0
ShapeBy true letter strict listed s = (set : List Bool) × IsSetBy listed.complemented listed.members.now set × (s ≡ shape.Set set)
ShapeBy false letter strict listed s = shape_of letter strict s

-- the conversion of a letter with this kind, this opening and this slot
abbrev pub IsMade : Letter → Kind → Opening → Option ℕ → Listed → Directive → Type 0
IsMade letter kind o slot listed (directive.Conv c) =
    (c.kind ≡ kind) × (c.width ≡ width_of letter o.width) × (c.slot ≡ slot) × (c.optional ≡ o.optional) × (c.opens ≡ None)
    × (c.column ≡ o.column)
    × ShapeBy (is_set letter) letter o.strict listed c.shape
IsMade letter kind o slot listed _ = ⊥

-- ---- parts

-- destinations so far: their count, and whether they have numbers
pub record Holds (slots : Slots) (earlier : List Opening) : Type 0 where
  pub count : slots.count ≡ length earlier
  pub same : AllByRecursion (λ e. is_written e.number ≡ slots.numbered) earlier

-- the slot of the first of the destinations, where place is that of one without a number
abbrev pub slot_at : ℕ → List Opening → Option ℕ
slot_at place [] = None
slot_at place (o ∷ os) = slot_of place o

-- the first fault of one more destination, or else the destinations with it
abbrev pub PushesBy : List Opening → ℕ → Opening → Result (Option ℕ × Slots) FormatFault → Type 0
PushesBy earlier p o (Ok pushed) = (first_of (slot_rules earlier p o) ≡ None) × Holds pushed.1 (earlier ++ assigned_opening o [])
PushesBy earlier p o (Err fault) = first_of (slot_rules earlier p o) ≡ Some (fault_of fault)

-- the part that is one byte or %%
abbrev pub literal_piece : Literal → Piece
literal_piece (literal.Byte b) = Ordinary b
literal_piece literal.Percent = Percents

-- no directive was made: none is wanted, or the part is the mark of a group
abbrev pub IsUnmade : Bool → Piece → Type 0
IsUnmade wanted piece = (wanted ≡ false) ⊎ (is_mark piece ≡ true)

-- no fault by the rules, and what the part is to groups, what it stands for, which was made if it is wanted and the part is no mark of
-- a group, its slot, what follows it, and the destinations with it; or the first fault by the rules
abbrev pub PassesBy : {D : Type 0} → Bool → (Option ℕ → ℕ → Piece → D → Type 0) → List Rule → List Opening → Part
    → Result (Passed D) FormatFault → Type 0
PassesBy wanted means rules earlier part (Ok passed) =
    (first_of rules ≡ None) × (passed.rest.now ≡ part.rest)
    × MatchOption passed.part (IsUnmade wanted part.piece) (λ made. means None (1 + length earlier) part.piece made)
    × Holds passed.slots (earlier ++ destinations (part.piece ∷ []))
    × (passed.slot ≡ slot_at (1 + length earlier) (destinations (part.piece ∷ []))) × (passed.role ≡ role_of part.piece)
PassesBy wanted means rules earlier part (Err fault) = first_of rules ≡ Some (fault_of fault)

-- ---- parts in groups

-- the part is no directive
abbrev pub is_marking : Role → Bool
is_marking Start = true
is_marking End = true
is_marking role = false

-- it closes a group
abbrev pub ends_group : Role → Bool
ends_group End = true
ends_group role = false

-- the part that is the mark of a group, if one was found, with what follows it
abbrev pub IsMark : Role → Bor (List ℕ) → Option Part → Type 0
IsMark role rest None = ⊥
IsMark role rest (Some part) = (is_mark part.piece ≡ true) × (role ≡ role_of part.piece) × (rest.now ≡ part.rest)

-- the place of the last mark that opens a group, with a part at the place
abbrev pub started : Role → ℕ → ℕ → ℕ
started Start at before = at
started role at before = before

-- what stands before what follows the part, if that may stand there; or the fault
abbrev pub IsJoined : Group → Role → ℕ → Result Group FormatFault → Type 0
IsJoined group role at (Ok joined) =
    (may_stand group.stage role ≡ true) × (joined.stage ≡ next_stage group.stage role) × (joined.start ≡ started role at group.start)
IsJoined group role at (Err fault) =
    (may_stand group.stage role ≡ false) × (fault ≡ record { at = place_told group.stage role group.start at; why = BadGroup })

-- what was passed are these parts
pub record Precedes (before : Before) (done : List Piece) : Type 0 where
  pub slots : Holds before.slots (destinations done)
  pub stage : before.group.stage ≡ stage_after Outside done
  pub start : before.group.start ≡ last_start 0 0 done

-- no fault by the rules, and what the next part stands for, its slot, what follows it, and what is passed with it; or the first fault
abbrev pub StepsBy : {D : Type 0} → Bool → (Option ℕ → ℕ → Piece → D → Type 0) → Language → List Piece → List ℕ
    → Result (Step D) FormatFault → Type 0
StepsBy wanted means language done x (Ok step) =
    let part = part_at language x in
    let place = 1 + length (destinations done) in
    (first_of (next_rules language done x) ≡ None) × (step.passed.rest.now ≡ part.rest)
    × MatchOption step.passed.part (IsUnmade wanted part.piece) (λ made. means None place part.piece made)
    × Precedes step.before (done ++ part.piece ∷ [])
    × (step.passed.slot ≡ slot_at place (destinations (part.piece ∷ []))) × (step.passed.role ≡ role_of part.piece)
StepsBy wanted means language done x (Err fault) = first_of (next_rules language done x) ≡ Some (fault_of fault)

-- the first of so many at the end of a list opens a group with the others, if the list is there
abbrev pub IsOpened : {D : Type 0} → (Option ℕ → ℕ → Piece → D → Type 0) → ℕ → Option (List D) → Option (List D) → Type 0
IsOpened means count list None = Unit {0}
IsOpened means count None (Some new) = ⊥
IsOpened {D} means count (Some ds) (Some new) =
    (front : List D) × (d : D) × (e : D) × (back : List D) × (ds ≡ front ++ d ∷ back) × (new ≡ front ++ e ∷ back)
    × (suc (length back) ≡ count)
    × ((place : ℕ) (piece : Piece) → means None place piece d → means (Some (length back)) place piece e)

-- how many directives stand after the last mark that opens a group, with one more part
abbrev pub counted : ℕ → Role → ℕ
counted count Start = 0
counted count End = count
counted count role = count + 1

-- ---- whole texts

-- what was passed of the text's parts, or the first fault of a part
abbrev pub Walked : Language → List ℕ → Result Before FormatFault → Type 0
Walked language text (Ok all) = (pieces : List Piece) × (read (length text) language [] text ≡ Ok pieces) × Precedes all pieces
Walked language text (Err fault) = read (length text) language [] text ≡ Err (fault_of fault)

-- a slot with a place
abbrev pub with_place : Option ℕ → ℕ → List (ℕ × ℕ)
with_place None at = []
with_place (Some n) at = (n, at) ∷ []

-- the place that was found before, or else this one if it applies
abbrev pub first_place : Option ℕ → Bool → ℕ → Option ℕ
first_place (Some place) applies at = Some place
first_place None true at = Some at
first_place None false at = None

-- a place, reported with a reason
abbrev pub told : FormatWhy → Option ℕ → Option (FormatWhy × ℕ)
told why None = None
told why (Some at) = Some (why, at)

-- what was noted of numbers with places: which there are, the first that stands twice, and the first above the count
pub record Notes (count : ℕ) (ns : List (ℕ × ℕ)) (noted : Noted) : Type 0 where
  pub used : (m : ℕ) → m < 256 → has_byte noted.used m ≡ is_any_of (map (λ n. n.0) ns) m
  pub twice : told NumberTwice noted.twice ≡ first_of (repeated [] ns)
  pub gap : told NumberGap noted.gap ≡ first_of (beyond count ns)

-- the count of the destinations of the text's parts, or its fault
abbrev pub Judged : Language → List ℕ → Result ℕ FormatFault → Type 0
Judged language text (Ok assigned) = (pieces : List Piece) × (judged language text ≡ Ok pieces) × (assigned ≡ length (destinations pieces))
Judged language text (Err fault) = judged language text ≡ Err (fault_of fault)

-- what the text's parts stand for
pub record Gathers {D : Type 0} (language : Language) (means : Option ℕ → ℕ → Piece → D → Type 0) (text : List ℕ) (ds : List D)
    : Type 0 where
  pub pieces : List Piece
  pub parts : read (length text) language [] text ≡ Ok pieces
  pub meaning : MeanAll means false 1 pieces ds

-- a list with one more at its end, if both are there; or none
abbrev pub IsKept : {D : Type 0} → Option (List D) → Option D → Option (List D) → Type 0
IsKept list part None = Unit {0}
IsKept (Some ds) (Some d) (Some kept) = kept ≡ ds ++ d ∷ []
IsKept _ _ (Some kept) = ⊥

-- a list with what a part stands for, where so many directives stand after the last mark that opens a group; or none
abbrev pub IsTaken : {D : Type 0} → (Option ℕ → ℕ → Piece → D → Type 0) → ℕ → Role → Option (List D) → Option D → Option (List D) → Type 0
IsTaken means count Start list part taken = taken ≡ list
IsTaken means count End list part taken = IsOpened means count list taken
IsTaken means count role list part taken = IsKept list part taken

-- the fault of a part of the text, or no memory
abbrev pub IsHindered : Language → List ℕ → FormatFault → Type 0
IsHindered language text fault = (read (length text) language [] text ≡ Err (fault_of fault)) ⊎ (fault ≡ no_memory)
