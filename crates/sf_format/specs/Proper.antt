-- What holds of the directives of each accepted scan format.
use Rattle.std.specs.Prelude.{◌≡◌, ◌⊎◌, ℕ, ◌-◌, ◌<◌, ◌≤◌, ◌&&◌, ◌||◌, Bool, true, false, nat_eq, nat_lt, max, List, [], ◌∷◌, length, map}
use Rattle.std.specs.Prelude.{Option, Some, None, IsSome, IfSome, is_some, unwrap_or, if◌then◌else◌}
use Rattle.std.specs.List.{AllByRecursion, filter_map, list_any}
use Rattle.sf_base.specs.declared.values.Kind.{Kind}
use Rattle.sf_base.specs.declared.values.Kind.TheVariants as kinds
use Rattle.sf_base.specs.Sets.{has_byte}
use Rattle.sf_format.specs.Slots.{Slotted, kind_with, slots_from, AreSlots}
use Rattle.sf_format.specs.declared.directive.Shape.{Shape}
use Rattle.sf_format.specs.declared.directive.Shape.TheVariants.{Int, Text, Set, Chars, Float, Count}
use Rattle.sf_format.specs.declared.directive.Conversion.{Conversion}
use Rattle.sf_format.specs.declared.directive.Directive.{Directive}
use Rattle.sf_format.specs.declared.directive.Directive.TheVariants.{Space, Byte, Percent, Conv, Opens}
use Rattle.sf_format.specs.declared.directive.Literal.{Literal}
use Rattle.sf_format.specs.declared.directive.Literal.TheVariants as literal

-- a set has a member
abbrev pub IsProperShape : Shape → Type 0
IsProperShape (Set members) = (b : ℕ) × (b < 256) × (has_byte members b ≡ true)
IsProperShape _ = Unit {0}

-- a width, where there is one, is at least 1
abbrev pub IsProperWidth : Option ℕ → Type 0
IsProperWidth width = IfSome width (λ w. 1 ≤ w)

-- c has a width
abbrev pub HasItsWidth : Shape → Option ℕ → Type 0
HasItsWidth Chars width = IsSome width
HasItsWidth _ width = Unit {0}

abbrev pub IsSized : Directive → Type 0
IsSized (Conv c) = HasItsWidth c.shape c.width
IsSized _ = Unit {0}

abbrev pub AreSized : List Directive → Type 0
AreSized ds = AllByRecursion IsSized ds

-- the kinds of floats
abbrev pub IsFloatKind : Kind → Type 0
IsFloatKind kind = (kind ≡ kinds.F32) ⊎ (kind ≡ kinds.F64)

-- a conversion of a text has the kind of texts, one of a float a kind of floats
abbrev pub HasItsKind : Shape → Kind → Type 0
HasItsKind (Int numeral) kind = Unit {0}
HasItsKind Count kind = Unit {0}
HasItsKind (Text lead) kind = kind ≡ kinds.Text
HasItsKind (Set members) kind = kind ≡ kinds.Text
HasItsKind Chars kind = kind ≡ kinds.Text
HasItsKind (Float lead) kind = IsFloatKind kind

abbrev pub IsKinded : Directive → Type 0
IsKinded (Conv c) = HasItsKind c.shape c.kind
IsKinded _ = Unit {0}

abbrev pub AreKinded : List Directive → Type 0
AreKinded ds = AllByRecursion IsKinded ds

-- the shapes of columns: numbers, texts and sets
abbrev pub TakesColumn : Shape → Type 0
TakesColumn Chars = ⊥
TakesColumn Count = ⊥
TakesColumn _ = Unit {0}

-- a column has a width, and is of a number, a text or a set
abbrev pub HasColumn : Conversion → Type 0
HasColumn c = c.column ≡ true → IsSome c.width × TakesColumn c.shape

abbrev pub IsColumned : Directive → Type 0
IsColumned (Conv c) = HasColumn c
IsColumned _ = Unit {0}

abbrev pub AreColumned : List Directive → Type 0
AreColumned ds = AllByRecursion IsColumned ds

-- a byte is one
abbrev pub IsProperLiteral : Literal → Type 0
IsProperLiteral (literal.Byte b) = b < 256
IsProperLiteral literal.Percent = Unit {0}

abbrev pub IsProper : Directive → Type 0
IsProper Space = Unit {0}
IsProper (Byte b) = b < 256
IsProper Percent = Unit {0}
IsProper (Conv c) = IsProperShape c.shape × IsProperWidth c.width
IsProper (Opens o) = IsProperLiteral o.literal

abbrev pub AreProper : List Directive → Type 0
AreProper ds = AllByRecursion IsProper ds

-- ---- destinations

-- the slot that a directive assigns, and its kind
abbrev pub destination_of : Directive → Option Slotted
destination_of (Conv c) = elim c.slot [ None ↦ None | Some slot ↦ Some (slot, c.kind) ]
destination_of _ = None

-- the destinations, in the order of the directives
abbrev pub destinations_of : List Directive → List Slotted
destinations_of ds = filter_map destination_of ds

-- the kind of the conversion with this slot
abbrev pub kind_at : ℕ → List Directive → Option Kind
kind_at slot ds = kind_with slot (destinations_of ds)

-- the slots that are assigned, in the order of the directives
abbrev pub slots_of : List Directive → List ℕ
slots_of ds = map (λ d. d.0) (destinations_of ds)

-- the destinations have the slots from 1 to their count in order
abbrev pub AreInOrder : List Directive → Type 0
AreInOrder ds = slots_of ds ≡ slots_from 1 (length (destinations_of ds))

-- ---- what may be missing

abbrev pub has_slot : ℕ → Option ℕ → Bool
has_slot slot None = false
has_slot slot (Some n) = nat_eq n slot

-- a conversion with a ?, or the first directive of a group
abbrev pub is_optional : Directive → Bool
is_optional (Conv c) = c.optional
is_optional (Opens o) = true
is_optional _ = false

-- some directive may be missing
abbrev pub has_optional : List Directive → Bool
has_optional ds = list_any is_optional ds

-- the directive opens a group
abbrev pub is_opener : Directive → Bool
is_opener (Conv c) = is_some c.opens
is_opener (Opens o) = true
is_opener _ = false

-- some directive opens a group
abbrev pub has_group : List Directive → Bool
has_group ds = list_any is_opener ds

-- how many directives after it are missing where it is
abbrev pub more_of : Directive → ℕ
more_of (Conv c) = if c.optional then unwrap_or c.opens 0 else 0
more_of (Opens o) = o.more
more_of _ = 0

-- the directive assigns the slot
abbrev pub assigns : ℕ → Directive → Bool
assigns slot (Conv c) = has_slot slot c.slot
assigns slot _ = false

-- after a directive: how many of those that follow may be missing with one before them, where it was so many at it
abbrev pub left_over : Directive → ℕ → ℕ
left_over d k = max (k - 1) (more_of d)

-- the directive may be missing, where so many may be with one before them
abbrev pub may_be_missing : Directive → ℕ → Bool
may_be_missing d k = is_optional d || nat_lt 0 k

-- the slot may be left without a value, where so many directives may be missing with one before them
abbrev pub may_miss_from : ℕ → ℕ → List Directive → Bool
may_miss_from slot k [] = false
may_miss_from slot k (d ∷ ds) = assigns slot d && may_be_missing d k || may_miss_from slot (left_over d k) ds

-- the slot may be left without a value
abbrev pub may_miss : ℕ → List Directive → Bool
may_miss slot ds = may_miss_from slot 0 ds

-- ---- what each accepted format has

pub record IsAccepted (ds : List Directive) : Type 0 where
  pub proper : AreProper ds
  pub sized : AreSized ds
  pub kinded : AreKinded ds
  pub columns : AreColumned ds
  pub short : length ds ≤ 4096
  pub few : length (destinations_of ds) ≤ 32
  pub slots : AreSlots (destinations_of ds)
