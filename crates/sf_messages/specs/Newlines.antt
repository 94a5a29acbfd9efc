-- Where a record and a line don't begin and end together.
use Rattle.std.specs.Prelude.{ℕ, ◌&&◌, ◌||◌, nat_eq, nat_lt, Bool, true, false, List, [], ◌∷◌, Option, Some, None}
use Rattle.sf_base.specs.Bytes.{is_white}
use Rattle.sf_base.specs.Sets.{has_byte}
use Rattle.sf_format.specs.declared.directive.Directive.{Directive}
use Rattle.sf_format.specs.declared.directive.Directive.TheVariants.{Conv}
use Rattle.sf_format.specs.declared.directive.Shape.{Shape}
use Rattle.sf_format.specs.declared.directive.Shape.TheVariants as shape
use Rattle.sf_messages.specs.declared.places.place.Place.{Place}
use Rattle.sf_run.specs.outcome.Ending.{Ending}
use Rattle.sf_run.specs.outcome.Ending.TheVariants.{End}
use Rattle.sf_run.specs.outcome.Outcome.{Outcome}

abbrev pub is_met_end : Option Ending → Bool
is_met_end (Some End) = true
is_met_end _ = false

-- the bytes begin with white space
abbrev pub begins_white : List ℕ → Bool
begins_white [] = false
begins_white (b ∷ rest) = is_white b

-- a record took nothing, and failed at its first directive on white space
abbrev pub is_white_first : Outcome → List ℕ → Bool
is_white_first outcome rest = nat_eq outcome.at 1 && (nat_eq outcome.used 0 && begins_white rest)

-- one after the first did
abbrev pub is_left_white : ℕ → Outcome → List ℕ → Bool
is_left_white number outcome rest = nat_lt 1 number && is_white_first outcome rest

-- a record after the first, of which the run used one byte, which was the newline before the first column; the input ended there
abbrev pub is_lone_newline : ℕ → Outcome → Option Place → Bool
is_lone_newline number outcome None = false
is_lone_newline number outcome (Some place) =
    nat_lt 1 number && (nat_eq outcome.used 1 && (nat_eq place.column 1 && is_met_end outcome.met))

-- a set that has the newline, and characters, take it as they take other bytes (C11 7.21.6.2p8: they pass over no white space)
abbrev pub shape_takes_newline : Shape → Bool
shape_takes_newline (shape.Set members) = has_byte members 10
shape_takes_newline shape.Chars = true
shape_takes_newline _ = false

-- the first directive does, or takes a column, which has any bytes
abbrev pub takes_newline : List Directive → Bool
takes_newline (Conv c ∷ ds) = c.column || shape_takes_newline c.shape
takes_newline _ = false

-- A record after the first, by the place where its run stopped: the column counts the bytes after the last newline from 1, so a
-- run that used just so many used that newline, and first of all.
abbrev pub is_newline_taken : List Directive → ℕ → Outcome → Option Place → Bool
is_newline_taken ds number outcome None = false
is_newline_taken ds number outcome (Some place) = nat_lt 1 number && (nat_eq place.column outcome.used && takes_newline ds)

-- a run that used more than that holds that newline, and a byte before it
abbrev pub is_over_newline : Outcome → Option Place → Bool
is_over_newline outcome None = false
is_over_newline outcome (Some place) = nat_lt 1 outcome.at && nat_lt place.column outcome.used
