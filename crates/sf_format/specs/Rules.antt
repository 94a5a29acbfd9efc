-- Rules that formats have to keep, each with the place that is reported where one doesn't.
use Rattle.std.specs.Prelude.{ℕ, Bool, true, false, not, ◌&&◌, List, [], ◌∷◌, length, Option, Some, None, nat_eq, nat_lt, if◌then◌else◌}
use Rattle.std.specs.Prelude.{codes}
use Rattle.std.specs.List.{position_from, list_any}
use Rattle.sf_format.specs.declared.fault.FormatWhy.{FormatWhy}
use Rattle.sf_format.specs.declared.fault.FormatWhy.TheVariants.{MixedNumbering, TooManyDestinations}
use Rattle.sf_format.specs.declared.letter.Length.{Length}
use Rattle.sf_format.specs.declared.letter.Length.TheVariants.{NoLength, L}
use Rattle.sf_format.specs.Lists.{is_any_of, is_written}
use Rattle.sf_format.specs.Pieces.{Opening}

-- a reason, the test whether it applies, and the place that is reported
pub record Rule : Type 0 where
  pub why : FormatWhy
  pub applies : Bool
  pub at : ℕ

-- the first rule that applies
abbrev pub first_of : List Rule → Option (FormatWhy × ℕ)
first_of [] = None
first_of (rule ∷ rules) = if rule.applies then Some (rule.why, rule.at) else first_of rules

-- c, s and [
abbrev pub takes_text : ℕ → Bool
takes_text b = is_any_of (codes "cs[") b

-- the letters of floats
abbrev pub takes_double : ℕ → Bool
takes_double b = is_any_of (codes "aAeEfFgG") b

abbrev pub has_length : Length → Bool
has_length NoLength = false
has_length _ = true

abbrev pub is_l : Length → Bool
is_l L = true
is_l _ = false

-- where the byte stands first, counted from n
abbrev pub place_of : ℕ → ℕ → List ℕ → Option ℕ
place_of b n xs = position_from (λ x. nat_eq x b) n xs

abbrev pub or_zero : Option ℕ → ℕ
or_zero None = 0
or_zero (Some n) = n

-- both have a number, or neither has
abbrev pub alike : Opening → Opening → Bool
alike e o = if is_written e.number then is_written o.number else not (is_written o.number)

-- the destinations so far: a number beside none, or one too many without
abbrev pub slot_rules : List Opening → ℕ → Opening → List Rule
slot_rules earlier p o =
    record { why = MixedNumbering; applies = not o.star && list_any (λ e. not (alike e o)) earlier; at = p }
    ∷ record { why = TooManyDestinations; applies = not o.star && not (is_written o.number) && nat_lt 31 (length earlier); at = p }
    ∷ []
