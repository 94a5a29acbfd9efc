-- The destinations that are still to be given a value.
use Rattle.std.specs.Prelude.{ℕ, Bool, List, length, drop, is_some}
use Rattle.sf_format.specs.declared.directive.Directive.{Directive}
use Rattle.sf_format.specs.Proper.{destination_of, destinations_of}

abbrev pub is_destination : Directive → Bool
is_destination d = is_some (destination_of d)

-- how many of the directives after the first so many are destinations
abbrev pub places_left : List Directive → ℕ → ℕ
places_left ds passed = length (destinations_of (drop passed ds))
