-- Rules in order, and the first that applies.
use Rattle.std.specs.Prelude.{List, [], ◌∷◌, Option, Some, None, if◌then◌else◌}
use Rattle.sf_base.specs.declared.rules.Rule.{Rule}

-- why the first rule that applies refuses
abbrev pub first_reason : {W : Type 0} → List (Rule W) → Option W
first_reason [] = None
first_reason (rule ∷ rules) = if rule.applies then Some rule.why else first_reason rules
