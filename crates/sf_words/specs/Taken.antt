-- What a subcommand has that clap took.
use Rattle.std.specs.Prelude.{◌≡◌, ℕ, false, List, ◌∷◌, Option, Some, None, codes, pos}
use Rattle.clap.specs.Words.{IsSignedIn, Row, Text, one_of, without_minus}
use Rattle.sf_words.specs.Orders.{HasTexts, is_set, texts_by, values_at, verb_text}
use Rattle.sf_words.specs.declared.order.Verb.{Verb}
use Rattle.sf_words.specs.declared.order.Verb.TheVariants.{Copy, Scan}

-- the word names a verb
abbrev pub IsVerb : Text → Type 0
IsVerb name = (verb : Verb) × (name ≡ verb_text verb)

-- no number was given, or what is read of it is a number in the range
abbrev pub IsWithin : ℕ → ℕ → Option Text → Type 0
IsWithin low high None = Unit {0}
IsWithin low high (Some text) = (given : Text) × (text ≡ without_minus given) × IsSignedIn (pos low) (pos high) given

abbrev pub IsOneAtMost : List Text → Type 0
IsOneAtMost (text ∷ next ∷ rest) = ⊥
IsOneAtMost _ = Unit {0}

-- there are as many texts as the verb wants; of a scan, no more than one as a word
abbrev pub HasWords : Verb → List Row → Type 0
HasWords Scan given = IsOneAtMost (values_at (codes "FORMAT") given)
HasWords verb given = HasTexts verb (texts_by verb given)

-- only a scan and a copy are of lines
abbrev pub AllowsLines : Verb → List Row → Type 0
AllowsLines Scan given = Unit {0}
AllowsLines Copy given = Unit {0}
AllowsLines verb given = is_set (codes "lines") given ≡ false

-- the subcommand is one of the verbs, its numbers are in their ranges, and it has the texts that the verb wants
pub record IsTaken (entered : Option (Text × List Row)) : Type 0 where
  pub verb : Verb
  pub given : List Row
  pub is_given : entered ≡ Some (verb_text verb, given)
  pub limit : IsWithin 0 2147483647 (one_of (codes "limit") given)
  pub profile : IsWithin 1 3 (one_of (codes "profile") given)
  pub skip : IsWithin 0 9223372036854775807 (one_of (codes "skip") given)
  pub width : IsWithin 1 65535 (one_of (codes "width") given)
  pub lines : AllowsLines verb given
  pub enough : HasWords verb given
