-- Laws of what clap takes, for every text.
use Rattle.std.specs.Prelude.{◌≡◌, ◌==◌, ◌<◌, ◌^◌, false, true, List, [], ◌∷◌, Some, codes, length}
use Rattle.std.specs.List.{AllByRecursion}
use Rattle.clap.specs.Words.{Row, Text, subcommand_of}
use Rattle.sf_words.specs.Hyphens.{clap_words}
use Rattle.sf_words.specs.Line.{sf_app}
use Rattle.sf_words.specs.Orders.{HasTexts, faults_of, is_set, texts_by, verb_text}
use Rattle.sf_words.specs.declared.order.Verb.{Verb}
use Rattle.sf_words.specs.declared.order.Verb.TheVariants.{Scan}

-- the words are taken, with these texts
pub record IsTakenAs (words : List Text) (verb : Verb) (texts : List Text) : Type 0 where
  pub taken : faults_of words ≡ []
  pub given : List Row
  pub is_given : subcommand_of sf_app (codes "sf" ∷ clap_words words) ≡ Some (verb_text verb, given)
  pub texts_are : texts_by verb given ≡ texts

-- after `--`, any texts
abbrev pub TakesBehindDashes : Type 0
TakesBehindDashes =
    (verb : Verb) (texts : List Text) → HasTexts verb texts → length texts < 2 ^ 64
    → IsTakenAs (verb_text verb ∷ codes "--" ∷ texts) verb texts

-- the text doesn't begin with a hyphen (45)
abbrev pub IsPlain : Text → Type 0
IsPlain [] = Unit {0}
IsPlain (b ∷ rest) = (b == 45) ≡ false

-- and any of these without it
abbrev pub TakesPlainTexts : Type 0
TakesPlainTexts =
    (verb : Verb) (texts : List Text) → HasTexts verb texts → AllByRecursion IsPlain texts → length texts < 2 ^ 64
    → IsTakenAs (verb_text verb ∷ texts) verb texts

-- each after -e
abbrev pub with_flags : List Text → List Text
with_flags [] = []
with_flags (text ∷ rest) = codes "-e" ∷ text ∷ with_flags rest

-- and as the formats of lines, any number of these, one or more, each after `-e`
abbrev pub TakesFormats : Type 0
TakesFormats =
    (format : Text) (more : List Text) → AllByRecursion IsPlain (format ∷ more)
    → (taken : IsTakenAs (codes "scan" ∷ codes "--lines" ∷ with_flags (format ∷ more)) Scan (format ∷ more))
    × (is_set (codes "lines") taken.given ≡ true)
