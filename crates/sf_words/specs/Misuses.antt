-- The kinds of what the command refuses by itself.
use Rattle.std.specs.Prelude.{[], ◌∷◌, Option, Some, None}
use Rattle.clap.specs.Words.{Kinds}
use Rattle.clap.specs.declared.error.kind.ErrorKind.{ErrorKind}
use Rattle.clap.specs.declared.error.kind.ErrorKind.TheVariants as kind
use Rattle.sf_words.specs.declared.misuse.Misuse.{Misuse}
use Rattle.sf_words.specs.declared.misuse.Misuse.TheVariants.{Form, NoLines, Together, PlainNames, TagAlone, BlankName, NoFormat}

abbrev pub misuse_kind : Misuse → ErrorKind
misuse_kind (Form text) = kind.InvalidValue
misuse_kind (NoLines option) = kind.MissingRequiredArgument
misuse_kind (Together conflict) = kind.ArgumentConflict
misuse_kind PlainNames = kind.ArgumentConflict
misuse_kind TagAlone = kind.MissingRequiredArgument
misuse_kind (BlankName names) = kind.InvalidValue
misuse_kind NoFormat = kind.MissingRequiredArgument

abbrev pub misuse_kinds : Option Misuse → Kinds
misuse_kinds None = []
misuse_kinds (Some misuse) = misuse_kind misuse ∷ []
