-- What is known of an input: of its bytes, and of what they come from.
use Rattle.std.specs.Prelude.{◌≡◌, ◌≢◌, ℕ, Bool, true, false, List, [], Option, Some, None, codes}
use Rattle.sf.specs.declared.input.Stream.{Stream}
use Rattle.sf.specs.declared.input.Stream.TheVariants.{Standard, File, Nothing}

-- the bytes to come: those of the system are not known
abbrev pub told : Stream → Option (List ℕ)
told Nothing = Some []
told _ = None

abbrev pub IsStandard : Stream → Type 0
IsStandard (Standard stdin) = Unit {0}
IsStandard _ = ⊥

abbrev pub IsFile : Stream → Type 0
IsFile (File file) = Unit {0}
IsFile _ = ⊥

-- The name `-` stands for standard input, which is open. Another name that could be opened is a file's, and one that couldn't has no bytes.
pub record IsOpened (name : List ℕ) (stream : Stream) (is_open : Bool) : Type 0 where
  pub standard : name ≡ codes "-" → (is_open ≡ true) × IsStandard stream
  pub file : name ≢ codes "-" → is_open ≡ true → IsFile stream
  pub unopened : is_open ≡ false → stream ≡ Nothing
