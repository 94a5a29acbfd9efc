-- Why the system refused a read, a write or the opening of a file.
use Rattle.std.specs.Prelude.{◌≡◌, List, ℕ, Option, Some, None, IfSome, codes}
use Rattle.std.specs.IoError.{error_kind}
use Rattle.std.specs.declared.io.Error.{Error}
use Rattle.std.specs.declared.io.ErrorKind.{ErrorKind}
use Rattle.std.specs.declared.io.ErrorKind.TheVariants as kind
use Rattle.sf_messages.specs.Notes.{note}

-- the words of the C library (POSIX strerror()) for a kind that stands for one error number alone, in the order of their numbers:
-- ENOENT, ENOTDIR, EISDIR, EFBIG, ENOSPC, EPIPE
abbrev pub kind_reason : ErrorKind → Option (List ℕ)
kind_reason kind.NotFound = Some (codes "No such file or directory")
kind_reason kind.NotADirectory = Some (codes "Not a directory")
kind_reason kind.IsADirectory = Some (codes "Is a directory")
kind_reason kind.FileTooLarge = Some (codes "File too large")
kind_reason kind.StorageFull = Some (codes "No space left on device")
kind_reason kind.BrokenPipe = Some (codes "Broken pipe")
kind_reason _ = None

-- the text says why: in these words, or, of any other error, in those that the system has
abbrev pub IsReason : Error → List ℕ → Type 0
IsReason error text = IfSome (kind_reason (error_kind error)) (λ known. text ≡ known)

-- a line of its own
abbrev pub IsReasonNote : Error → List ℕ → Type 0
IsReasonNote error notes = (text : List ℕ) × IsReason error text × (notes ≡ note text)
