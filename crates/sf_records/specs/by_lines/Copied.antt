-- Copies of lines, copied again.
use Rattle.std.specs.Prelude.{◌≡◌, ◌≤◌, ◌++◌, ◌∷◌, ℕ, Bool, true, false, List, [], length, Some, None, Ok}
use Rattle.std.specs.List.{AllByRecursion, count_by}
use Rattle.sf_base.specs.declared.values.Kind.TheVariants as kind
use Rattle.sf_format.specs.declared.directive.Directive.{Directive}
use Rattle.sf_format.specs.declared.directive.Directive.TheVariants.{Conv}
use Rattle.sf_format.specs.declared.directive.Shape.TheVariants.{Set}
use Rattle.sf_format.specs.declared.unit.Unit.{Unit as PrintUnit}
use Rattle.sf_read.specs.line.Cut.{IsLine, lines_of}
use Rattle.sf_records.specs.declared.by_lines.end.LineFault.{LineFault}
use Rattle.sf_records.specs.declared.by_lines.options.LinesOptions.{LinesOptions}
use Rattle.sf_records.specs.Copied.{IsPair}
use Rattle.sf_records.specs.Copies.{copying}
use Rattle.sf_records.specs.by_lines.Loops.{AreTurns, is_written, texts}
use Rattle.sf_records.specs.by_lines.Turns.{LineWork, Turn, work_of}

-- reads one byte of the set, and stores nothing, as `%*1[\n]` does
abbrev pub reads_one : List Bool → Directive
reads_one members =
    Conv (record { shape = Set members; kind = kind.Text; width = Some 1; slot = None; optional = false; opens = None; column = false })

-- the values of each line, read by the one format, are printed by the units, if they fit these and the directives
abbrev pub copying_lines : LinesOptions → List PrintUnit → List Directive → List Directive → (ℕ → List ℕ → LineFault → List ℕ) → LineWork
copying_lines options units ds front telling = work_of options [] (front ∷ []) (λ number own. copying units ds) telling

-- the text of a line that is written is a line within the limit, with its newline
abbrev pub IsLineText : ℕ → Turn → Type 0
IsLineText m (Some (Ok text)) = (line : List ℕ) × IsLine line × (length line ≤ m) × (text ≡ line ++ 10 ∷ [])
IsLineText m turn = Unit {0}

-- the lines of what was written come to these turns, which write the same again
pub record CopiedAgain (w : LineWork) (turns : List Turn) : Type 0 where
  pub again : List Turn
  pub are : AreTurns w 0 (lines_of (texts turns)) again
  pub same : texts again ≡ texts turns
  pub count : length again ≡ count_by is_written turns
  pub all : AllByRecursion (λ turn. is_written turn ≡ true) again

-- By a pair whose scan format ends in such a directive, each line being read by what stands before that: what was written of lines,
-- where each text is a line, is copied as it is.
abbrev pub CopyingLinesTwice : Type 0
CopyingLinesTwice =
    (units : List PrintUnit) (ds front : List Directive) (members : List Bool) → IsPair units ds → ds ≡ front ++ reads_one members ∷ []
    → (options : LinesOptions) → options.skip ≡ 0 → (telling : ℕ → List ℕ → LineFault → List ℕ)
    → (n : ℕ) (lines : List (List ℕ)) (turns : List Turn)
    → AreTurns (copying_lines options units ds front telling) n lines turns → AllByRecursion (IsLineText options.limit) turns
    → CopiedAgain (copying_lines options units ds front telling) turns
