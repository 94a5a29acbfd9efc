use Rattle.std.proofs.Common.{◌≡◌, ℕ, ◌<◌, List, length, Option, Some, None, arith}
use Rattle.std.specs.Prelude.{IsSome}
use Rattle.sf_format.specs.declared.directive.Shape.TheVariants.{Chars}
use Rattle.sf_format.specs.Layout.{most_of}
use Rattle.sf_item.specs.Wholes.{NoItemWithin}
use Rattle.sf_item.proofs.Wholes.{no_chars}
use Rattle.sf_item.proofs.whole.characters_item.Goals.{else-most-gt0-via-then-most-gt0+else-most-piece, else-most-gt0-via-else-most-gt0}
use Rattle.sf_item.proofs.whole.characters_item.Goals as goal

none_so_long : (width : Option ℕ) (most : ℕ) (piece : List ℕ) → most ≡ most_of width → IsSome width
    → (0 < most → most < length piece → ⊥) → NoItemWithin Chars width piece
none_so_long None most piece is some none = absurd (let e = some in cc)
none_so_long (Some w) most piece is some none = no_chars (Some w) piece most is none

pub returns-else-most-gt0-clause-none : goal.returns-else-most-gt0-clause-none
returns-else-most-gt0-clause-none c width is given none =
    none_so_long width c.args.most c.args.piece.now is given
    (λ some behind. elim c.else-most-gt0.branch [
      | else-most-gt0-via-then-most-gt0+else-most-piece w ↦ let past = w.if-most-piece.false in omega (arith, past, behind)
      | else-most-gt0-via-else-most-gt0 w ↦ let zero = w.if-most-gt0.false in omega (arith, zero, some)
    ])
