-- Where the directives of a format stand in its text.
use Rattle.std.specs.Prelude.{◌≡◌, ℕ, zero, suc, ◌+◌, List, [], ◌∷◌, length, slice_get, Option, None, Ok}
use Rattle.std.specs.Prelude.{if◌then◌else◌}
use Rattle.sf_format.specs.Language.{Language}
use Rattle.sf_format.specs.Pieces.{Piece, is_mark, piece_text}
use Rattle.sf_format.specs.Reading.{read}
use Rattle.sf_format.specs.declared.spans.Span.{Span}

-- where each directive or unit stands of a text that begins at p: from its first byte on up to the byte before the next part
abbrev pub spans_of : ℕ → List Piece → List Span
spans_of p [] = []
spans_of p (piece ∷ pieces) =
    let next = p + length (piece_text piece) in
    if is_mark piece then spans_of next pieces else record { start = p; end = next } ∷ spans_of next pieces

-- where the one with the number, counted from 1, stands, if there is one
abbrev pub span_at : ℕ → List Span → Option Span
span_at zero spans = None
span_at (suc n) spans = slice_get spans n

-- where those stand that are read of the text
abbrev pub AreSpans : Language → List ℕ → List Span → Type 0
AreSpans language text spans = (pieces : List Piece) × (read (length text) language [] text ≡ Ok pieces) × (spans ≡ spans_of 0 pieces)
