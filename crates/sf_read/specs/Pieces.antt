-- Texts that come in pieces.
use Rattle.std.specs.Prelude.{ℕ, List}
use Rattle.std.specs.Borrow.{Bor}
use Rattle.std.specs.List.{flat_map}

-- the pieces one after the other
abbrev pub pieces_joined : List (Bor (List ℕ)) → List ℕ
pieces_joined pieces = flat_map (λ piece. piece.now) pieces
