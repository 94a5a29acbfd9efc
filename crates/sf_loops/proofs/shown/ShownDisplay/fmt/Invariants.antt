use Rattle.std.proofs.Common.{◌∷◌, take}
use Rattle.std.specs.List.{flat_map}
use Rattle.std.specs.Fmt.{HasWritten, IsPlainFormatter}
use Rattle.sf_loops.specs.LineTexts.{shown_byte}
use Rattle.sf_loops.proofs.shown.ShownDisplay.fmt.Given as goal

-- the bytes so far are written, after a quote
abbrev pub invariant-loop-byte : goal.invariant-loop-byte
invariant-loop-byte g l =
    IsPlainFormatter l.fn.f
    → HasWritten g.W.Write.write_str_gives l.fn.f (34 ∷ flat_map shown_byte (take l.byte-index l.self.0.now)) l.f
