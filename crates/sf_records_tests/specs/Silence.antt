-- What a teller that reports nothing makes of a line.
use Rattle.std.specs.Prelude.{ℕ, List, []}
use Rattle.sf_records.specs.declared.by_lines.end.LineFault.{LineFault}

abbrev pub no_note : ℕ → List ℕ → LineFault → List ℕ
no_note number line fault = []
