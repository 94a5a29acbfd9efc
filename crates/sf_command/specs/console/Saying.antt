-- A text that the error output is handed, behind what waits in the output.
use Rattle.std.specs.Prelude.{◌≡◌, ◌⊎◌, ℕ, List, Option}
use Rattle.std.specs.Io.KnownBytes.{Appends}
use Rattle.sf_print.specs.sink.Sinks.{counted_on}
use Rattle.sf_records.specs.Judging.{TakesPart}

-- the error output took the text; or it failed once, and took a front of it
abbrev pub SaysText : {E : Type 0} → (E → Option (List ℕ)) → (E → ℕ) → List ℕ → E → E → Type 0
SaysText said unsaid text err err' =
    Appends (said err) (said err') text × (unsaid err' ≡ unsaid err)
    ⊎ TakesPart (said err) (said err') text × (unsaid err' ≡ counted_on (unsaid err))

-- and what waited in the output before it was handed on first, which `hands` says
abbrev pub Says : {K E : Type 0} → (K → K → Type 0) → (E → Option (List ℕ)) → (E → ℕ) → List ℕ → K → K → E → E → Type 0
Says hands said unsaid text out out' err err' = hands out out' × SaysText said unsaid text err err'
