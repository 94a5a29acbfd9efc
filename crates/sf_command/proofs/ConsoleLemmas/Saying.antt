-- A line, and then what is said behind it.
use Rattle.std.proofs.Common.{◌≡◌, ◌∙◌, ◌++◌, ◌∷◌, ℕ, Bool, false, List, Option, Result, Ok, Err, IfOk, IfErr, is_err, inl, inr, ap}
use Rattle.std.proofs.Common.{refl, sym, true≢false}
use Rattle.std.specs.Prelude.{if◌then◌else◌}
use Rattle.std.specs.Io.KnownBytes.{Appends}
use Rattle.sf_print.specs.sink.Sinks.{counted_on}
use Rattle.sf_records.specs.by_lines.Telling.{Tells, faults_by}
use Rattle.sf_records.specs.Judging.{TakesPart}
use Rattle.sf_command.specs.console.Saying.{SaysText}

-- the sink took the text whole, or failed within it
pub written : {A F : Type 0} (r : Result A F) (failed : Bool) (told told' : Option (List ℕ)) (text : List ℕ) → failed ≡ is_err r
    → IfOk r (λ _. Appends told told' text)
    → IfErr r (λ _. (front : List ℕ) × (missing : ℕ) × (rest : List ℕ) × (text ≡ front ++ missing ∷ rest) × Appends told told' front)
    → Tells false failed told told' text
written (Ok x) failed told told' text is took front = inl (refl, is, took)
written (Err x) failed told told' text is took front = inr (inl (refl, is, front))

-- what is told where nothing failed before is said
pub said : {E : Type 0} (contents : E → Option (List ℕ)) (failures : E → ℕ) (failed : Bool) (text : List ℕ) (err err' : E)
    → Tells false failed (contents err) (contents err') text
    → failures err' ≡ faults_by false failed (failures err) → SaysText contents failures text err err'
said contents failures failed text err err' (inl (p, is, all)) counted = inl (all, counted ∙ ap (λ b. faults_by false b (failures err)) is)
said contents failures failed text err err' (inr (inl (p, is, part))) counted =
    inr (part, counted ∙ ap (λ b. faults_by false b (failures err)) is)
said contents failures failed text err err' (inr (inr (p, is, none))) counted = absurd (true≢false (sym p))

-- a text that was written whole, or up to where the sink failed, is said
pub said_by : {A F E : Type 0} (r : Result A F) (contents : E → Option (List ℕ)) (failures : E → ℕ) (text : List ℕ) (err err' : E)
    → IfOk r (λ _. Appends (contents err) (contents err') text) → IfErr r (λ _. TakesPart (contents err) (contents err') text)
    → failures err' ≡ (if is_err r then counted_on (failures err) else failures err) → SaysText contents failures text err err'
said_by (Ok x) contents failures text err err' took part counted = inl (took, counted)
said_by (Err x) contents failures text err err' took part counted = inr (part, counted)
