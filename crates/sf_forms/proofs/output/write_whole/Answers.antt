use Rattle.std.proofs.Common.{◌≡◌, ℕ, ◌∷◌, ◌++◌, List, [], take, drop, length, get_or, sym, ap, ◌∙◌, append_assoc, ◌<◌, arith, Option}
use Rattle.std.proofs.Common.{Result, Ok, Err, IfErr}
use Rattle.std.proofs.lemmas.Grind.{common_steps}
use Rattle.std.proofs.lemmas.List.{take-append-drop, take_rest}
use Rattle.std.proofs.Math.Seq.{drop-cons}
use Rattle.std.specs.Io.KnownBytes.{Appends}
use Rattle.sf_print.proofs.Appending.{Appends-none, Appends-then, Appends-keeps}
use Rattle.sf_forms.proofs.output.write_whole.Goals as goal

-- a front of the rest after what was taken before is a front of the text
rest_failed : {T E : Type 0} (r : Result T E) (old mid new : Option (List ℕ)) (bytes begun rest : List ℕ) → begun ++ rest ≡ bytes
    → Appends old mid begun
    → IfErr r (λ _. (front : List ℕ) × (missing : ℕ) × (after : List ℕ) × (rest ≡ front ++ missing ∷ after) × Appends mid new front)
    → IfErr r (λ _. (front : List ℕ) × (missing : ℕ) × (after : List ℕ) × (bytes ≡ front ++ missing ∷ after) × Appends old new front)
rest_failed (Ok x) old mid new bytes begun rest whole took h = tt
rest_failed (Err e) old mid new bytes begun rest whole took h = (
  begun ++ h.0,
  h.1,
  h.2,
  sym whole ∙ ap (λ (t : List ℕ). begun ++ t) h.3 ∙ sym (append_assoc begun h.0 (h.1 ∷ h.2)),
  Appends-then old mid new begun h.0 took h.4,
)

pub returns-in-Ok-clause-failed : goal.returns-in-Ok-clause-failed
returns-in-Ok-clause-failed g c =
    let bytes = c.args.bytes.now in
    let n = c.in-Ok.count in
    rest_failed c.write_rest.result _ _ _ bytes (take n bytes) _ (ap (λ (t : List ℕ). take n bytes ++ t) (take_rest bytes n)
    ∙ take-append-drop n bytes) c.in-Ok.ensures.took c.write_rest.ensures.failed

pub returns-in-Err-clause-failed : goal.returns-in-Err-clause-failed
returns-in-Err-clause-failed g c =
    let bytes = c.args.bytes.now in
    let some : 0 < length bytes = grind (arith, common_steps) in
    ([], get_or bytes 0 0, drop 1 bytes, drop-cons bytes 0 0 some, Appends-keeps _ _ _ _ (Appends-none _) c.in-Err.ensures.took)
