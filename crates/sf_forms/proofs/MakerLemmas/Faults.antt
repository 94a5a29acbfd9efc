-- What a print refuses is no failure of its sink.
use Rattle.std.proofs.Common.{◌≡◌, suc, ◌<◌, ◌+◌, ◌++◌, ◌∷◌, ◌∙◌, ℕ, true, false, List, length, take, drop}
use Rattle.std.proofs.Common.{Option, Result, Ok, Err}
use Rattle.std.proofs.Common.{get_or, refl, sym, ap, subst, arith, true≢false}
use Rattle.std.specs.Prelude.{is_ok, IfErr, OnOk}
use Rattle.std.specs.Io.KnownBytes.{Appends}
use Rattle.std.proofs.Math.Seq.{drop-cons}
use Rattle.std.proofs.lemmas.List.{take-append-drop}
use Rattle.sf_forms.specs.Written.{TakesPart}
use Rattle.sf_print.specs.declared.fault.PrintFault.{PrintFault}
use Rattle.sf_print.specs.declared.fault.PrintFault.TheVariants as fault
use Rattle.sf_print.specs.Printed.{WritesText, is_sink_fault}

-- a front of a text is a part of it
pub front_is_part : (old new : Option (List ℕ)) (text : List ℕ) (n : ℕ) → Appends old new (take n text) → n < length text
    → TakesPart old new text
front_is_part old new text n took less =
    let missing : ℕ = get_or text n 0 in
    let parts : text ≡ take n text ++ missing ∷ drop (n + 1) text = sym (take-append-drop n text)
    ∙ ap (λ (ys : List ℕ). take n text ++ ys) (drop-cons text n 0 less ∙ ap (λ (k : ℕ). missing ∷ drop k text) {x = suc n} {y = n + 1}
    (omega arith)) in
    (take n text, missing, drop (n + 1) text, parts, took)

abbrev failed_by : PrintFault → Result ℕ PrintFault
failed_by f = Err f

-- the sink failed within the printed text, which fits
pub sink_part : (r : Result ℕ PrintFault) (text : List ℕ) → is_sink_fault r ≡ false → (old new : Option (List ℕ)) (f : PrintFault) (n : ℕ)
    (P : Type 0) → f ≡ fault.Sink n → IfErr r (λ g. (failed_by f ≡ Err g) × P) → OnOk r (WritesText old new text (Err f))
    → (is_ok r ≡ true) × TakesPart old new text
sink_part (Ok len) text kept old new f n P f_is refused written =
    let part : WritesText old new text (Err (fault.Sink n)) = subst (λ g. WritesText old new text (Err g)) f_is written in
    (refl, front_is_part old new text n part.0 part.1)
sink_part (Err g) text kept old new f n P f_is refused written =
    absurd (true≢false (sym (ap (λ (x : PrintFault). is_sink_fault (Err x)) f_is) ∙ ap is_sink_fault refused.0 ∙ kept))
