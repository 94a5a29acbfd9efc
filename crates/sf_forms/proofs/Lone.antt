-- The whole text of a record, by that of its values.
use Rattle.std.proofs.Common.{◌≡◌, ℕ, zero, suc, ◌-◌, nat_eq, cond, Result, Ok, Err, OnOk, List, [], ◌∷◌, ◌++◌, map, length}
use Rattle.std.proofs.Common.{append_assoc, refl, ap, ◌∙◌, arith}
use Rattle.std.proofs.lemmas.Bool.{ne_eqb}
use Rattle.std.proofs.lemmas.List.{length-append}
use Rattle.std.specs.List.{join_with_byte, range_with_len}
use Rattle.sf_forms.specs.declared.form.OutputForm.{OutputForm}
use Rattle.sf_forms.specs.declared.form.OutputForm.TheVariants.{Plain, Tsv, Json, Csv}
use Rattle.sf_forms.specs.Forms.{closing, filler, framed, opening, separator}
use Rattle.sf_forms.specs.Lone.{is_lone_in}

-- the quotes of a record that has only these
pub lone_is : (form : OutputForm) (f : ℕ → List ℕ) (n len : ℕ)
    → len ≡ length (join_with_byte (separator form) (map f (range_with_len 1 n)))
    → cond (is_lone_in form n len) (34 ∷ 34 ∷ []) [] ≡ filler form (map f (range_with_len 1 n))
lone_is Plain f n len e = refl
lone_is Tsv f n len e = refl
lone_is Json f n len e = refl
lone_is Csv f zero len e = refl
lone_is Csv f (suc zero) len e = ap (λ (k : ℕ). cond (nat_eq k 0) (34 ∷ 34 ∷ []) []) e
lone_is Csv f (suc (suc n)) len e = rw (ne_eqb (suc (suc n)) 1 (λ e. omega (arith, e))) refl

-- after the opening, the values, the quotes and the closing
pub record_is : (form : OutputForm) (f : ℕ → List ℕ) (n len : ℕ) (old out filled new : List ℕ)
    → out ≡ (old ++ opening form) ++ join_with_byte (separator form) (map f (range_with_len 1 n))
    → len ≡ length out - length (old ++ opening form) → filled ≡ out ++ cond (is_lone_in form n len) (34 ∷ 34 ∷ []) []
    → new ≡ filled ++ closing form → new ≡ old ++ framed form (map f (range_with_len 1 n))
record_is form f n len old out filled new written count quotes closed =
    let values : List ℕ = join_with_byte (separator form) (map f (range_with_len 1 n)) in
    let rest : List ℕ = filler form (map f (range_with_len 1 n)) in
    let long : len ≡ length values = omega (arith, count, ap length written, length-append (old ++ opening form) values) in
    closed ∙ ap (λ (t : List ℕ). t ++ closing form) (quotes ∙ ap (λ (t : List ℕ). out ++ t) (lone_is form f n len long)
    ∙ ap (λ (t : List ℕ). t ++ rest) written)
    ∙ append_assoc ((old ++ opening form) ++ values) rest (closing form)
    ∙ append_assoc (old ++ opening form) values (rest ++ closing form) ∙ append_assoc old (opening form) (values ++ (rest ++ closing form))

pub ok_then : {A E P Q : Type 0} (r : Result A E) → OnOk r P → (P → Q) → OnOk r Q
ok_then (Ok x) h f = f h
ok_then (Err e) h f = tt
