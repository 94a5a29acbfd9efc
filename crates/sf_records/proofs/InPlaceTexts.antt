-- The records of values that were written one after the other.
use Rattle.std.proofs.Common.{◌≡◌, ◌≢◌, ℕ, ◌+◌, ◌-◌, ◌<◌, ◌≤◌, List, [], ◌∷◌, ◌++◌, length, map, take, Some}
use Rattle.std.proofs.Common.{refl, sym, ap, subst, drop, ◌∙◌, arith}
use Rattle.std.proofs.lemmas.List.{length-map, length-take-le}
use Rattle.std.specs.List.{flat_map, range_with_len}
use Rattle.sf_base.specs.Data.{Assigned, Datum, datum_at}
use Rattle.sf_format.specs.declared.directive.Directive.{Directive}
use Rattle.sf_format.specs.Proper.{AreInOrder, destinations_of, slots_of}
use Rattle.sf_format.specs.Slots.{slots_from}
use Rattle.sf_forms.specs.declared.form.OutputForm.{OutputForm}
use Rattle.sf_forms.specs.Forms.{framed, given_text, record_text, value_text}
use Rattle.sf_forms.specs.InPlace.{parted}
use Rattle.sf_run.specs.Runs.{RunReport}
use Rattle.sf_run.specs.Texts.{slots_in}
use Rattle.sf_run.specs.Written.{AreRecords, CanFollow, Part, records_by, texts_by, used_by}
use Rattle.sf_records.specs.InPlace.{line_in, value_in}

-- the texts of values in a form
abbrev pub texts_in : OutputForm → List Assigned → List (List ℕ)
texts_in form values = map (λ a. value_text form a.datum) values

-- what is written of values one after the other is their texts, each with its separator
pub texts_parted : (form : OutputForm) (values : List Assigned)
    → texts_by (value_in form) values ≡ flat_map (parted form) (texts_in form values)
texts_parted form [] = refl
texts_parted form (v ∷ vs) = ap (λ (t : List ℕ). value_in form v.datum ++ t) (texts_parted form vs)

-- of some values there are some
pub some_texts : (form : OutputForm) (values : List Assigned) → values ≢ [] → texts_in form values ≢ []
some_texts form [] some = absurd (some refl)
some_texts form (v ∷ vs) some = λ e. absurd (omega (arith, ap length e))

-- the first value is found at its slot, and those after it at theirs
found_first : (slot : ℕ) (v : Assigned) (vs : List Assigned) → v.slot ≡ slot → datum_at slot (v ∷ vs) ≡ Some v.datum
found_first slot v vs is = grind arith

found_later : (slot : ℕ) (v : Assigned) (vs : List Assigned) → v.slot < slot → datum_at slot (v ∷ vs) ≡ datum_at slot vs
found_later slot v vs low = grind arith

head_is : (a b : ℕ) (xs ys : List ℕ) → a ∷ xs ≡ b ∷ ys → a ≡ b
head_is a b xs ys is = cc

tail_is : (a b : ℕ) (xs ys : List ℕ) → a ∷ xs ≡ b ∷ ys → xs ≡ ys
tail_is a b xs ys is = cc

both : (a b : List ℕ) (xs ys : List (List ℕ)) → a ≡ b → xs ≡ ys → a ∷ xs ≡ b ∷ ys
both a b xs ys e is = cc

-- so the texts of slots in order are those of their values
texts_from : (form : OutputForm) (p : ℕ) (values : List Assigned) (f : ℕ → List ℕ) → slots_in values ≡ slots_from p (length values)
    → ((slot : ℕ) → p ≤ slot → f slot ≡ given_text form (datum_at slot values))
    → map f (range_with_len p (length values)) ≡ texts_in form values
texts_from form p [] f order is = refl
texts_from form p (v ∷ vs) f order is =
    let first : v.slot ≡ p = head_is v.slot p (slots_in vs) (slots_from (p + 1) (length vs)) order in
    let rest : slots_in vs ≡ slots_from (p + 1) (length vs) = tail_is v.slot p (slots_in vs) (slots_from (p + 1) (length vs)) order in
    both (f p) (value_text form v.datum) (map f (range_with_len (p + 1) (length vs))) (texts_in form vs)
    (is p (omega arith) ∙ ap (given_text form) (found_first p v vs first))
    (texts_from form (p + 1) vs f rest
    (λ slot low. is slot (omega (arith, low)) ∙ ap (given_text form) (found_later slot v vs (omega (arith, first, low)))))

-- the record of values in the order of their slots
record_is : (form : OutputForm) (n : ℕ) (report : RunReport) (values : List Assigned) → report.values ≡ values → n ≡ length values
    → slots_in values ≡ slots_from 1 n → record_text form n report ≡ line_in form values
record_is form n report values are many order =
    ap (framed form)
    (ap (λ (k : ℕ). map (λ slot. given_text form (datum_at slot report.values)) (range_with_len 1 k)) many
    ∙ texts_from form 1 values (λ slot. given_text form (datum_at slot report.values)) (order ∙ ap (slots_from 1) many)
    (λ slot low. ap (λ (given : List Assigned). given_text form (datum_at slot given)) are))

nothing_there : (mid : List ℕ) (end : ℕ) → end ≤ length mid → take end mid ≡ [] → end ≡ 0
nothing_there mid end within is =
    let whole : length (take end mid) ≡ end = length-take-le end mid within in
    let none : length (take end mid) ≡ 0 = ap length is in
    omega (arith, whole, none)

-- where values come in the order of their slots that is the record of a report
pub record_in : (form : OutputForm) (ds : List Directive) (report : RunReport) (values : List Assigned) → AreInOrder ds
    → report.values ≡ values → slots_in values ≡ slots_of ds
    → record_text form (length (destinations_of ds)) report ≡ line_in form values
record_in form ds report values order are slots =
    let n : ℕ = length (destinations_of ds) in
    let many : n ≡ length values =
    sym (length-map (destinations_of ds) (λ s. s.0)) ∙ ap length (sym slots) ∙ length-map values (λ a. a.slot) in
    record_is form n report values are many (slots ∙ order)

no_part : (ps : List Part) → length ps ≡ 0 → ps ≡ []
no_part [] none = refl
no_part (p ∷ ps) none = absurd (omega (arith, none))

-- a record that may follow none in the room may follow at its start
pub follows_at_first : (text : Datum → List ℕ) (spare : ℕ) (whole : List Assigned → List ℕ) (ds : List Directive) (m : ℕ)
    (piece : List ℕ) (count used end : ℕ) (room new : List ℕ) → count ≡ 0 → AreRecords whole ds m piece count used (take end new)
    → end ≤ length new → length new ≡ length room → CanFollow text spare ds m piece (length room)
    → CanFollow text spare ds m (drop used piece) (length new - end)
follows_at_first text spare whole ds m piece count used end room new none are within wide follows =
    let parts : are.parts ≡ [] = no_part are.parts (sym are.count_is ∙ none) in
    let nothing : used ≡ 0 = are.used_is ∙ ap used_by parts in
    let empty : take end new ≡ [] = are.written ∙ ap (records_by whole) parts in
    let start : end ≡ 0 = nothing_there new end within empty in
    subst (λ n. CanFollow text spare ds m (drop n piece) (length new - end)) (sym nothing)
    (subst (λ n. CanFollow text spare ds m piece n) {x = length room} {y = length new - end} (omega (arith, start, wide)) follows)
