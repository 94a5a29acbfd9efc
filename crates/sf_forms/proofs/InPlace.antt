-- Values that are written in place, each with its separator, and the records that are made of them.
use Rattle.std.proofs.Common.{◌≡◌, ◌≢◌, ℕ, zero, suc, ◌+◌, ◌-◌, ◌<◌, ◌≤◌, true, cond, List, [], ◌∷◌, ◌++◌, length, take, drop}
use Rattle.std.proofs.Common.{◌⊎◌, inl, inr, Option, Some, None, IfSome, set, append_assoc, append-nil, refl, sym, ap, ◌∙◌, arith}
use Rattle.std.proofs.lemmas.Bool.{ne_eqb}
use Rattle.std.proofs.lemmas.List.{length-append, length-take-le, take-take, take_at}
use Rattle.std.proofs.Math.Seq.{take-length, drop-length}
use Rattle.std.specs.List.{flat_map, join_with_byte, list_all, prefix_len}
use Rattle.sf_base.specs.Data.{Bytes}
use Rattle.sf_forms.specs.declared.form.OutputForm.{OutputForm}
use Rattle.sf_forms.specs.declared.form.OutputForm.TheVariants.{Plain, Tsv, Json, Csv}
use Rattle.sf_forms.specs.Csv.{csv_escaped, is_bare}
use Rattle.sf_forms.specs.Escapes.{stays, stays_in_table}
use Rattle.sf_forms.specs.Forms.{framed, value_text}
use Rattle.sf_forms.specs.InPlace.{lead, looked_in, parted, quote, trail}
use Rattle.sf_forms.specs.Tables.{tsv_escaped, tsv_text}
use Rattle.sf_forms.proofs.Escaping.{stays_keeps}
use Rattle.sf_forms.proofs.Filling.{kept_front}
use Rattle.sf_forms.proofs.JsonWriting.{whole_plain}
use Rattle.sf_forms.proofs.Quoting.{whole_front}
use Rattle.sf_forms.proofs.Short.{all_of_front}

-- ---- a value

-- it has one separator
pub one_separator : (form : OutputForm) → length (lead form) + length (trail form) ≡ 1
one_separator Plain = refl
one_separator Tsv = refl
one_separator Json = refl
one_separator Csv = refl

pub quote_short : (form : OutputForm) → length (quote form) ≤ 1
quote_short Plain = omega arith
quote_short Tsv = omega arith
quote_short Json = omega arith
quote_short Csv = omega arith

pub parted_length : (form : OutputForm) (text : List ℕ) → length (parted form text) ≡ length text + 1
parted_length form text =
    omega (arith, one_separator form, length-append (lead form) (text ++ trail form), length-append text (trail form))

-- a text between what stands before it and after it
pub put_around : (buf led told new first text last : List ℕ) (at start end stop : ℕ) → take start led ≡ take at buf ++ first
    → take end told ≡ take start led ++ text → take stop new ≡ take end told ++ last
    → take stop new ≡ take at buf ++ (first ++ (text ++ last))
put_around buf led told new first text last at start end stop opened written closed =
    closed ∙ ap (λ (t : List ℕ). t ++ last) (written ∙ ap (λ (t : List ℕ). t ++ text) opened)
    ∙ append_assoc (take at buf ++ first) text last ∙ append_assoc (take at buf) first (text ++ last)

-- a text whose bytes stay as they are
tsv_kept : (xs : List ℕ) → prefix_len stays_in_table xs ≡ length xs → tsv_text xs ≡ xs ++ []
tsv_kept xs all =
    kept_front tsv_escaped stays_in_table (stays_keeps Tsv) xs (length xs) (omega (arith, all))
    ∙ (λ i. take-length xs i ++ flat_map tsv_escaped (drop-length xs i))

bare_kept : (xs : List ℕ) → list_all is_bare xs ≡ true
    → cond (list_all is_bare xs) xs (34 ∷ (flat_map csv_escaped xs ++ 34 ∷ [])) ≡ xs ++ []
bare_kept xs all = rw all (sym (append-nil xs))

pub kept_text : (form : OutputForm) (xs : List ℕ) → prefix_len (stays (looked_in form)) xs ≡ length xs
    → value_text form (Bytes xs) ≡ quote form ++ (xs ++ quote form)
kept_text Plain xs all = ap (λ (t : List ℕ). 34 ∷ (t ++ 34 ∷ [])) (whole_front xs all)
kept_text Tsv xs all = tsv_kept xs all
kept_text Json xs all = ap (λ (t : List ℕ). 34 ∷ (t ++ 34 ∷ [])) (whole_plain xs all)
kept_text Csv xs all = bare_kept xs (all_of_front is_bare xs all)

-- a text of the plain form, begun
pub plain_begun : (buf led begun new first second xs : List ℕ) (at start middle count : ℕ) → first ≡ [] → second ≡ 34 ∷ []
    → start ≡ at + length first → middle ≡ start + length second → count ≡ length xs
    → take start led ≡ take at buf ++ first → take middle begun ≡ take start led ++ second
    → take (middle + count) new ≡ take middle begun ++ xs → take (at + 1 + length xs) new ≡ take at buf ++ 34 ∷ xs
plain_begun buf led begun new first second xs at start middle count none quotes start_is middle_is count_is opened next written =
    ap (λ (k : ℕ). take k new) {x = at + 1 + length xs} {y = middle + count}
    (omega (arith, start_is, middle_is, count_is, ap length none, ap length quotes))
    ∙ put_around buf led begun new first second xs at start middle (middle + count) opened next written
    ∙ (λ i. take at buf ++ (none i ++ (quotes i ++ xs)))

-- what stood before stays, whatever was written after it
pub before_stays : (buf led begun new first second xs : List ℕ) (at start middle end : ℕ) → at ≤ length buf → at ≤ end
    → take start led ≡ take at buf ++ first → take middle begun ≡ take start led ++ second → take end new ≡ take middle begun ++ xs
    → take at new ≡ take at buf
before_stays buf led begun new first second xs at start middle end low high opened next written =
    sym (take-take at end new high) ∙ ap (take at) (put_around buf led begun new first second xs at start middle end opened next written)
    ∙ take_at (take at buf) (first ++ (second ++ xs)) at (length-take-le at buf low)

-- ---- a record

-- the texts with a separator after each are the texts joined, and a separator
after_each : (c : ℕ) (v : List ℕ) (vs : List (List ℕ))
    → flat_map (λ t. t ++ c ∷ []) (v ∷ vs) ≡ join_with_byte c (v ∷ vs) ++ c ∷ []
after_each c v [] = append-nil (v ++ c ∷ [])
after_each c v (w ∷ ws) =
    ap (λ (t : List ℕ). (v ++ c ∷ []) ++ t) (after_each c w ws)
    ∙ append_assoc v (c ∷ []) (join_with_byte c (w ∷ ws) ++ c ∷ [])
    ∙ sym (append_assoc v (c ∷ join_with_byte c (w ∷ ws)) (c ∷ []))

-- and with one before each a separator, and the texts joined
before_each : (v : List ℕ) (vs : List (List ℕ)) → flat_map (parted Json) (v ∷ vs) ≡ 44 ∷ join_with_byte 44 (v ∷ vs)
before_each v [] = ap (λ (t : List ℕ). 44 ∷ t) (append-nil (v ++ []) ∙ append-nil v)
before_each v (w ∷ ws) =
    (λ i. 44 ∷ (append-nil v i ++ before_each w ws i))

-- of some texts something is written
pub some_parted : (form : OutputForm) (texts : List (List ℕ)) → texts ≢ [] → 0 < length (flat_map (parted form) texts)
some_parted form [] some = absurd (some refl)
some_parted form (v ∷ vs) some =
    omega (arith, length-append (parted form v) (flat_map (parted form) vs), parted_length form v)

pub ends_somewhere : (form : OutputForm) (texts : List (List ℕ)) (buf : List ℕ) (end : ℕ) → texts ≢ []
    → take end buf ≡ flat_map (parted form) texts → end ≡ 0 → ⊥
ends_somewhere form texts buf end some is none =
    let long = some_parted form texts some in
    let same = ap length is in
    let nothing : length (take end buf) ≡ 0 = ap (λ n. length (take n buf)) none in
    omega (arith, long, same, nothing)

nothing_there : (buf : List ℕ) (end : ℕ) → 0 < end → end ≤ length buf → take end buf ≡ [] → ⊥
nothing_there buf end some within is =
    let whole : length (take end buf) ≡ end = length-take-le end buf within in
    let none : length (take end buf) ≡ 0 = ap length is in
    omega (arith, whole, none, some)

-- the last separator gives way to the end of the line
line_ended : (c : ℕ) (texts : List (List ℕ)) (buf new : List ℕ) (end : ℕ) → 0 < end → end ≤ length buf
    → take end buf ≡ flat_map (λ t. t ++ c ∷ []) texts → take end new ≡ take (end - 1) buf ++ 10 ∷ []
    → take end new ≡ join_with_byte c texts ++ 10 ∷ []
line_ended c [] buf new end some within is new_is = absurd (nothing_there buf end some within is)
line_ended c (v ∷ vs) buf new end some within is new_is =
    let line : List ℕ = join_with_byte c (v ∷ vs) in
    let parts : take end buf ≡ line ++ c ∷ [] = is ∙ after_each c v vs in
    let long : length (take end buf) ≡ length line + 1 = ap length parts ∙ length-append line (c ∷ []) in
    let whole : length (take end buf) ≡ end = length-take-le end buf within in
    let front : take (end - 1) buf ≡ line =
    sym (take-take (end - 1) end buf (omega arith)) ∙ ap (take (end - 1)) parts
    ∙ take_at line (c ∷ []) (end - 1) (omega (arith, long, whole)) in
    new_is ∙ ap (λ (t : List ℕ). t ++ 10 ∷ []) front

pub line_ended_in : (form : OutputForm) (texts : List (List ℕ)) (buf new : List ℕ) (end : ℕ) → (form ≡ Plain) ⊎ (form ≡ Tsv) → 0 < end
    → end ≤ length buf → take end buf ≡ flat_map (parted form) texts → take end new ≡ take (end - 1) buf ++ 10 ∷ []
    → take end new ≡ framed form texts
line_ended_in form texts buf new end (inl e) some within is new_is =
    line_ended 32 texts buf new end some within (is ∙ ap (λ (f : OutputForm). flat_map (parted f) texts) e) new_is
    ∙ ap (λ (f : OutputForm). framed f texts) (sym e)
line_ended_in form texts buf new end (inr e) some within is new_is =
    line_ended 9 texts buf new end some within (is ∙ ap (λ (f : OutputForm). flat_map (parted f) texts) e) new_is
    ∙ ap (λ (f : OutputForm). framed f texts) (sym e)

-- a row of more than one byte isn't one of a column that is empty
pub csv_ended : (texts : List (List ℕ)) (buf new : List ℕ) (end : ℕ) → 0 < end → end ≢ 1 → end ≤ length buf
    → take end buf ≡ flat_map (parted Csv) texts → take end new ≡ take (end - 1) buf ++ 10 ∷ [] → take end new ≡ framed Csv texts
csv_ended [] buf new end some other within is new_is = absurd (nothing_there buf end some within is)
csv_ended (v ∷ []) buf new end some other within is new_is =
    let whole : length (take end buf) ≡ end = length-take-le end buf within in
    let filled : length v ≢ 0 = λ none. other (omega (
      arith,
      whole,
      ap length is,
      length-append (v ++ 44 ∷ []) [],
      length-append v (44 ∷ []),
      none,
    )) in
    line_ended 44 (v ∷ []) buf new end some within is new_is
    ∙ rw (ne_eqb (length v) 0 filled) refl
csv_ended (v ∷ w ∷ ws) buf new end some other within is new_is = line_ended 44 (v ∷ w ∷ ws) buf new end some within is new_is

none_in : (v : List ℕ) → length v ≡ 0 → v ≡ []
none_in [] none = refl
none_in (b ∷ v) none = absurd (omega (arith, none))

-- one of one byte is
pub lone_ended : (texts : List (List ℕ)) (buf : List ℕ) (end : ℕ) → end ≡ 1 → end ≤ length buf
    → take end buf ≡ flat_map (parted Csv) texts → framed Csv texts ≡ 34 ∷ 34 ∷ 10 ∷ []
lone_ended [] buf end one within is = absurd (nothing_there buf end (omega (arith, one)) within is)
lone_ended (v ∷ []) buf end one within is =
    let whole : length (take end buf) ≡ end = length-take-le end buf within in
    let none : v ≡ [] = none_in v (omega (
      arith,
      whole,
      one,
      ap length is,
      length-append (v ++ 44 ∷ []) [],
      length-append v (44 ∷ []),
    )) in
    ap (λ (t : List ℕ). framed Csv (t ∷ [])) none
lone_ended (v ∷ w ∷ ws) buf end one within is =
    let whole : length (take end buf) ≡ end = length-take-le end buf within in
    absurd (omega (
      arith,
      whole,
      one,
      ap length is,
      length-append (parted Csv v) (flat_map (parted Csv) (w ∷ ws)),
      parted_length Csv v,
      length-append (parted Csv w) (flat_map (parted Csv) ws),
      parted_length Csv w,
    ))

-- the first separator gives way to the bracket
pub array_closed : (texts : List (List ℕ)) (buf new : List ℕ) (end to : ℕ) → 0 < end → end ≤ length buf
    → take end buf ≡ flat_map (parted Json) texts → take to new ≡ 91 ∷ (drop 1 (take end buf) ++ 93 ∷ 10 ∷ [])
    → take to new ≡ framed Json texts
array_closed [] buf new end to some within is new_is = absurd (nothing_there buf end some within is)
array_closed (v ∷ vs) buf new end to some within is new_is =
    new_is ∙ ap (λ (t : List ℕ). 91 ∷ (drop 1 t ++ 93 ∷ 10 ∷ [])) (is ∙ before_each v vs)

pub closed_if : (form : OutputForm) (r : Option ℕ) (texts : List (List ℕ)) (buf new : List ℕ) (end : ℕ) → form ≡ Json → 0 < end
    → end ≤ length buf → take end buf ≡ flat_map (parted form) texts
    → IfSome r (λ to. take to new ≡ 91 ∷ (drop 1 (take end buf) ++ 93 ∷ 10 ∷ []))
    → IfSome r (λ to. take to new ≡ framed form texts)
closed_if form None texts buf new end json some within is written = tt
closed_if form (Some to) texts buf new end json some within is written =
    array_closed texts buf new end to some within (is ∙ ap (λ (f : OutputForm). flat_map (parted f) texts) json) written
    ∙ ap (λ (f : OutputForm). framed f texts) (sym json)

pub opened_front : (buf : List ℕ) (end : ℕ) → 0 < end → end ≤ length buf → take end (set buf 0 91) ≡ 91 ∷ drop 1 (take end buf)
opened_front [] end some within = absurd (omega (arith, some, within))
opened_front (b ∷ buf) zero some within = absurd (omega (arith, some))
opened_front (b ∷ buf) (suc end) some within = refl
