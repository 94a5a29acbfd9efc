-- The columns of records under heads.
use Rattle.std.proofs.Common.{◌≡◌, ℕ, zero, suc, ◌+◌, ◌-◌, ◌<◌, Bool, true, false, List, [], ◌∷◌, ◌++◌, length, map, take, get_or}
use Rattle.std.proofs.Common.{refl, sym, ap, ◌∙◌, arith, Option, Some, None, ◌⊎◌, inl, inr, Result, Ok, Err, OnOk, true≢false}
use Rattle.std.proofs.Common.{append_assoc, codes, cond}
use mir.Val.{bool_byte}
use Rattle.std.proofs.lemmas.Bool.{ne_eqb}
use Rattle.std.proofs.lemmas.List.{append-nil, get_or-map, length-append, length-map, map-append, map_more}
use Rattle.std.specs.Borrow.{Bor}
use Rattle.std.specs.Fmt.{decimal}
use Rattle.std.specs.List.{join_with_byte, range_with_len}
use Rattle.std.specs.Prelude.{IfSome, is_err, is_some}
use Rattle.sf_base.specs.Data.{Bytes}
use Rattle.sf_forms.specs.declared.form.OutputForm.{OutputForm}
use Rattle.sf_forms.specs.Columns.{after_head, name_at, tagged_column, texts}
use Rattle.sf_forms.specs.declared.form.OutputForm.TheVariants.{Plain, Tsv, Json, Csv}
use Rattle.sf_forms.specs.Forms.{closing, framed, opening, row_text, separator, slot_text, value_text}
use Rattle.sf_forms.specs.Heads.{column_names, columns, head, headed, member, members, names_line, object_front, object_text, tag_text}
use Rattle.sf_forms.specs.Heads.{tagged}
use Rattle.sf_forms.specs.Lone.{is_lone_in}
use Rattle.sf_forms.specs.JsonStrings.{json_string}
use Rattle.sf_forms.proofs.Lone.{record_is}
use Rattle.sf_forms.proofs.Rooms.{plain_string}
use Rattle.sf_report.specs.Runs.{RunReport}

-- ---- the number of a format

-- the columns after it
tagged_later : (number : ℕ) (f : ℕ → List ℕ) (a n : ℕ) → 0 < a
    → map (tagged_column number f) (range_with_len (a + 1) n) ≡ map f (range_with_len a n)
tagged_later number f a zero some = refl
tagged_later number f a (suc n) some =
    ap (λ (t : List ℕ). t ∷ map (tagged_column number f) (range_with_len (a + 1 + 1) n)) here
    ∙ ap (λ (ts : List (List ℕ)). f a ∷ ts) (tagged_later number f (a + 1) n (omega (arith, some)))
  where
    here : tagged_column number f (a + 1) ≡ f a
    here = rw (ne_eqb (a + 1) 1 (λ e. omega (arith, e, some))) (ap f {x = a + 1 - 1} {y = a} (omega arith))

pub tagged_columns : (number : ℕ) (f : ℕ → List ℕ) (n : ℕ)
    → map (tagged_column number f) (range_with_len 1 (n + 1)) ≡ decimal number ∷ map f (range_with_len 1 n)
tagged_columns number f n =
    ap (λ (k : ℕ). map (tagged_column number f) (range_with_len 1 k)) {x = n + 1} {y = suc n} (omega arith)
    ∙ ap (λ (ts : List (List ℕ)). decimal number ∷ ts) (tagged_later number f 1 n (omega arith))

-- ---- names

-- members of an object, each with the name of its place
members_from : (names : List (List ℕ)) (name f : ℕ → List ℕ) (a n : ℕ) → ((k : ℕ) → name (a + k) ≡ get_or names k [])
    → map (λ k. member (name k) (f k)) (range_with_len a n) ≡ members names (map f (range_with_len a n))
members_from names name f a zero are = refl
members_from [] name f a (suc n) are =
    ap (λ (t : List ℕ). member t (f a) ∷ map (λ k. member (name k) (f k)) (range_with_len (a + 1) n))
    (ap name {x = a} {y = a + 0} (omega arith) ∙ are 0)
    ∙ ap (λ (ts : List (List ℕ)). member [] (f a) ∷ ts) (members_from [] name f (a + 1) n later)
  where
    later : (k : ℕ) → name (a + 1 + k) ≡ get_or [] k []
    later k = ap name {x = a + 1 + k} {y = a + suc k} (omega arith) ∙ are (suc k)
members_from (first ∷ names) name f a (suc n) are =
    ap (λ (t : List ℕ). member t (f a) ∷ map (λ k. member (name k) (f k)) (range_with_len (a + 1) n))
    (ap name {x = a} {y = a + 0} (omega arith) ∙ are 0)
    ∙ ap (λ (ts : List (List ℕ)). member first (f a) ∷ ts) (members_from names name f (a + 1) n later)
  where
    later : (k : ℕ) → name (a + 1 + k) ≡ get_or names k []
    later k = ap name {x = a + 1 + k} {y = a + suc k} (omega arith) ∙ are (suc k)

pub members_by_place : (names : List (List ℕ)) (f : ℕ → List ℕ) (n : ℕ)
    → map (λ k. member (name_at names k) (f k)) (range_with_len 1 n) ≡ members names (map f (range_with_len 1 n))
members_by_place names f n = members_from names (name_at names) f 1 n
    (λ k. ap (λ (i : ℕ). get_or names i []) {x = 1 + k - 1} {y = k} (omega arith))

-- the same, each member by its head
by_heads : (name f : ℕ → List ℕ) (ks : List ℕ) → map (after_head (λ k. head (name k)) f) ks ≡ map (λ k. member (name k) (f k)) ks
by_heads name f [] = refl
by_heads name f (k ∷ ks) = (λ i. append_assoc (json_string (name k)) (58 ∷ []) (f k) i ∷ by_heads name f ks i)

members_by_head : (names : List (List ℕ)) (f : ℕ → List ℕ) (n : ℕ)
    → map (after_head (λ k. head (name_at names k)) f) (range_with_len 1 n) ≡ members names (map f (range_with_len 1 n))
members_by_head names f n = by_heads (name_at names) f (range_with_len 1 n) ∙ members_by_place names f n

-- the heads of one more name
pub heads_more : (names : List (Bor (List ℕ))) (i : ℕ) (none : Bor (List ℕ)) (heads : List (List ℕ)) (text : List ℕ) → i < length names
    → heads ≡ map head (texts (take i names)) → text ≡ head (get_or names i none).now
    → heads ++ text ∷ [] ≡ map head (texts (take (i + 1) names))
heads_more names i none heads text lt so_far is =
    (λ j. so_far j ++ is j ∷ [])
    ∙ sym (ap (map head) (map_more (λ (n : Bor (List ℕ)). n.now) names i none lt)
    ∙ map-append head (texts (take i names)) ((get_or names i none).now ∷ []))

-- the head that stands at this place is that of the name there
pub head_there : {V : Type 0} (items : V → List ℕ) (heads : List V) (names : List (List ℕ)) (k : ℕ) (found : V) (text : List ℕ)
    → map items heads ≡ map head names → k < length heads → found ≡ get_or heads k found → text ≡ items found
    → text ≡ head (get_or names k [])
head_there items heads names k found text same lt is shown =
    shown ∙ ap items is ∙ sym (get_or-map items heads k found (head []) lt) ∙ ap (λ (ts : List (List ℕ)). get_or ts k (head [])) same
    ∙ get_or-map head names k [] (head [])
    (omega (arith, lt, ap length same, length-map heads items, length-map names head))

-- the head of the format's number
pub head_of_tag : 34 ∷ (codes "format" ++ 34 ∷ 58 ∷ []) ≡ head (codes "format")
head_of_tag = ap (λ (t : List ℕ). t ++ 58 ∷ []) (plain_string (codes "format") refl)

-- its name is that of the first column
pub tag_is_first : (tagged : Bool) (names : List (List ℕ)) (column : ℕ) → tagged ≡ true → column ≡ 1
    → codes "format" ≡ name_at (column_names tagged names) column
tag_is_first tagged names column is first = rw (is, first) refl

-- the names as texts
texts_from : (form : OutputForm) (names : List (List ℕ)) (name : ℕ → List ℕ) (a : ℕ) → ((k : ℕ) → name (a + k) ≡ get_or names k [])
    → map (λ k. value_text form (Bytes (name k))) (range_with_len a (length names)) ≡ map (value_text form) (map Bytes names)
texts_from form [] name a are = refl
texts_from form (first ∷ names) name a are =
    ap (λ (t : List ℕ). value_text form (Bytes t) ∷ map (λ k. value_text form (Bytes (name k))) (range_with_len (a + 1) (length names)))
    (ap name {x = a} {y = a + 0} (omega arith) ∙ are 0)
    ∙ ap (λ (ts : List (List ℕ)). value_text form (Bytes first) ∷ ts) (texts_from form names name (a + 1) later)
  where
    later : (k : ℕ) → name (a + 1 + k) ≡ get_or names k []
    later k = ap name {x = a + 1 + k} {y = a + suc k} (omega arith) ∙ are (suc k)

pub names_by_place : (form : OutputForm) (names : List (List ℕ)) (n : ℕ) → n ≡ length names
    → map (λ k. value_text form (Bytes (name_at names k))) (range_with_len 1 n) ≡ map (value_text form) (map Bytes names)
names_by_place form names n count =
    ap (λ (m : ℕ). map (λ k. value_text form (Bytes (name_at names k))) (range_with_len 1 m)) count
    ∙ texts_from form names (name_at names) 1 (λ k. ap (λ (i : ℕ). get_or names i []) {x = 1 + k - 1} {y = k} (omega arith))

-- one more name with the number's
pub names_count : (tagged : Bool) (names : List (List ℕ)) (n m : ℕ) → m ≡ n + bool_byte tagged → length names ≡ n
    → m ≡ length (column_names tagged names)
names_count true names n m is count = omega (arith, is, count)
names_count false names n m is count = omega (arith, is, count)

-- ---- records

-- an object with the number of a format, and one without
pub object_with : (old : List ℕ) (names : List (List ℕ)) (tag : Option ℕ) (number n : ℕ) (report : RunReport) → tag ≡ Some number
    → old ++ 123 ∷ (join_with_byte 44 (map (λ k. member (name_at (column_names true names) k)
    (tagged_column number (slot_text Json report) k)) (range_with_len 1 (n + 1))) ++ 125 ∷ 10 ∷ [])
    ≡ old ++ object_text (column_names (is_some tag) names) (columns Json tag n report)
object_with old names tag number n report is =
    let all : List (List ℕ) = column_names true names in
    rw is (ap (λ (ts : List (List ℕ)). old ++ 123 ∷ (join_with_byte 44 ts ++ 125 ∷ 10 ∷ []))
    (members_by_place all (tagged_column number (slot_text Json report)) (n + 1)
    ∙ ap (members all) (tagged_columns number (slot_text Json report) n)))

pub object_without : (old : List ℕ) (names : List (List ℕ)) (tag : Option ℕ) (n : ℕ) (report : RunReport) → tag ≡ None
    → old ++ 123 ∷ (join_with_byte 44 (map (λ k. member (name_at (column_names false names) k) (slot_text Json report k))
    (range_with_len 1 n)) ++ 125 ∷ 10 ∷ [])
    ≡ old ++ object_text (column_names (is_some tag) names) (columns Json tag n report)
object_without old names tag n report is =
    rw is (ap (λ (ts : List (List ℕ)). old ++ 123 ∷ (join_with_byte 44 ts ++ 125 ∷ 10 ∷ []))
    (members_by_place names (slot_text Json report) n))

-- texts after the number of a format, if it is given
pub joined_after : (sep : ℕ) (tag : Option ℕ) (f : ℕ → List ℕ) (n : ℕ)
    → join_with_byte sep (tagged tag (map f (range_with_len 1 n))) ≡ tag_text sep tag n ++ join_with_byte sep (map f (range_with_len 1 n))
joined_after sep None f n = refl
joined_after sep (Some number) f zero = sym (append-nil (decimal number))
joined_after sep (Some number) f (suc n) =
    sym (append_assoc (decimal number) (sep ∷ []) (join_with_byte sep (map f (range_with_len 1 (suc n)))))

pub joined_length : (sep : ℕ) (tag : Option ℕ) (f : ℕ → List ℕ) (n : ℕ)
    → length (join_with_byte sep (tagged tag (map f (range_with_len 1 n)))) ≡ length (tag_text sep tag n)
    + length (join_with_byte sep (map f (range_with_len 1 n)))
joined_length sep tag f n =
    omega (
      arith,
      ap length (joined_after sep tag f n),
      length-append (tag_text sep tag n) (join_with_byte sep (map f (range_with_len 1 n))),
    )

-- a record of these columns
pub columns_are : (form : OutputForm) (tag : Option ℕ) (f : ℕ → List ℕ) (n count len : ℕ) (begun front values filled new : List ℕ)
    → count ≡ n + bool_byte (is_some tag) → begun ≡ opening form → front ≡ begun ++ tag_text (separator form) tag n
    → values ≡ front ++ join_with_byte (separator form) (map f (range_with_len 1 n)) → len ≡ length values - length (opening form)
    → filled ≡ values ++ cond (is_lone_in form count len) (34 ∷ 34 ∷ []) [] → new ≡ filled ++ closing form
    → new ≡ framed form (tagged tag (map f (range_with_len 1 n)))
columns_are form tag f n count len begun front values filled new counted opens tags written long quotes closed = by tag counted after
  where
    texts : List ℕ
    texts = join_with_byte (separator form) (map f (range_with_len 1 n))

    after : values ≡ opening form ++ join_with_byte (separator form) (tagged tag (map f (range_with_len 1 n)))
    after = written ∙ ap (λ (t : List ℕ). t ++ texts) (tags ∙ ap (λ (t : List ℕ). t ++ tag_text (separator form) tag n) opens)
        ∙ append_assoc (opening form) (tag_text (separator form) tag n) texts
        ∙ ap (λ (t : List ℕ). opening form ++ t) (sym (joined_after (separator form) tag f n))

    by : (tag : Option ℕ) → count ≡ n + bool_byte (is_some tag)
        → values ≡ opening form ++ join_with_byte (separator form) (tagged tag (map f (range_with_len 1 n)))
        → new ≡ framed form (tagged tag (map f (range_with_len 1 n)))
    by None counted after =
        record_is form f n len [] values filled new after long
        (quotes ∙ ap (λ (k : ℕ). values ++ cond (is_lone_in form k len) (34 ∷ 34 ∷ []) []) {x = count} {y = n} (omega (arith, counted)))
        closed
    by (Some number) counted after =
        let g : ℕ → List ℕ = tagged_column number f in
        let same = tagged_columns number f n in
        record_is form g (n + 1) len [] values filled new
        (after ∙ ap (λ (ts : List (List ℕ)). opening form ++ join_with_byte (separator form) ts) (sym same)) long
        (quotes ∙ ap (λ (k : ℕ). values ++ cond (is_lone_in form k len) (34 ∷ 34 ∷ []) []) {x = count} {y = n + 1} (omega (arith, counted)))
        closed ∙ ap (framed form) same

-- what stands before the values of an object, the values, and what stands after them
pub object_after : (names : List (List ℕ)) (f : ℕ → List ℕ) (n : ℕ) (tag : Option ℕ)
    → (object_front tag n ++ join_with_byte 44 (map (after_head (λ k. head (name_at names k)) f) (range_with_len 1 n))) ++ 125 ∷ 10 ∷ []
    ≡ object_text (column_names (is_some tag) names) (tagged tag (map f (range_with_len 1 n)))
object_after names f n None = ap (λ (ts : List (List ℕ)). 123 ∷ (join_with_byte 44 ts ++ 125 ∷ 10 ∷ [])) (members_by_head names f n)
object_after names f n (Some number) =
    ap (λ (t : List ℕ). 123 ∷ (t ++ 125 ∷ 10 ∷ [])) (append_assoc first (tag_text 44 (Some number) n) rest
    ∙ ap (λ (t : List ℕ). first ++ t) (sym (joined_after 44 (Some number) texts n)) ∙ first_joined (map texts (range_with_len 1 n)))
    ∙ ap (λ (ts : List (List ℕ)). 123 ∷ (join_with_byte 44 (member (codes "format") (decimal number) ∷ ts) ++ 125 ∷ 10 ∷ []))
    (members_by_head names f n)
  where
    first : List ℕ
    first = head (codes "format")

    texts : ℕ → List ℕ
    texts = after_head (λ k. head (name_at names k)) f

    rest : List ℕ
    rest = join_with_byte 44 (map texts (range_with_len 1 n))

    -- the first text with its head
    headed_text : first ++ decimal number ≡ member (codes "format") (decimal number)
    headed_text = append_assoc (json_string (codes "format")) (58 ∷ []) (decimal number)

    first_joined : (ts : List (List ℕ))
        → first ++ join_with_byte 44 (decimal number ∷ ts) ≡ join_with_byte 44 (member (codes "format") (decimal number) ∷ ts)
    first_joined [] = headed_text
    first_joined (t ∷ ts) =
        sym (append_assoc first (decimal number) (44 ∷ join_with_byte 44 (t ∷ ts)))
        ∙ ap (λ (u : List ℕ). u ++ 44 ∷ join_with_byte 44 (t ∷ ts)) headed_text

-- what was written before the names, where the number is given
pub front_is : (tag : Option ℕ) (n : ℕ) (r : Option ℕ) (begun new : List ℕ) → is_some tag ≡ true
    → begun ≡ 123 ∷ (34 ∷ (codes "format" ++ 34 ∷ 58 ∷ [])) → IfSome r (λ end. take end new ≡ begun ++ tag_text 44 tag n)
    → IfSome r (λ end. take end new ≡ object_front tag n)
front_is None n r begun new given is written = absurd (true≢false (sym given))
front_is (Some number) n None begun new given is written = tt
front_is (Some number) n (Some end) begun new given is written =
    written ∙ ap (λ (t : List ℕ). t ++ tag_text 44 (Some number) n) (is ∙ ap (λ (t : List ℕ). 123 ∷ t) head_of_tag)

pub front_length : (tag : Option ℕ) (n : ℕ) → is_some tag ≡ true
    → length (object_front tag n) ≡ 10 + length (tag_text 44 tag n)
front_length None n given = absurd (true≢false (sym given))
front_length (Some number) n given =
    let nine : 9 ≡ length (head (codes "format")) = ap length head_of_tag in
    omega (arith, nine, length-append (head (codes "format")) (tag_text 44 (Some number) n))

pub object_written : (names : List (List ℕ)) (f : ℕ → List ℕ) (n : ℕ) (tag : Option ℕ) (front values closed new : List ℕ)
    → front ≡ object_front tag n
    → values ≡ front ++ join_with_byte 44 (map (after_head (λ k. head (name_at names k)) f) (range_with_len 1 n))
    → closed ≡ values ++ 125 ∷ [] → new ≡ closed ++ 10 ∷ []
    → new ≡ object_text (column_names (is_some tag) names) (tagged tag (map f (range_with_len 1 n)))
object_written names f n tag front values closed new begun written closes ends =
    let texts : List ℕ = join_with_byte 44 (map (after_head (λ k. head (name_at names k)) f) (range_with_len 1 n)) in
    ends ∙ ap (λ (t : List ℕ). t ++ 10 ∷ []) closes ∙ append_assoc values (125 ∷ []) (10 ∷ [])
    ∙ ap (λ (t : List ℕ). t ++ 125 ∷ 10 ∷ []) (written ∙ ap (λ (t : List ℕ). t ++ texts) begun) ∙ object_after names f n tag

-- its length
pub object_length : (names : List (List ℕ)) (f : ℕ → List ℕ) (n : ℕ) (tag : Option ℕ)
    → length (object_text (column_names (is_some tag) names) (tagged tag (map f (range_with_len 1 n)))) ≡ length (object_front tag n)
    + length (join_with_byte 44 (map (after_head (λ k. head (name_at names k)) f) (range_with_len 1 n))) + 2
object_length names f n tag =
    let texts : List ℕ = join_with_byte 44 (map (after_head (λ k. head (name_at names k)) f) (range_with_len 1 n)) in
    omega (
      arith,
      ap length (object_after names f n tag),
      length-append (object_front tag n ++ texts) (125 ∷ 10 ∷ []),
      length-append (object_front tag n) texts,
    )

-- the line of the names
pub line_of_names : (form table : OutputForm) (names : List (List ℕ)) (n : ℕ) → form ≡ table
    → names_line table names ≡ row_text table (map Bytes names) → n ≡ length names
    → framed form (map (λ k. value_text form (Bytes (name_at names k))) (range_with_len 1 n)) ≡ names_line form names
line_of_names form table names n is has_line count =
    rw is (ap (framed table) (names_by_place table names n count) ∙ sym has_line)

pub line_in_tables : (form : OutputForm) (names : List (List ℕ)) (n : ℕ) → (form ≡ Tsv) ⊎ (form ≡ Csv) → n ≡ length names
    → framed form (map (λ k. value_text form (Bytes (name_at names k))) (range_with_len 1 n)) ≡ names_line form names
line_in_tables form names n (inl is) count = line_of_names form Tsv names n is refl count
line_in_tables form names n (inr is) count = line_of_names form Csv names n is refl count

-- in JSON a record under names is an object
pub in_json : (form : OutputForm) (names : List (List ℕ)) (tag : Option ℕ) (n : ℕ) (report : RunReport) → form ≡ Json
    → object_text names (columns Json tag n report) ≡ headed (Some names) form (columns form tag n report)
in_json form names tag n report is = rw is refl

-- else it is as without
pub in_others : (form : OutputForm) (names columns : List (List ℕ)) → (form ≡ Plain) ⊎ ((form ≡ Tsv) ⊎ (form ≡ Csv))
    → framed form columns ≡ headed (Some names) form columns
in_others form names columns (inl is) = rw is refl
in_others form names columns (inr (inl is)) = rw is refl
in_others form names columns (inr (inr is)) = rw is refl

-- what a list has after an append to none
pub appended_to_none : {E : Type 0} (wrote : Result (Unit {0}) E) (refused : Bool) (old new text shown : List ℕ)
    → OnOk wrote (new ≡ old ++ text) → refused ≡ is_err wrote → refused ≡ false → old ≡ [] → shown ≡ new → shown ≡ text
appended_to_none (Ok done) refused old new text shown is test fine none same = same ∙ is ∙ ap (λ (t : List ℕ). t ++ text) none
appended_to_none (Err why) refused old new text shown is test fine none same = absurd (true≢false (sym test ∙ fine))
