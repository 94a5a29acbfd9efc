-- What the machine of a column makes of bytes, and the text in them.
use Rattle.std.proofs.Common.{◌≡◌, ◌≢◌, ℕ, suc, take, drop, ◌+◌, ◌<◌, ◌≤◌, Bool, true, false, cond, not, ◌&&◌, List, [], ◌∷◌, ◌++◌, length}
use Rattle.std.proofs.Common.{append_assoc}
use Rattle.std.proofs.Common.{append-nil, length-append, Option, Some, None, refl, sym, ap, subst, ◌∙◌, ◌||◌, arith, lit<, nat_lt}
use Rattle.std.proofs.Common.{true≢false}
use Rattle.std.proofs.lemmas.Bool.{and_parts, false_from_ne_true}
use Rattle.std.proofs.lemmas.Bool.Decides.{nat_tests}
use Rattle.std.proofs.lemmas.List.{length-drop, length-take-le, take-append-drop, take-take}
use Rattle.std.proofs.Math.Seq.{take-length}
use Rattle.std.specs.List.{list_all}
use Rattle.std.specs.Prelude.{is_some}
use Rattle.sf_base.specs.Blanks.{are_white, kept_before, trimmed, trimmed_end, trimmed_front}
use Rattle.sf_base.specs.Bytes.{is_white}
use Rattle.sf_base.specs.Data.{value_of}
use Rattle.sf_float_read.specs.declared.item.reached.Reached.{Reached}
use Rattle.sf_float_read.specs.item.Tests as floats
use Rattle.sf_format.specs.declared.directive.Numeral.{Numeral}
use Rattle.sf_format.specs.declared.directive.Shape.{Shape}
use Rattle.sf_format.specs.declared.directive.Shape.TheVariants.{Int, Text, Set, Chars, Float, Count}
use Rattle.sf_format.specs.declared.directive.Conversion.{Conversion}
use Rattle.sf_format.specs.declared.directive.Directive.{Directive}
use Rattle.sf_format.specs.declared.directive.Directive.TheVariants.{Space, Byte, Percent, Conv, Opens}
use Rattle.sf_format.specs.Leads.{is_strict, is_strict_lead}
use Rattle.sf_item.specs.declared.item.ItemEnd.{ItemEnd}
use Rattle.sf_item.specs.declared.item.ItemEnd.TheVariants as ends
use Rattle.sf_item.specs.Columns.{column_width}
use Rattle.sf_item.specs.ColumnTests.{ColumnEnds, column_text, fills, shape_fills}
use Rattle.sf_item.specs.Matching.{forms_of}
use Rattle.sf_item.specs.Tests.{integer_at, is_ink}
use Rattle.sf_base.proofs.Blanks.{trimmed_front_append}
use Rattle.sf_report.specs.declared.outcome.Status.TheVariants.{MatchingFailure}
use Rattle.sf_report.specs.Machine.{Stage, Skipping, Item, column_end, column_taken, conversion_finished, conversion_stepped}
use Rattle.sf_report.specs.Machine.{finished, finished_by, integer_end, is_full, passed_end, stepped, stepped_by, stored_end, text_end}
use Rattle.sf_report.specs.Residual.{choose, stepped_all}
use Rattle.sf_report.specs.Steps.{Fails, Passes}
use Rattle.sf_report.proofs.Machines.{full_of_none, not_full}
use Rattle.sf_run.specs.Phases.{passed_number, stage_of}
use Rattle.sf_run.proofs.FloatTexts.{next_white}
use Rattle.sf_run.specs.Texts.{closing_text, is_column, is_cut, item_of, opened_slot, slot_of_text, taken_at, text_begun, text_slot}

-- ---- by whether a directive takes a column

pub stepped_plain : (c : Conversion) → c.column ≡ false → (q : Stage) (b : ℕ) → stepped (Conv c) q b ≡ conversion_stepped c q b
stepped_plain c plain q b = ap (λ v. stepped_by v c q b) plain

pub finished_plain : (c : Conversion) → c.column ≡ false → (q : Stage) (n : ℕ) (more : Bool)
    → finished (Conv c) q n more ≡ conversion_finished c c.shape q n more
finished_plain c plain q n more = ap (λ v. finished_by v c q n more) plain

pub closing_plain : (d : Directive) → is_column d ≡ false → (text : List ℕ) → closing_text d text ≡ text
closing_plain d plain text = grind arith

pub item_plain : (d : Directive) → is_column d ≡ false → (q : Stage) → item_of d q ≡ taken_at q
item_plain d plain q = grind arith

-- ---- bytes of a column

pub stage_more : (f : List ℕ) (b : ℕ) → stage_of (f ++ b ∷ []) ≡ Item (f ++ b ∷ [])
stage_more [] b = refl
stage_more (x ∷ f) b = refl

pub stage_begun : (f : List ℕ) → f ≢ [] → stage_of f ≡ Item f
stage_begun [] some = absurd (some refl)
stage_begun (x ∷ f) some = refl

pub stage_bytes : (f : List ℕ) → taken_at (stage_of f) ≡ f
stage_bytes [] = refl
stage_bytes (x ∷ f) = refl

column_steps : (c : Conversion) → c.column ≡ true → (f : List ℕ) (b : ℕ) → stepped (Conv c) (stage_of f) b ≡ column_taken c f b
column_steps c column [] b = ap (λ v. stepped_by v c Skipping b) column
column_steps c column (x ∷ f) b = ap (λ v. stepped_by v c (Item (x ∷ f)) b) column

below_is : (n m : ℕ) → n < m → nat_lt n m ≡ true
below_is n m low = grind (arith, nat_tests)

above_is : (n m : ℕ) → m ≤ n → nat_lt n m ≡ false
above_is n m high = grind (arith, nat_tests)

pub column_takes : (c : Conversion) → c.column ≡ true → (f : List ℕ) (b : ℕ) → length f < column_width c
    → stepped (Conv c) (stage_of f) b ≡ Some (stage_of (f ++ b ∷ []))
column_takes c column f b low =
    column_steps c column f b ∙ ap (λ v. cond v (Some (Item (f ++ b ∷ []))) None) (below_is (length f) (column_width c) low)
    ∙ ap Some (sym (stage_more f b))

-- as many as its width has are taken
pub column_all : (c : Conversion) → c.column ≡ true → (f y : List ℕ) → length f + length y ≤ column_width c
    → stepped_all (Conv c) (stage_of f) y ≡ Some (stage_of (f ++ y))
column_all c column f [] fits = ap (λ g. Some (stage_of g)) (sym (append-nil f))
column_all c column f (b ∷ y) fits =
    ap (λ (o : Option Stage). choose o None (λ s. stepped_all (Conv c) s y)) (column_takes c column f b (omega (arith, fits)))
    ∙ column_all c column (f ++ b ∷ []) y (omega (arith, fits, length-append f (b ∷ [])))
    ∙ ap (λ g. Some (stage_of g)) (append_assoc f (b ∷ []) y)

pub column_is_full : (c : Conversion) → c.column ≡ true → (f : List ℕ) → length f ≡ column_width c → is_full (Conv c) (stage_of f) ≡ true
column_is_full c column f all = full_of_none (Conv c) (stage_of f) (λ b below. column_steps c column f b
    ∙ ap (λ v. cond v (Some (Item (f ++ b ∷ []))) None) (above_is (length f) (column_width c) (omega (arith, all))))

pub column_waits : (c : Conversion) → c.column ≡ true → (f : List ℕ) → length f < column_width c → is_full (Conv c) (stage_of f) ≡ false
column_waits c column f low = not_full (Conv c) (stage_of f) 0 (stage_of (f ++ 0 ∷ [])) (lit< tt) (column_takes c column f 0 low)

-- each stage is that after some bytes
pub column_stage : (c : Conversion) → c.column ≡ true → (f y : List ℕ) (q : Stage) → stepped_all (Conv c) (stage_of f) y ≡ Some q
    → q ≡ stage_of (f ++ y)
column_stage c column f [] q is = let same : stage_of f ≡ q = cc in sym same ∙ ap stage_of (sym (append-nil f))
column_stage c column f (b ∷ y) q is =
    by (nat_lt (length f) (column_width c)) (ap (λ (o : Option Stage). choose o None (λ s. stepped_all (Conv c) s y))
    (sym (column_steps c column f b)) ∙ is) (λ more. column_stage c column (f ++ b ∷ []) y q more)
  where
    by : (v : Bool) → choose (cond v (Some (Item (f ++ b ∷ []))) None) None (λ s. stepped_all (Conv c) s y) ≡ Some q
        → (stepped_all (Conv c) (stage_of (f ++ b ∷ [])) y ≡ Some q → q ≡ stage_of ((f ++ b ∷ []) ++ y)) → q ≡ stage_of (f ++ b ∷ y)
    by true e more = more (ap (λ s. stepped_all (Conv c) s y) (stage_more f b) ∙ e) ∙ ap stage_of (append_assoc f (b ∷ []) y)
    by false e more = absurd cc

-- the bytes at a stage are all that were taken
pub column_bytes : (d : Directive) → is_column d ≡ true → (y : List ℕ) (q : Stage) → stepped_all d Skipping y ≡ Some q → taken_at q ≡ y
column_bytes (Conv c) column y q led = ap taken_at (column_stage c column [] y q led) ∙ stage_bytes y
column_bytes Space column y q led = absurd cc
column_bytes (Byte b) column y q led = absurd cc
column_bytes Percent column y q led = absurd cc
column_bytes (Opens o) column y q led = absurd cc

-- ---- the text of a column

pub column_item : (c : Conversion) → c.column ≡ true → (f : List ℕ) → item_of (Conv c) (stage_of f) ≡ trimmed_front f
column_item c column [] = refl
column_item c column (x ∷ f) = rw column refl

-- its text is no longer than all of it
front_length : (s : List ℕ) → length (trimmed_front s) ≤ length s
front_length [] = omega arith
front_length (b ∷ s) = by (is_white b) (front_length s)
  where
    by : (v : Bool) → length (trimmed_front s) ≤ length s → length (cond v (trimmed_front s) (b ∷ s)) ≤ suc (length s)
    by true less = omega (arith, less)
    by false less = omega arith

-- the bytes of the text are those from the first that is no white space on
pub text_ink : (f piece : List ℕ) (before text j : ℕ) → before + text ≤ length piece → j < text
    → trimmed_front (f ++ take (before + text) piece) ≡ trimmed_front f ++ take text (drop before piece)
    → are_white (f ++ take (before + j + 1) piece) ≡ false
text_ink f piece before text j within below front = false_from_ne_true _ (λ white.
    let n : ℕ = before + text in
    let k : ℕ = before + j + 1 in
    let low : k ≤ n = omega (arith, below) in
    let rest : List ℕ = drop k (take n piece) in
    let parts : take n piece ≡ take k piece ++ rest =
    sym (take-append-drop k (take n piece)) ∙ ap (λ y. y ++ rest) (take-take k n piece low) in
    let left : trimmed_front (f ++ take n piece) ≡ trimmed_front rest =
    ap trimmed_front (ap (λ y. f ++ y) parts ∙ sym (append_assoc f (take k piece) rest))
    ∙ trimmed_front_append (f ++ take k piece) rest white in
    let same = ap length (sym left ∙ front) in
    let long = length-append (trimmed_front f) (take text (drop before piece)) in
    let all = length-take-le text (drop before piece) (omega (arith, within, length-drop before piece)) in
    let short = front_length rest in
    let size = length-drop k (take n piece) in
    let whole = length-take-le n piece within in
    omega (arith, same, long, all, short, size, whole, below))

-- what a directive gives of a text is a front of it
pub end_front : (s : List ℕ) → trimmed_end s ≡ take (length (trimmed_end s)) s
end_front [] = refl
end_front (b ∷ s) = by (trimmed_end s) (end_front s)
  where
    one : (v : Bool) → cond v [] (b ∷ []) ≡ take (length (cond v [] (b ∷ []))) (b ∷ s)
    one true = refl
    one false = refl

    by : (t : List ℕ) → t ≡ take (length t) s → kept_before b t ≡ take (length (kept_before b t)) (b ∷ s)
    by [] front = one (is_white b)
    by (x ∷ t) front = ap (λ y. b ∷ y) front

pub end_length : (s : List ℕ) → length (trimmed_end s) ≤ length s
end_length [] = omega arith
end_length (b ∷ s) = by (trimmed_end s) (end_length s)
  where
    one : (v : Bool) → length (cond v [] (b ∷ [])) ≤ suc (length s)
    one true = omega arith
    one false = omega arith

    by : (t : List ℕ) → length t ≤ length s → length (kept_before b t) ≤ suc (length s)
    by [] less = one (is_white b)
    by (x ∷ t) less = omega (arith, less)

pub closing_front : (d : Directive) (t : List ℕ) → closing_text d t ≡ take (length (closing_text d t)) t
closing_front d t = by (is_cut d)
  where
    by : (v : Bool) → cond v (trimmed_end t) t ≡ take (length (cond v (trimmed_end t) t)) t
    by true = end_front t
    by false = sym (take-length t)

pub closing_length : (d : Directive) (t : List ℕ) → length (closing_text d t) ≤ length t
closing_length d t = by (is_cut d)
  where
    by : (v : Bool) → length (cond v (trimmed_end t) t) ≤ length t
    by true = end_length t
    by false = omega arith

-- ---- the end of a column

pub column_finishes : (c : Conversion) → c.column ≡ true → (f : List ℕ) → f ≢ [] → (n : ℕ) (more : Bool)
    → finished (Conv c) (stage_of f) n more ≡ column_end c f
column_finishes c column [] some n more = absurd (some refl)
column_finishes c column (x ∷ f) some n more = ap (λ v. finished_by v c (Item (x ∷ f)) n more) column

ink_end : (c : Conversion) (f : List ℕ) → are_white f ≡ false → text_end c (column_text c f) ≡ column_end c f
ink_end c f ink = rw ink refl

pub unmatched_column : (c : Conversion) (f : List ℕ) → ColumnEnds c f ends.Unmatched → Fails MatchingFailure ≡ column_end c f
unmatched_column c f is = sym (ap (λ v. cond v (passed_end c c.slot (column_text c f)) (Fails MatchingFailure)) is.1) ∙ ink_end c f is.0

pub filled_column : (c : Conversion) (f : List ℕ) → are_white f ≡ false → fills c (column_text c f) ≡ true
    → passed_end c c.slot (column_text c f) ≡ column_end c f
filled_column c f ink is = sym (ap (λ v. cond v (passed_end c c.slot (column_text c f)) (Fails MatchingFailure)) is) ∙ ink_end c f ink

white_front : (f : List ℕ) → are_white f ≡ true → trimmed_front f ≡ []
white_front f white = ap trimmed_front (sym (append-nil f)) ∙ trimmed_front_append f [] white

front_ink : (f : List ℕ) → are_white f ≡ false → are_white (trimmed_front f) ≡ false
front_ink [] ink = ink
front_ink (b ∷ f) ink = by (is_white b) refl ink (front_ink f)
  where
    by : (v : Bool) → is_white b ≡ v → (v && are_white f) ≡ false → (are_white f ≡ false → are_white (trimmed_front f) ≡ false)
        → are_white (cond v (trimmed_front f) (b ∷ f)) ≡ false
    by true e h more = more h
    by false e h more = rw e refl

ink_is : (v : Bool) → not v ≡ true → v ≡ false
ink_is true e = cc
ink_is false e = refl

-- the first byte, where there is one, is no white space
front_stays : (t : List ℕ) → ((b : ℕ) (rest : List ℕ) → t ≡ b ∷ rest → is_white b ≡ false) → trimmed_front t ≡ t
front_stays [] ink = refl
front_stays (b ∷ t) ink = let first : is_white b ≡ false = ink b t refl in rw first refl

no_more : (o : Option Reached) (t : List ℕ) → is_some o ≡ false → floats.is_whole_at (floats.read o t) ≡ false
no_more None t e = refl
no_more (Some r) t e = cc

pub float_first : (r : Reached) (b : ℕ) (t : List ℕ) → floats.is_whole_at (floats.read (Some r) (b ∷ t)) ≡ true → is_white b ≡ false
float_first r b t is = false_from_ne_true (is_white b)
    (λ white. true≢false (sym is ∙ no_more (floats.next r b) t (next_white r b white)))

-- a text with ! begins with no white space
strict_first : (shape : Shape) (width slot : Option ℕ) (n b : ℕ) (t : List ℕ) → is_strict shape ≡ true → slot_of_text shape slot ≡ Some n
    → shape_fills shape width (b ∷ t) ≡ true → is_white b ≡ false
strict_first (Int numeral) width slot n b t strict text is = absurd cc
strict_first (Text lead) width slot n b t strict text is = by (is_strict_lead lead) (nat_lt 0 (length (b ∷ t))) strict is
  where
    by : (v w : Bool) → v ≡ true → (not v || (w && list_all is_ink (b ∷ t))) ≡ true → is_white b ≡ false
    by true true e h = ink_is (is_white b) (and_parts (is_ink b) (list_all is_ink t) h).0
    by true false e h = absurd cc
    by false w e h = absurd cc
strict_first (Set members) width slot n b t strict text is = absurd cc
strict_first Chars width slot n b t strict text is = absurd cc
strict_first (Float lead) width slot n b t strict text is = float_first (floats.start_of (forms_of lead)) b t is
strict_first Count width slot n b t strict text is = absurd cc

-- what a column gives that is kept is its text
closed_column : (c : Conversion) (f : List ℕ) (slot : ℕ) → c.column ≡ true → text_slot (Conv c) ≡ Some slot
    → fills c (column_text c f) ≡ true → closing_text (Conv c) (trimmed_front f) ≡ column_text c f
closed_column c f slot column text is = by (is_strict c.shape) refl
  where
    by : (v : Bool) → is_strict c.shape ≡ v → closing_text (Conv c) (trimmed_front f) ≡ column_text c f
    by false e = rw (column, e) refl
    by true e =
        let own : fills c f ≡ true = ap (λ v. fills c (cond v f (trimmed f))) (sym e) ∙ is in
        rw (column, e) (front_stays f (λ b rest is. strict_first c.shape c.width c.slot slot b rest e text (ap (fills c) (sym is) ∙ own)))

slot_of_text_is : (shape : Shape) (slot : Option ℕ) (n : ℕ) → slot_of_text shape slot ≡ Some n → slot ≡ Some n
slot_of_text_is shape slot n e = grind arith

pub kept_column : (c : Conversion) (f : List ℕ) (slot : ℕ) → c.column ≡ true → text_slot (Conv c) ≡ Some slot
    → ColumnEnds c f ends.Matched → passed_end c (Some slot) (closing_text (Conv c) (trimmed_front f)) ≡ column_end c f
kept_column c f slot column text is =
    ap (passed_end c (Some slot)) (closed_column c f slot column text is.1)
    ∙ ap (λ o. passed_end c o (column_text c f)) (sym (slot_of_text_is c.shape c.slot slot text)) ∙ filled_column c f is.0 is.1

-- no text has begun
pub none_begun : (slot : Option ℕ) → opened_slot (text_begun slot []) ≡ None
none_begun None = refl
none_begun (Some n) = refl

-- the slot of a text that has begun
pub some_begun : (slot : Option ℕ) (t : List ℕ) → t ≢ [] → opened_slot (text_begun slot t) ≡ slot
some_begun None t some = refl
some_begun (Some n) [] some = absurd (some refl)
some_begun (Some n) (b ∷ t) some = refl

-- the text of a column has begun where it isn't white space alone
begun_slot : (slot : Option ℕ) (t : List ℕ) → are_white t ≡ false → opened_slot (text_begun slot t) ≡ slot
begun_slot None t ink = refl
begun_slot (Some n) [] ink = absurd cc
begun_slot (Some n) (b ∷ t) ink = refl

no_text : (c : Conversion) (f : List ℕ) → are_white f ≡ false → opened_slot (text_begun (text_slot (Conv c)) (trimmed_front f)) ≡ None
    → text_slot (Conv c) ≡ None
no_text c f ink none = sym (begun_slot (text_slot (Conv c)) (trimmed_front f) (front_ink f ink)) ∙ none

no_slot : (c : Conversion) (t : List ℕ) (shape : Shape) → c.shape ≡ shape → fills c t ≡ true → ((numeral : Numeral) → shape ≡ Int numeral
    → ⊥)
    → slot_of_text shape c.slot ≡ None → c.slot ≡ None
no_slot c t (Int numeral) e is none text = absurd (none numeral refl)
no_slot c t (Text lead) e is none text = text
no_slot c t (Set members) e is none text = text
no_slot c t Chars e is none text = text
no_slot c t (Float lead) e is none text = text
no_slot c t Count e is none text = absurd (let h : shape_fills Count c.width t ≡ true = subst (λ s. shape_fills s c.width t ≡ true) e is in
    cc)

pub suppressed_slot : (c : Conversion) (f : List ℕ) → ColumnEnds c f ends.Matched
    → opened_slot (text_begun (text_slot (Conv c)) (trimmed_front f)) ≡ None → c.slot ≡ None
suppressed_slot c f is none =
    no_slot c (column_text c f) c.shape refl is.1 (λ numeral e. is.2 (numeral, e)) (no_text c f is.0 none)

pub suppressed_column : (c : Conversion) (f : List ℕ) → ColumnEnds c f ends.Matched → c.slot ≡ None → Passes ≡ column_end c f
suppressed_column c f is none = ap (λ o. passed_end c o (column_text c f)) (sym none) ∙ filled_column c f is.0 is.1

pub number_column : (c : Conversion) (f : List ℕ) (negative : Bool) (magnitude : ℕ) (overflowed : Bool)
    → (is : ColumnEnds c f (ends.Integer negative magnitude overflowed))
    → passed_number c c.slot (value_of c.kind negative is.1.1) ≡ column_end c f
number_column c f negative magnitude overflowed is = passes c.slot ∙ filled_column c f is.0 filled
  where
    text : List ℕ
    text = column_text c f

    read : integer_at is.1.0 text ≡ Some (negative, is.1.1)
    read = is.1.3

    filled : fills c text ≡ true
    filled = subst (λ s. shape_fills s c.width text ≡ true) (sym is.1.2) (ap is_some read)

    passes : (slot : Option ℕ) → passed_number c slot (value_of c.kind negative is.1.1) ≡ passed_end c slot text
    passes None = refl
    passes (Some slot) = ap (integer_end c slot) (sym read) ∙ ap (λ shape. stored_end c slot shape text) (sym is.1.2)

-- a text that has begun is no integer's, and has a byte that is no white space
pub blank_slot : (slot : Option ℕ) (n : ℕ) (f : List ℕ) → opened_slot (text_begun slot (trimmed_front f)) ≡ Some n → are_white f ≡ true → ⊥
blank_slot slot n f is white = none slot (sym (ap (λ t. opened_slot (text_begun slot t)) (white_front f white)) ∙ is)
  where
    none : (o : Option ℕ) → opened_slot (text_begun o []) ≡ Some n → ⊥
    none None e = cc
    none (Some m) e = cc

pub number_slot : (shape : Shape) (numeral : Numeral) (slot : Option ℕ) (n : ℕ) (t : List ℕ) → shape ≡ Int numeral
    → opened_slot (text_begun (slot_of_text shape slot) t) ≡ Some n → ⊥
number_slot shape numeral slot n t e is =
    let h : opened_slot (text_begun (slot_of_text (Int numeral) slot) t) ≡ Some n =
    subst (λ s. opened_slot (text_begun (slot_of_text s slot) t) ≡ Some n) e is in cc

-- a column whose text has begun, and is no match
pub text_column_fails : (c : Conversion) (f : List ℕ) (slot : ℕ) (e : ItemEnd)
    → opened_slot (text_begun (text_slot (Conv c)) (trimmed_front f)) ≡ Some slot → ColumnEnds c f e → (e ≡ ends.Matched → ⊥)
    → Fails MatchingFailure ≡ column_end c f
text_column_fails c f slot ends.Empty begun is never = absurd (blank_slot (text_slot (Conv c)) slot f begun is)
text_column_fails c f slot ends.Unmatched begun is never = unmatched_column c f is
text_column_fails c f slot ends.Matched begun is never = absurd (never refl)
text_column_fails c f slot (ends.Integer negative magnitude overflowed) begun is never =
    absurd (number_slot c.shape is.1.0 c.slot slot (trimmed_front f) is.1.2 begun)
