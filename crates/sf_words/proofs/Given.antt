-- What the getters of the matches answer, by the rows.
use Rattle.std.proofs.Common.{◌≡◌, ◌≢◌, ◌⊎◌, inl, inr, ◌∙◌, ap, sym, subst, refl, Bool, true, false, not, cond, ◌==◌, ◌&&◌, ◌||◌, map}
use Rattle.std.proofs.Common.{true≢false, ℕ, List, [], ◌∷◌, length, Option, Some, None, Result, Ok, codes, arith, ◌≤◌, ◌<◌, ◌^◌}
use Rattle.std.specs.Borrow.{Bor}
use Rattle.std.specs.Prelude.{find, if◌then◌else◌, option_and_then, option_map, unwrap_or}
use Rattle.std.specs.Str.{bytes_eq}
use Rattle.std.proofs.lemmas.Bool.{ne_eqb}
use Rattle.std.proofs.lemmas.Slice.Eq.{bytes_eq-Decides}
use Rattle.std.specs.Str.Parse.{ParsesBool, ParsesUnsigned}
use Rattle.clap.specs.Facts.{Entry}
use Rattle.clap.specs.Walk.{row_of}
use Rattle.clap.specs.Words.{ReadsOne, Text, matched_of, raw_values, rows_of}
use Rattle.clap.proofs.CallerReads.{signed_reads}
use Rattle.clap.proofs.WalkLemmas.{find_row, raw_values-rows}
use Rattle.clap.specs.declared.parser.matches.MatchedArg.{MatchedArg}
use Rattle.clap.specs.declared.parser.matches.Found.{Found}
use Rattle.clap.specs.Kinds.{or_else}
use Rattle.clap.specs.Words.{IsAmong, Kinds, Row}
use Rattle.clap.specs.declared.error.ErrorKind.{ErrorKind}
use Rattle.clap.specs.declared.error.ErrorKind.TheVariants as kind
use Rattle.sf_words.specs.Misuses.{misuse_kind}
use Rattle.sf_words.specs.Orders.{HasLines, HasTexts, HasTextsFor, IsRefusal, IsRefusalOf, IsWidth, column_faults, conflict_faults}
use Rattle.sf_words.specs.Orders.{form_faults, format_faults, has_line_option, is_full, is_request, is_set, is_true, line_faults, number_by}
use Rattle.sf_words.specs.Orders.{number_in, own_faults, texts_by, values_at, verb_text}
use Rattle.sf_words.specs.declared.misuse.Misuse.{Misuse}
use Rattle.sf_words.specs.declared.misuse.Misuse.TheVariants.{Form, NoLines, Together, PlainNames, TagAlone, BlankName, NoFormat}
use Rattle.sf_words.specs.declared.order.LineOptions.{LineOptions}
use Rattle.sf_words.specs.declared.order.Verb.{Verb}
use Rattle.sf_words.specs.declared.order.Verb.TheVariants.{Show, Scan, Print, Check, Copy}
use Rattle.sf_words.specs.declared.order.WordsFault.{WordsFault}
use Rattle.sf_words.specs.declared.order.WordsFault.TheVariants.{Help, Usage, NoMemory}
use Rattle.sf_words.proofs.Walking.{both_pass}
use Rattle.sf_words.specs.Taken.{AllowsLines, HasWords, IsOneAtMost, IsTaken, IsWithin}

-- where the argument has no entry it was given nothing
pub none_given : {X : Type 0} (g : X → List Text) (r : Option X) (f : Found) (id : Text)
    → option_map g r ≡ option_map raw_values (matched_of f id) → r ≡ None
    → [] ≡ values_at id (rows_of f)
none_given g r f id is none =
    ap (λ o. unwrap_or (option_map g o) []) (sym none) ∙ ap (λ o. unwrap_or o []) (is ∙ raw_values-rows f id)

pub some_given : {X : Type 0} (g : X → List Text) (r : Option X) (x : X) (f : Found) (id : Text)
    → option_map g r ≡ option_map raw_values (matched_of f id)
    → r ≡ Some x → g x ≡ values_at id (rows_of f)
some_given g r x f id is some =
    ap (λ o. unwrap_or (option_map g o) []) (sym some) ∙ ap (λ o. unwrap_or o []) (is ∙ raw_values-rows f id)

-- whether there are texts, by their number
pub not_empty : (values : List (Bor Text)) (empty : Bool) → empty ≡ (length values == 0) → not empty ≡ is_full (map (λ v. v.now) values)
not_empty [] empty is = ap not is
not_empty (value ∷ rest) empty is = ap not (is ∙ ne_eqb (length (value ∷ rest)) 0 (λ none. omega (arith, none)))

-- the number that was given, or the other where none was
pub number_read : (bits low high other : ℕ) → low ≤ other → other ≤ high → high < 2 ^ bits → (E : Type 0) (G : Text → Result ℕ E → Type 0)
    → ((t : Text) (r : Result ℕ E) → G t r → ParsesUnsigned bits 10 t r)
    → (o : Option Text) (r : Option ℕ) → IsWithin low high o → (o ≡ None → r ≡ None) → ((t : Text) → o ≡ Some t → ReadsOne G t r)
    → (unwrap_or r other ≡ number_by other o) × (low ≤ unwrap_or r other) × (unwrap_or r other ≤ high)
number_read bits low high other above below fits E G parses None r within none value = rw (none refl) (refl, above, below)
number_read bits low high other above below fits E G parses (Some t) r within none value =
    let read = value t refl in
    let got = signed_reads E G bits low high within.0 r (subst (λ u. ReadsOne G u r) within.1 read) parses fits within.2 in
    let parsed = parses t (Ok got.0) (subst (ReadsOne G t) got.1 read) in
    rw got.1 (parsed.1, got.2, got.3)

-- the width that was given, if one was
pub width_read : (E : Type 0) (G : Text → Result ℕ E → Type 0)
    → ((t : Text) (r : Result ℕ E) → G t r → ParsesUnsigned 16 10 t r)
    → (o : Option Text) (r : Option ℕ) → IsWithin 1 65535 o → (o ≡ None → r ≡ None) → ((t : Text) → o ≡ Some t → ReadsOne G t r)
    → (r ≡ option_map number_in o) × IsWidth r
width_read E G parses None r within none value = rw (none refl) (refl, tt)
width_read E G parses (Some t) r within none value =
    let read = value t refl in
    let got = signed_reads E G 16 1 65535 within.0 r (subst (λ u. ReadsOne G u r) within.1 read) parses (omega arith) within.2 in
    let parsed = parses t (Ok got.0) (subst (ReadsOne G t) got.1 read) in
    rw got.1 (ap Some parsed.1, (got.2, got.3))

-- where the value of an argument came from
pub source_read : (f : Found) (id : Text) → option_and_then (λ (a : MatchedArg). a.source) (matched_of f id)
    ≡ option_and_then (λ (r : Row). r.source) (find (λ r. bytes_eq r.id id) (rows_of f))
source_read f id =
    go (find (λ e. bytes_eq e.0.now id) f.entries.items)
    ∙ ap (option_and_then (λ (r : Row). r.source)) (sym (find_row f.entries.items id))
  where
    go : (o : Option Entry) → option_and_then (λ (a : MatchedArg). a.source) (option_map (λ e. e.1) o)
        ≡ option_and_then (λ (r : Row). r.source) (option_map row_of o)
    go None = refl
    go (Some e) = refl

-- whether an option without a value was given
pub flag_read : (E : Type 0) (o : Option Text) (r : Option Bool) → (o ≡ None → r ≡ None)
    → ((t : Text) → o ≡ Some t → ReadsOne (ParsesBool {E = E}) t r)
    → unwrap_or r false ≡ is_true o
flag_read E None r none value = ap (λ x. unwrap_or x false) (none refl)
flag_read E (Some t) r none value = by_text t r (value t refl)
  where
    either : (b : Bool) → (b ≡ true) ⊎ (b ≡ false)
    either true = inl refl
    either false = inr refl

    no_other : (t : Text) → (t ≢ codes "true") → bytes_eq t (codes "true") ≡ false
    no_other t other = elim (either (bytes_eq t (codes "true"))) [
      | inl same ↦ absurd (other ((bytes_eq-Decides t (codes "true")).0 same))
      | inr differs ↦ differs
    ]

    by_text : (t : Text) (r : Option Bool) → ReadsOne (ParsesBool {E = E}) t r → unwrap_or r false ≡ is_true (Some t)
    by_text t (Some true) is = sym ((bytes_eq-Decides t (codes "true")).1 is)
    by_text t (Some false) is = sym (ap (λ x. bytes_eq x (codes "true")) is)
    by_text t None is = sym (no_other t is.1.0)

-- the verb of a word
abbrev verb_by : Text → Verb
verb_by word =
    if bytes_eq word (codes "show") then Show
    else (if bytes_eq word (codes "scan") then Scan
    else (if bytes_eq word (codes "print") then Print
    else (if bytes_eq word (codes "check") then Check
    else Copy)))

verb_back : (verb : Verb) → verb_by (verb_text verb) ≡ verb
verb_back Show = refl
verb_back Scan = refl
verb_back Print = refl
verb_back Check = refl
verb_back Copy = refl

-- what is known of a subcommand that was taken, under any name of its verb
pub taken_at : (entered : Option (Text × List Row)) → (taken : IsTaken entered) → (verb : Verb) (given : List Row)
    → entered ≡ Some (verb_text verb, given)
    → AllowsLines verb given × HasWords verb given
taken_at entered taken verb given is =
    let same = ap (value_or (verb_text verb, given)) (sym taken.is_given ∙ is) in
    let verbs : taken.verb ≡ verb = sym (verb_back taken.verb) ∙ ap (λ (p : Text × List Row). verb_by p.0) same ∙ verb_back verb in
    subst (λ rows. AllowsLines verb rows × HasWords verb rows) (ap (λ (p : Text × List Row). p.1) same)
    (subst (λ v. AllowsLines v taken.given × HasWords v taken.given) verbs (taken.lines, taken.enough))
  where
    value_or : Text × List Row → Option (Text × List Row) → Text × List Row
    value_or other None = other
    value_or other (Some value) = value

-- ---- the formats of a scan

no_fault : {k : ErrorKind} {ks : Kinds} → ◌≡◌ {A = Kinds} (k ∷ ks) [] → ⊥
no_fault e = omega (arith, ap length e)

-- nothing is at fault in formats
abbrev NoFault : List Text → List Text → Type 0
NoFault words others =
    cond (is_full others) [] (cond (is_full words) [] (kind.MissingRequiredArgument ∷ [])) ≡ []

-- the formats after -e, or the words
abbrev formats : List Text → List Text → List Text
formats words others = cond (is_full others) others words

one_format : (words others : List Text) → IsOneAtMost words → is_full others ≡ false → NoFault words others
    → HasTexts Scan (formats words others)
one_format [] [] one none fine = absurd (no_fault fine)
one_format (word ∷ []) [] one none fine = tt
one_format (word ∷ next ∷ rest) [] one none fine = elim one [ ]
one_format words (text ∷ rest) one none fine = absurd (true≢false none)

formats_for : (words others : List Text) (options : LineOptions) → NoFault words others
    → HasTextsFor (Some options) Scan (formats words others)
formats_for [] [] options fine = absurd (no_fault fine)
formats_for words (text ∷ rest) options fine = tt
formats_for (word ∷ more) [] options fine = tt

both_for : (texts : List Text) (options : LineOptions) → HasTexts Copy texts → HasTextsFor (Some options) Copy texts
both_for [] options has = elim has [ ]
both_for (print ∷ []) options has = elim has [ ]
both_for (print ∷ scan ∷ []) options has = tt
both_for (print ∷ scan ∷ next ∷ rest) options has = elim has [ ]

-- without --lines there is no option of lines
none_without : (lines option : Bool) → lines ≡ false → cond (not lines && option) (kind.MissingRequiredArgument ∷ []) [] ≡ []
    → option ≡ false
none_without true option off fine = absurd (true≢false off)
none_without false true off fine = absurd (no_fault fine)
none_without false false off fine = refl

-- the second of two that are false together
second_false : (a b : Bool) → (a || b) ≡ false → b ≡ false
second_false true b none = absurd (true≢false none)
second_false false b none = none

first_false : (a b : Bool) → (a || b) ≡ false → a ≡ false
first_false true b e = e
first_false false b e = refl

-- where nothing is at fault in a scan, nothing is in its options of lines and its formats
faults_apart : (rows : List Row) → own_faults (codes "scan") rows ≡ [] → (line_faults rows ≡ []) × (format_faults rows ≡ [])
faults_apart rows fine =
    let columns = or_else (column_faults rows) (format_faults rows) in
    let conflicts = or_else (conflict_faults rows) columns in
    let line = both_pass (line_faults rows) conflicts (both_pass (form_faults rows) (or_else (line_faults rows) conflicts) fine).1 in
    (line.0, (both_pass (column_faults rows) (format_faults rows) (both_pass (conflict_faults rows) columns line.1).1).1)

-- a subcommand in which the command finds nothing at fault has as many texts as its verb wants
pub enough_for : (verb : Verb) (rows : List Row) (lines : Option LineOptions) → AllowsLines verb rows → HasWords verb rows
    → HasLines rows lines
    → own_faults (verb_text verb) rows ≡ [] → HasTextsFor lines verb (texts_by verb rows)
enough_for Show rows None allowed words has fine = words
enough_for Show rows (Some options) allowed words has fine = absurd (true≢false (sym has.0 ∙ allowed))
enough_for Print rows None allowed words has fine = words
enough_for Print rows (Some options) allowed words has fine = absurd (true≢false (sym has.0 ∙ allowed))
enough_for Check rows None allowed words has fine = words
enough_for Check rows (Some options) allowed words has fine = absurd (true≢false (sym has.0 ∙ allowed))
enough_for Copy rows None allowed words has fine = words
enough_for Copy rows (Some options) allowed words has fine = both_for (texts_by Copy rows) options words
enough_for Scan rows None allowed words has fine =
    let lines = faults_apart rows fine in
    let none = first_false _ _ (second_false (is_set (codes "whole") rows) _
    (none_without (is_set (codes "lines") rows) (has_line_option rows) has lines.0)) in
    one_format (values_at (codes "FORMAT") rows) (values_at (codes "formats") rows) words none lines.1
enough_for Scan rows (Some options) allowed words has fine =
    formats_for (values_at (codes "FORMAT") rows) (values_at (codes "formats") rows) options (faults_apart rows fine).1

-- what the command refuses by itself is no request
pub no_request : (misuse : Misuse) → is_request (misuse_kind misuse) ≡ false
no_request (Form text) = refl
no_request (NoLines option) = refl
no_request (Together conflict) = refl
no_request PlainNames = refl
no_request TagAlone = refl
no_request (BlankName names) = refl
no_request NoFormat = refl

-- a kind of the first faults is one of both
pub among_first : (found : ErrorKind) (kinds others : Kinds) → IsAmong found kinds → IsAmong found (or_else kinds others)
among_first found [] others is = elim is [ ]
among_first found (k ∷ ks) others is = is

-- what is reported of the error of a parse
pub refused_by : (found : ErrorKind) (kinds : Kinds) (fault : WordsFault) → IsRefusalOf found fault
    → (found ≡ kind.OutOfMemory) ⊎ IsAmong found kinds → IsRefusal kinds fault
refused_by found kinds (Help text) told (inl memory) = absurd (true≢false (sym told ∙ ap is_request memory))
refused_by found kinds (Help text) told (inr among) = (found, among, told)
refused_by found kinds (Usage text) told (inl memory) = absurd (told.1 memory)
refused_by found kinds (Usage text) told (inr among) = (found, among, told.0)
refused_by found kinds NoMemory told among = tt

-- what refuses for the first faults does for both
pub refused_first : (kinds others : Kinds) (fault : WordsFault) → IsRefusal kinds fault → IsRefusal (or_else kinds others) fault
refused_first kinds others (Help text) is = (is.0, among_first is.0 kinds others is.1, is.2)
refused_first kinds others (Usage text) is = (is.0, among_first is.0 kinds others is.1, is.2)
refused_first kinds others NoMemory is = tt
