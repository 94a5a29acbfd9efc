-- Names of columns.
use Rattle.std.proofs.Common.{◌≡◌, ℕ, zero, suc, ◌+◌, ◌-◌, ◌<◌, ◌≤◌, Bool, true, false, List, [], ◌∷◌, ◌++◌, length, take, drop, get_or}
use Rattle.std.proofs.Common.{codes, refl, sym, ap, subst, ◌∙◌, arith, ◌⊎◌, inl, inr, Option, Some, None, true≢false}
use Rattle.std.proofs.Math.Seq.{drop-cons}
use Rattle.std.proofs.lemmas.Bool.{cases_order}
use Rattle.std.proofs.lemmas.List.{get_or-map, length-map, take-append-drop, take-map, take_all, take_more}
use Rattle.std.specs.Borrow.{Bor}
use Rattle.std.specs.Prelude.{is_some}
use Rattle.std.specs.Option.{option_map}
use Rattle.std.specs.List.{AllByRecursion, Contains}
use Rattle.sf_format.specs.declared.directive.Directive.{Directive}
use Rattle.sf_format.specs.Proper.{destinations_of}
use Rattle.sf_forms.specs.Columns.{name_at, texts}
use Rattle.sf_forms.specs.declared.form.OutputForm.{OutputForm}
use Rattle.sf_forms.specs.Forms.{record_text}
use Rattle.sf_forms.specs.Heads.{Heading, column_names, headed_text, header_text, line_over, names_line}
use Rattle.sf_report.specs.Runs.{RunReport}
use Rattle.sf_forms.specs.makers.Names.{IsCounted, IsFirstUncounted, names_before}

-- ---- facts of each of a list

all_append : {A : Type 0} (P : A → Type 0) (xs ys : List A) → AllByRecursion P xs → AllByRecursion P ys → AllByRecursion P (xs ++ ys)
all_append P [] ys h k = k
all_append P (x ∷ xs) ys h k = (h.0, all_append P xs ys h.1 k)

-- and of one more
pub all_with : {A : Type 0} (P : A → Type 0) (xs : List A) (i : ℕ) (x : A) → i < length xs → AllByRecursion P (take i xs)
    → P (get_or xs i x) → AllByRecursion P (take (i + 1) xs)
all_with P xs i x lt h p = subst (AllByRecursion P) (sym (take_more xs i x lt)) (all_append P (take i xs) (get_or xs i x ∷ []) h (p, tt))

pub all_taken : {A : Type 0} (P : A → Type 0) (xs : List A) (i : ℕ) → length xs ≤ i → AllByRecursion P (take i xs) → AllByRecursion P xs
all_taken P xs i le h = subst (AllByRecursion P) (take_all i xs le) h

-- a list about one of it
around : {A : Type 0} (xs : List A) (i : ℕ) (x : A) → i < length xs → x ≡ get_or xs i x → xs ≡ take i xs ++ x ∷ drop (i + 1) xs
around xs i x lt is =
    let on : i + 1 ≡ suc i = omega arith in
    sym (take-append-drop i xs) ∙ ap (λ ys. take i xs ++ ys) (drop-cons xs i x lt ∙ ap (λ y. y ∷ drop (suc i) xs) (sym is)
    ∙ ap (λ n. x ∷ drop n xs) (sym on))

-- ---- texts among others

-- one of them
pub one_among : (names : List (Bor (List ℕ))) (i : ℕ) (none : Bor (List ℕ)) (text : List ℕ) → i < length names
    → (get_or names i none).now ≡ text → Contains (texts names) text
one_among names i none text lt e = (
  i,
  omega (arith, lt, length-map names (λ (n : Bor (List ℕ)). n.now)),
  get_or-map (λ (n : Bor (List ℕ)). n.now) names i none text lt ∙ e,
)

-- none of them
pub none_among : (names : List (Bor (List ℕ))) (text : List ℕ) → AllByRecursion (λ name. name.now ≡ text → ⊥) names
    → Contains (texts names) text → ⊥
none_among [] text none (k, lt, at) = omega (arith, lt)
none_among (name ∷ names) text none (zero, lt, at) = none.0 at
none_among (name ∷ names) text none (suc k, lt, at) = none_among names text none.1 (k, omega (arith, lt), at)

-- a name, as a text
pub name_text : (names : List (Bor (List ℕ))) (i : ℕ) (none : Bor (List ℕ)) → i < length names
    → (get_or names i none).now ≡ name_at (texts names) (i + 1)
name_text names i none lt =
    sym (get_or-map (λ (n : Bor (List ℕ)). n.now) names i none [] lt)
    ∙ ap (λ (k : ℕ). get_or (texts names) k []) {x = i} {y = i + 1 - 1} (omega arith)

-- those before it
before_texts : (names : List (Bor (List ℕ))) (i : ℕ) → texts (take i names) ≡ take (i + 1 - 1) (texts names)
before_texts names i =
    sym (take-map (λ (n : Bor (List ℕ)). n.now) i names) ∙ ap (λ (k : ℕ). take k (texts names)) {x = i} {y = i + 1 - 1} (omega arith)

-- it is the name of the column for the number of a format
pub is_tag : (tagged : Bool) (names : List (List ℕ)) (number : ℕ) (name : List ℕ) → tagged ≡ true → name ≡ codes "format"
    → Contains (names_before tagged names number) name
is_tag true names number name e is = (0, omega arith, sym is)
is_tag false names number name e is = absurd (true≢false (sym e))

-- it stands among those before
pub is_before : (tagged : Bool) (names : List (Bor (List ℕ))) (i : ℕ) (name : List ℕ) → Contains (texts (take i names)) name
    → Contains (names_before tagged (texts names) (i + 1)) name
is_before tagged names i name among = by tagged (subst (λ (all : List (List ℕ)). Contains all name) (before_texts names i) among)
  where
    by : (tagged : Bool) → Contains (take (i + 1 - 1) (texts names)) name → Contains (names_before tagged (texts names) (i + 1)) name
    by true (k, lt, at) = (suc k, omega (arith, lt), at)
    by false h = h

-- it stands nowhere before
pub is_new : (tagged : Bool) (names : List (Bor (List ℕ))) (i : ℕ) (name : List ℕ) → (tagged ≡ true → name ≡ codes "format" → ⊥)
    → (Contains (texts (take i names)) name → ⊥) → Contains (names_before tagged (texts names) (i + 1)) name → ⊥
is_new tagged names i name no_tag none among = by tagged no_tag among
  where
    later : Contains (take (i + 1 - 1) (texts names)) name → ⊥
    later h = none (subst (λ (all : List (List ℕ)). Contains all name) (sym (before_texts names i)) h)

    by : (tagged : Bool) → (tagged ≡ true → name ≡ codes "format" → ⊥) → Contains (names_before tagged (texts names) (i + 1)) name → ⊥
    by true no_tag (zero, lt, at) = no_tag refl (sym at)
    by true no_tag (suc k, lt, at) = later (k, omega (arith, lt), at)
    by false no_tag h = later h

-- ---- names

-- those up to one more are good
pub good_more : (P : ℕ → Type 0) (n : ℕ) → ((k : ℕ) → 1 ≤ k → k < n + 1 → P k) → P (n + 1) → (k : ℕ) → 1 ≤ k → k < n + 1 + 1 → P k
good_more P n before this k some less = by (cases_order k (n + 1))
  where
    by : (k ≡ n + 1) ⊎ ((k < n + 1) ⊎ (n + 1 < k)) → P k
    by (inl e) = subst P (sym e) this
    by (inr (inl lower)) = before k some lower
    by (inr (inr above)) = absurd (omega (arith, less, above))

-- the first format that gives another number of values
pub first_uncounted : (names : List (List ℕ)) (formats : List (List Directive)) (i : ℕ) (ds : List Directive) (expected : ℕ)
    → i < length formats → ds ≡ get_or formats i ds → AllByRecursion (IsCounted names) (take i formats)
    → expected ≡ length (destinations_of ds) → (expected ≡ length names → ⊥) → IsFirstUncounted names formats expected
first_uncounted names formats i ds expected lt is before gives other = record {
  before = take i formats;
  ds = ds;
  after = drop (i + 1) formats;
  among = around formats i ds lt is;
  counted = before;
  expected_is = gives;
  other = other;
}

-- ---- under heads

-- the line over records
pub header_is : (form : OutputForm) (given : Option (List (List ℕ))) (tagged : Bool) (h : Heading) (names shown : List (List ℕ))
    → record { form = form; names = given; tagged = tagged } ≡ h → given ≡ Some names → shown ≡ names
    → names_line form (column_names tagged shown) ≡ header_text h
header_is form given tagged h names shown view some same =
    ap (λ (t : List (List ℕ)). names_line form (column_names tagged t)) same
    ∙ ap (λ (g : Option (List (List ℕ))). line_over form (option_map (column_names tagged) g)) (sym some)
    ∙ ap header_text view

-- a record without heads
pub bare_is : (form : OutputForm) (given : Option (List (List ℕ))) (tagged : Bool) (h : Heading) (number n : ℕ) (r : RunReport)
    → record { form = form; names = given; tagged = tagged } ≡ h → tagged ≡ false → is_some given ≡ false
    → record_text form n r ≡ headed_text h number n r
bare_is form None false h number n r view no_tag no_names = ap (λ (x : Heading). headed_text x number n r) view
bare_is form None true h number n r view no_tag no_names = absurd (true≢false no_tag)
bare_is form (Some names) tagged h number n r view no_tag no_names = absurd (true≢false no_names)
