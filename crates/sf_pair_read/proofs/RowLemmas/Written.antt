-- Rows that are written one after the other.
use Rattle.std.proofs.Common.{◌≡◌, ℕ, zero, suc, ◌+◌, ◌≤◌, ◌<◌, ◌⊎◌, inl, inr, Bool, true, false, List, [], ◌∷◌, ◌++◌, length, map, take}
use Rattle.std.proofs.Common.{drop, get_or}
use Rattle.std.proofs.Common.{Option, Some, Result, Ok, Err, refl, sym, ap, subst, ◌∙◌, arith, append-nil, true≢false}
use Rattle.std.specs.Prelude.{slice_get, IsErrOf, ◌↔◌, if◌then◌else◌}
use Rattle.std.specs.List.{AllByRecursion}
use Rattle.std.specs.Io.KnownBytes.{Appends}
use Rattle.std.proofs.KnownBytes.{Appends-trans}
use Rattle.std.proofs.lemmas.Grind.{flat_map-append}
use Rattle.std.proofs.lemmas.List.{map-append}
use Rattle.sf_base.specs.Data.{Datum}
use Rattle.sf_format.specs.declared.directive.Directive.{Directive}
use Rattle.sf_format.specs.declared.unit.Unit.{Unit as PrintUnit}
use Rattle.sf_print.specs.declared.fault.PrintFault.TheVariants.{TooLong}
use Rattle.sf_print.specs.Printed.{printed}
use Rattle.sf_print.specs.sink.Sinks.{counted_on}
use Rattle.sf_pair.specs.declared.fault.WriteFault.{WriteFault}
use Rattle.sf_pair.specs.declared.fault.WriteFault.TheVariants as fault
use Rattle.sf_pair.specs.Fits.{Fit, FitsIsFit, fits}
use Rattle.sf_pair.specs.Joined.{joined}
use Rattle.sf_pair.specs.Writing.{WritesWhole, is_sink_failure}
use Rattle.sf_pair_read.specs.rows.Writing.{RefusesRow}

-- a list is cut before the element at i, and after it
pub cut_at : {A : Type 0} (xs : List A) (i : ℕ) (x : A) → slice_get xs i ≡ Some x
    → (take (suc i) xs ≡ take i xs ++ x ∷ []) × (xs ≡ take i xs ++ x ∷ drop (suc i) xs) × (length (take i xs) ≡ i)
cut_at [] i x e = absurd cc
cut_at (y ∷ xs) zero x e = let same : y ≡ x = cc in (ap (λ z. z ∷ []) same, ap (λ z. z ∷ xs) same, refl)
cut_at {A} (y ∷ xs) (suc i) x e = let (one, all, size) = cut_at xs i x e in
    (ap (λ (zs : List A). y ∷ zs) one, ap (λ (zs : List A). y ∷ zs) all, omega (arith, size))

pub some_at : {A : Type 0} (xs : List A) (i : ℕ) (d x : A) → x ≡ get_or xs i d → i < length xs → slice_get xs i ≡ Some x
some_at [] i d x e h = absurd (omega arith)
some_at (y ∷ xs) zero d x e h = ap Some (sym e)
some_at (y ∷ xs) (suc i) d x e h = some_at xs i d x e (omega arith)

all_more : (P : List Datum → Type 0) (xs : List (List Datum)) (x : List Datum) → AllByRecursion P xs → P x → AllByRecursion P (xs ++ x ∷ [])
all_more P [] x h p = (p, tt)
all_more P (y ∷ xs) x h p = (h.0, all_more P xs x h.1 p)

le_or_lt : (n k : ℕ) → (n ≤ k) ⊎ (k < n)
le_or_lt zero k = inl (omega arith)
le_or_lt (suc n) zero = inr (omega arith)
le_or_lt (suc n) (suc k) = elim (le_or_lt n k) [ inl h ↦ inl (omega arith) | inr h ↦ inr (omega arith) ]

err_is : {A E : Type 0} (a b : E) → (let r : Result A E = Err a in r ≡ Err b) → a ≡ b
err_is a b e = cc

module _ (exact : FitsIsFit) (us : List PrintUnit) (ds : List Directive) (values : List Datum) (before after : Option (List ℕ))
    (failures failures' : ℕ) where
  -- what `write` says of its answer
  pub record WritesRow (result : Result ℕ WriteFault) : Type 0 where
    pub unfit : (IsErrOf result fault.NotFitting) ↔ (Fit us ds values → ⊥)
    pub nothing : IsErrOf result fault.NotFitting → after ≡ before
    pub long : Fit us ds values → 2147483647 < length (printed us values) → (result ≡ Err (fault.Print TooLong)) × (after ≡ before)
    pub written : Fit us ds values → length (printed us values) ≤ 2147483647 → WritesWhole before after (printed us values) result
    pub failed : failures' ≡ (if is_sink_failure result then counted_on failures else failures)

  fitting : (n : ℕ) → WritesRow (Ok n) → Fit us ds values
  fitting n w = by (fits us ds values) refl
    where
      by : (b : Bool) → fits us ds values ≡ b → Fit us ds values
      by true is = (exact us ds values).0 is
      by false is = absurd (let never = w.unfit.1 (λ fit. true≢false (sym ((exact us ds values).1 fit) ∙ is)) in cc)

  -- the row fits, its text is appended, and no write has failed
  pub row_written : (result : Result ℕ WriteFault) (n : ℕ) → result ≡ Ok n → WritesRow result
      → Fit us ds values × Appends before after (printed us values) × (failures' ≡ failures)
  row_written result n e all =
      let w = subst WritesRow e all in
      let fit = fitting n w in
      let short : length (printed us values) ≤ 2147483647 = elim (le_or_lt (length (printed us values)) 2147483647) [
        | inl h ↦ h
        | inr h ↦ absurd (let never = (w.long fit h).0 in cc)
      ] in (fit, (w.written fit short).0, w.failed)

  pub row_refused : (result : Result ℕ WriteFault) (why : WriteFault) → result ≡ Err why → WritesRow result
      → RefusesRow us ds values before after failures failures' why
  row_refused result why e all =
      let w = subst WritesRow e all in
      record {
        unfit = (λ is. w.unfit.0 (ap Err is), λ not. err_is why fault.NotFitting (w.unfit.1 not));
        nothing = λ is. w.nothing (ap Err is);
        long = λ fit long. let both = w.long fit long in (err_is why (fault.Print TooLong) both.0, both.1);
        part = w.written;
        failed = w.failed;
      }

-- one more row
pub joined_more : {T : Type 0} (us : List PrintUnit) (ds : List Directive) (listed : T → List Datum) (rows : List T) (i : ℕ) (row : T)
    → slice_get rows i ≡ Some row → (first mid last : Option (List ℕ)) → Appends first mid (joined us (map listed (take i rows)))
    → Appends mid last (printed us (listed row)) → Appends first last (joined us (map listed (take (i + 1) rows)))
joined_more us ds listed rows i row e first mid last before own =
    let is : map listed (take (i + 1) rows) ≡ map listed (take i rows) ++ listed row ∷ [] =
    ap (λ (k : ℕ). map listed (take k rows)) {x = i + 1} {y = suc i} (omega arith) ∙ ap (map listed) (cut_at rows i row e).0
    ∙ map-append listed (take i rows) (row ∷ []) in
    let text : joined us (map listed (take (i + 1) rows)) ≡ joined us (map listed (take i rows)) ++ printed us (listed row) =
    ap (joined us) is ∙ flat_map-append (printed us) (map listed (take i rows)) (listed row ∷ [])
    ∙ ap (λ (t : List ℕ). joined us (map listed (take i rows)) ++ t) (append-nil (printed us (listed row))) in
    subst (Appends first last) (sym text)
    (Appends-trans first mid last (joined us (map listed (take i rows))) (printed us (listed row)) before own)

pub fit_more : {T : Type 0} (us : List PrintUnit) (ds : List Directive) (listed : T → List Datum) (rows : List T) (i : ℕ) (row : T)
    → slice_get rows i ≡ Some row → AllByRecursion (Fit us ds) (map listed (take i rows)) → Fit us ds (listed row)
    → AllByRecursion (Fit us ds) (map listed (take (i + 1) rows))
fit_more us ds listed rows i row e before own =
    let is : map listed (take (i + 1) rows) ≡ map listed (take i rows) ++ listed row ∷ [] =
    ap (λ (k : ℕ). map listed (take k rows)) {x = i + 1} {y = suc i} (omega arith) ∙ ap (map listed) (cut_at rows i row e).0
    ∙ map-append listed (take i rows) (row ∷ []) in
    subst (AllByRecursion (Fit us ds)) (sym is) (all_more (Fit us ds) (map listed (take i rows)) (listed row) before own)
