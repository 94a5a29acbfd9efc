-- The texts that a report holds.
use Rattle.std.proofs.Common.{◌≡◌, ℕ, zero, suc, ◌+◌, ◌≤◌, inl, inr, Bool, true, false, List, [], ◌∷◌, ◌++◌, length, take, drop, ℤ, Option}
use Rattle.std.proofs.Common.{Some, None, unwrap_or, refl, sym, ap, subst, arith, length-append}
use Rattle.std.proofs.lemmas.List.{length-take}
use Rattle.std.specs.Prelude.{IfSome}
use Rattle.std.specs.List.{cons_option}
use Rattle.sf_base.specs.Data.{Datum, Number, Bytes, Real, Assigned, value_of}
use Rattle.sf_base.specs.declared.real.Real as real
use Rattle.sf_base.specs.stores.Kept.{text_in, texts_in}
use Rattle.sf_format.specs.declared.directive.Shape.{Shape}
use Rattle.sf_format.specs.declared.directive.Shape.TheVariants as shape
use Rattle.sf_format.specs.declared.directive.Conversion.{Conversion}
use Rattle.sf_format.specs.declared.directive.Directive.{Directive}
use Rattle.sf_format.specs.declared.directive.Directive.TheVariants as directive
use Rattle.sf_format.specs.declared.directive.Literal.{Literal}
use Rattle.sf_format.specs.declared.directive.Literal.TheVariants as literal
use Rattle.sf_format.specs.Leads.{is_strict}
use Rattle.sf_format.specs.Widths.{add_widths, text_width, stored_width, width_sum}
use Rattle.sf_report.specs.Steps.{StepEnd, Passes, Stores, Misses, Fails, NumberStored, RealStored, CountStep, ItemStored, ItemPasses}
use Rattle.sf_report.specs.Steps.{EmptyItem, ItemEnds, ConversionStep, BlankColumn, TextColumn, ColumnEnds, ColumnStep, StepBy, Step}
use Rattle.sf_report.specs.Steps.{LiteralStep, missed}
use Rattle.sf_item.specs.Columns.{column_width, IsTextUnder, IsTextOf, ShapeFills, Fills}
use Rattle.sf_report.specs.Runs.{Ran, RunReport, GoesOn, Steps, StepsPast, over, value_stored, values_stored}
use Rattle.sf_report.specs.declared.outcome.Ending.{Ending}
use Rattle.sf_report.specs.Limits.{IsCut, RunWithin}
use Rattle.sf_pair.specs.Groups.{is_count}
use Rattle.sf_pair.specs.Laws.{HeldIsBounded}

abbrev no_store : StepEnd → Type 0
no_store (Stores slot v) = ⊥
no_store _ = Unit {0}

not_stored : (slot : ℕ) (v : Datum) (end : StepEnd) → Stores slot v ≡ end → no_store end → ⊥
not_stored slot v end e h = subst no_store (sym e) h

-- ---- one step

number_none : (c : Conversion) (at : ℕ) (o : Option ℤ) (slot : ℕ) (v : Datum) → NumberStored c at o (Stores slot v) → length (text_in v) ≡ 0
number_none c at None slot v e = absurd cc
number_none c at (Some z) slot v e = let same : v ≡ Number c.kind z = cc in ap (λ (v : Datum). length (text_in v)) same

real_none : (at : ℕ) (o : Option real.Real) (slot : ℕ) (v : Datum) → RealStored at o (Stores slot v) → length (text_in v) ≡ 0
real_none at None slot v e = absurd cc
real_none at (Some r) slot v e = let same : v ≡ Real r = cc in ap (λ (v : Datum). length (text_in v)) same

bytes_within : (o : Option ℕ) (at slot : ℕ) (item : List ℕ) (v : Datum) (a : ℕ) → Stores slot v ≡ Stores at (Bytes item) → o ≡ Some a
    → IfSome o (λ w. length item ≤ w) → length (text_in v) ≤ a
bytes_within o at slot item v a e wide within =
    let same : v ≡ Bytes item = cc in
    let low : length item ≤ a = subst (λ (o : Option ℕ). IfSome o (λ w. length item ≤ w)) wide within in
    omega (arith, ap (λ (v : Datum). length (text_in v)) same)

stored_within : (c : Conversion) (h : Shape) (at : ℕ) (item : List ℕ) (slot : ℕ) (v : Datum) (a : ℕ) → is_count h ≡ false
    → ItemStored c at h item (Stores slot v) → text_width h c.width ≡ Some a
    → IfSome c.width (λ w. length item ≤ w) → length (text_in v) ≤ a
stored_within c (shape.Int numeral) at item slot v a no_count (negative, m, is, stored) wide within =
    omega (arith, number_none c at (value_of c.kind negative m) slot v stored)
stored_within c (shape.Float lead) at item slot v a no_count (r, is, stored) wide within =
    omega (arith, real_none at r slot v stored)
stored_within c shape.Count at item slot v a no_count e wide within = absurd cc
stored_within c (shape.Text lead) at item slot v a no_count e wide within = bytes_within c.width at slot item v a e wide within
stored_within c (shape.Set members) at item slot v a no_count e wide within = bytes_within c.width at slot item v a e wide within
stored_within c shape.Chars at item slot v a no_count e wide within = bytes_within c.width at slot item v a e wide within

passes_within : (c : Conversion) (o : Option ℕ) (item : List ℕ) (slot : ℕ) (v : Datum) (a : ℕ) → is_count c.shape ≡ false
    → ItemPasses c o item (Stores slot v)
    → ◌≡◌ {A = Option ℕ} (elim o [ None ↦ Some 0 | Some at ↦ text_width c.shape c.width ]) (Some a) → IfSome c.width (λ w. length item ≤ w)
    → length (text_in v) ≤ a
passes_within c None item slot v a no_count e wide within = absurd cc
passes_within c (Some at) item slot v a no_count stored wide within = stored_within c c.shape at item slot v a no_count stored wide within

shorter : (o : Option ℕ) (y : List ℕ) (j : ℕ) → IfSome o (λ w. j ≤ w) → IfSome o (λ w. length (take j y) ≤ w)
shorter None y j h = h
shorter (Some w) y j h = let low : j ≤ w = h in omega (arith, length-take j y)

empty_none : (optional : Bool) (y : List ℕ) (slot : ℕ) (v : Datum) → EmptyItem optional y (Stores slot v) → ⊥
empty_none true y slot v e = absurd cc
empty_none false [] slot v e = absurd cc
empty_none false (b ∷ y) slot v e = absurd cc

ends_within : (c : Conversion) (y : List ℕ) (j slot : ℕ) (v : Datum) (a : ℕ) → is_count c.shape ≡ false → ItemEnds c y j (Stores slot v)
    → ◌≡◌ {A = Option ℕ} (elim c.slot [ None ↦ Some 0 | Some at ↦ text_width c.shape c.width ]) (Some a) → IfSome c.width (λ w. j ≤ w)
    → length (text_in v) ≤ a
ends_within c y zero slot v a no_count is wide within = absurd (empty_none c.optional y slot v is)
ends_within c y (suc j) slot v a no_count (inl is) wide within =
    passes_within c c.slot (take (suc j) y) slot v a no_count is.1 wide (shorter c.width y (suc j) within)
ends_within c y (suc j) slot v a no_count (inr is) wide within = absurd (not_stored slot v (Fails _) is.1 tt)

count_none : (c : Conversion) (o : Option ℕ) (n slot : ℕ) (v : Datum) → CountStep c o n (Stores slot v) → length (text_in v) ≡ 0
count_none c None n slot v e = absurd cc
count_none c (Some at) n slot v stored = number_none c at (value_of c.kind false n) slot v stored

conversion_within : (c : Conversion) (h : Shape) (x : List ℕ) (n k slot : ℕ) (v : Datum) (a : ℕ) → c.shape ≡ h
    → ConversionStep c h x n k (Stores slot v)
    → ◌≡◌ {A = Option ℕ} (elim c.slot [ None ↦ Some 0 | Some at ↦ text_width c.shape c.width ]) (Some a) → length (text_in v) ≤ a
conversion_within c shape.Count x n k slot v a e is wide = omega (arith, count_none c c.slot n slot v is.1)
conversion_within c (shape.Int numeral) x n k slot v a e (s, j, skipped, item, k_is, ends) wide =
    ends_within c (drop s x) j slot v a (ap is_count e) ends wide item.holds.1
conversion_within c (shape.Text lead) x n k slot v a e (s, j, skipped, item, k_is, ends) wide =
    ends_within c (drop s x) j slot v a (ap is_count e) ends wide item.holds.1
conversion_within c (shape.Set members) x n k slot v a e (s, j, skipped, item, k_is, ends) wide =
    ends_within c (drop s x) j slot v a (ap is_count e) ends wide item.holds.1
conversion_within c (shape.Float lead) x n k slot v a e (s, j, skipped, item, k_is, ends) wide =
    ends_within c (drop s x) j slot v a (ap is_count e) ends wide item.holds.1
conversion_within c shape.Chars x n k slot v a e (s, j, skipped, item, k_is, ends) wide =
    ends_within c (drop s x) j slot v a (ap is_count e) ends wide item.holds.1

-- a text in a column is no longer than it
text_shorter : (strict : Bool) (s t : List ℕ) → IsTextUnder strict s t → length t ≤ length s
text_shorter true s t e = omega (arith, ap length e)
text_shorter false s t h = omega (arith, ap length h.whole, length-append h.before (t ++ h.after), length-append t h.after)

counts_none : (c : Conversion) (t : List ℕ) → Fills c t → is_count c.shape ≡ false
counts_none c t h = by c.shape h
  where
    by : (h : Shape) → ShapeFills h c.width t → is_count h ≡ false
    by shape.Count h = absurd h
    by (shape.Int numeral) h = refl
    by (shape.Text lead) h = refl
    by (shape.Set members) h = refl
    by (shape.Float lead) h = refl
    by shape.Chars h = refl

text_within : (c : Conversion) (y : List ℕ) (j slot : ℕ) (v : Datum) (a : ℕ) (t : List ℕ) → j ≤ column_width c → IsTextOf c (take j y) t
    → TextColumn c t (Stores slot v)
    → ◌≡◌ {A = Option ℕ} (elim c.slot [ None ↦ Some 0 | Some at ↦ text_width c.shape c.width ]) (Some a) → length (text_in v) ≤ a
text_within c y j slot v a t low is (inl h) wide =
    let short : length t ≤ column_width c = omega (arith, text_shorter (is_strict c.shape) (take j y) t is, length-take j y, low) in
    passes_within c c.slot t slot v a (counts_none c t h.0) h.1 wide (by c.width short)
  where
    by : (o : Option ℕ) → length t ≤ unwrap_or o 1 → IfSome o (λ w. length t ≤ w)
    by None h = tt
    by (Some w) h = h
text_within c y j slot v a t low is (inr h) wide = absurd (not_stored slot v (Fails _) h.1 tt)

blank_none : (optional : Bool) (slot : ℕ) (v : Datum) → BlankColumn optional (Stores slot v) → ⊥
blank_none true slot v e = absurd cc
blank_none false slot v e = absurd cc

column_within : (c : Conversion) (x : List ℕ) (k slot : ℕ) (v : Datum) (a : ℕ) → ColumnStep c x k (Stores slot v)
    → ◌≡◌ {A = Option ℕ} (elim c.slot [ None ↦ Some 0 | Some at ↦ text_width c.shape c.width ]) (Some a) → length (text_in v) ≤ a
column_within c x k slot v a (column, ends) wide = by (take k x) refl ends
  where
    by : (s : List ℕ) → take k x ≡ s → ColumnEnds c x s (Stores slot v) → length (text_in v) ≤ a
    by [] e h = absurd (empty_none c.optional x slot v h)
    by (b ∷ s) e (inl h) = absurd (blank_none c.optional slot v h.1)
    by (b ∷ s) e (inr (ink, (t, is, h))) =
        text_within c x k slot v a t column.holds.1 (subst (λ (s : List ℕ). IsTextOf c s t) (sym e) is) h wide

byte_none : (b : ℕ) (x : List ℕ) (k slot : ℕ) (v : Datum) → Step (directive.Byte b) x 0 k (Stores slot v) → ⊥
byte_none b [] k slot v e = not_stored slot v (Fails _) e.1 tt
byte_none b (y ∷ x) k slot v (inl e) = not_stored slot v Passes e.2 tt
byte_none b (y ∷ x) k slot v (inr e) = not_stored slot v (Fails _) e.2 tt

literal_none : (l : Literal) (x : List ℕ) (k slot : ℕ) (v : Datum) → LiteralStep l x k (Stores slot v) → ⊥
literal_none (literal.Byte b) x k slot v is = byte_none b x k slot v is
literal_none literal.Percent x k slot v (s, j, skipped, is, k_is) = byte_none 37 (drop s x) j slot v is

opener_none : (l : Literal) (x : List ℕ) (k slot : ℕ) (v : Datum) (e : StepEnd) → LiteralStep l x k e → Stores slot v ≡ missed e → ⊥
opener_none l x k slot v Passes is end_is = cc
opener_none l x k slot v (Stores at u) is end_is = literal_none l x k at u is
opener_none l x k slot v Misses is end_is = cc
opener_none l x k slot v (Fails status) is end_is = cc

step_within : (d : Directive) (x : List ℕ) (n k slot : ℕ) (v : Datum) (a : ℕ) → Step d x n k (Stores slot v) → stored_width d ≡ Some a
    → length (text_in v) ≤ a
step_within directive.Space x n k slot v a is wide = absurd (not_stored slot v Passes is.1 tt)
step_within (directive.Byte b) x n k slot v a is wide = absurd (byte_none b x k slot v is)
step_within directive.Percent x n k slot v a (s, j, skipped, is, k_is) wide = absurd (byte_none 37 (drop s x) j slot v is)
step_within (directive.Opens o) x n k slot v a (e, is, end_is) wide = absurd (opener_none o.literal x k slot v e is end_is)
step_within (directive.Conv c) x n k slot v a is wide = by c.column is
  where
    by : (t : Bool) → StepBy t c x n k (Stores slot v) → length (text_in v) ≤ a
    by true h = column_within c x k slot v a h wide
    by false h = conversion_within c c.shape x n k slot v a refl h wide

-- ---- the run

record Parts (o p : Option ℕ) (w : ℕ) : Type 0 where
  first : ℕ
  rest : ℕ
  first_is : o ≡ Some first
  rest_is : p ≡ Some rest
  sum : w ≡ first + rest

parts : (o p : Option ℕ) (w : ℕ) → add_widths o p ≡ Some w → Parts o p w
parts (Some m) (Some n) w e = record { first = m; rest = n; first_is = refl; rest_is = refl; sum = (let same : w ≡ m + n = cc in same) }
parts None p w e = absurd cc
parts (Some m) None w e = absurd cc

-- where the first m directives are missing with one before them
held_past : (m : ℕ) (ds : List Directive) (x : List ℕ) (n : ℕ) (ran : List Ran) → StepsPast m ds x n ran → (w : ℕ) → width_sum ds ≡ Some w
    → length (texts_in (values_stored ran)) ≤ w
held_past m [] x n [] steps w e = omega arith
held_past m [] x n (r ∷ ran) steps w e = absurd steps
held_past m (d ∷ ds) x n [] steps w e = absurd steps
held_past (suc m) (d ∷ ds) x n (r ∷ ran) (out, more) w e =
    let p = parts (stored_width d) (width_sum ds) w e in
    let same = ap (λ (r : Ran). length (texts_in (values_stored (r ∷ ran)))) out in
    omega (arith, p.sum, held_past m ds x n ran more p.rest p.rest_is, same)
held_past zero (d ∷ ds) x n (r ∷ ran) (same, step, more) w e =
    let p = parts (stored_width d) (width_sum ds) w e in
    by p r.end refl step more (λ rest. held_past (over d r.end) ds (drop r.bytes x) (n + r.bytes) ran rest p.rest p.rest_is)
  where
    by : (p : Parts (stored_width d) (width_sum ds) w) (end : StepEnd) → r.end ≡ end → Step d x n r.bytes end
        → GoesOn end (StepsPast (over d end) ds (drop r.bytes x) (n + r.bytes) ran) ran
        → (StepsPast (over d end) ds (drop r.bytes x) (n + r.bytes) ran → length (texts_in (values_stored ran)) ≤ p.rest)
        → length (texts_in (values_stored (r ∷ ran))) ≤ w
    by p Passes is step more later =
        let e = ap (λ (end : StepEnd). length (texts_in (values_stored (
        record { directive = r.directive; bytes = r.bytes; end = end } ∷ ran))))
        is in
        omega (arith, p.sum, later more, e)
    by p (Stores slot v) is step more later =
        let e = ap (λ (end : StepEnd). length (texts_in (values_stored (
        record { directive = r.directive; bytes = r.bytes; end = end } ∷ ran))))
        is in
        omega (
          arith,
          p.sum,
          later more,
          e,
          length-append (text_in v) (texts_in (values_stored ran)),
          step_within d x n r.bytes slot v p.first step p.first_is,
        )
    by p Misses is step more later =
        let e = ap (λ (end : StepEnd). length (texts_in (values_stored (
        record { directive = r.directive; bytes = r.bytes; end = end } ∷ ran))))
        is in
        omega (arith, p.sum, later more, e)
    by p (Fails status) is step more later =
        let e = ap (λ (end : StepEnd). length (texts_in (values_stored (
        record { directive = r.directive; bytes = r.bytes; end = end } ∷ ran))))
        is in
        let none = ap (λ (ran : List Ran). length (texts_in (values_stored ran))) more in
        omega (arith, e, none)

held : (ds : List Directive) (x : List ℕ) (n : ℕ) (ran : List Ran) → Steps ds x n ran → (w : ℕ) → width_sum ds ≡ Some w
    → length (texts_in (values_stored ran)) ≤ w
held ds x n ran steps w e = held_past 0 ds x n ran steps w e

-- what was held before a cut
front_held : (before more : List Ran) → length (texts_in (values_stored before)) ≤ length (texts_in (values_stored (before ++ more)))
front_held [] more = omega arith
front_held (r ∷ before) more = by (value_stored r) (front_held before more)
  where
    by : (o : Option Assigned) → length (texts_in (values_stored before)) ≤ length (texts_in (values_stored (before ++ more)))
        → length (texts_in (cons_option o (values_stored before))) ≤ length (texts_in (cons_option o (values_stored (before ++ more))))
    by None h = h
    by (Some a) h = omega (
      arith,
      h,
      length-append (text_in a.datum) (texts_in (values_stored before)),
      length-append (text_in a.datum) (texts_in (values_stored (before ++ more))),
    )

abbrev values_held : RunReport → ℕ
values_held report = length (texts_in report.values)

cut_held : (ds : List Directive) (x : List ℕ) (k : ℕ) (before : List Ran) → IsCut ds x k before → (n : ℕ) → width_sum ds ≡ Some n
    → length (texts_in (values_stored before)) ≤ n
cut_held ds x k before cut n e = omega (
  arith,
  front_held before (cut.cut ∷ cut.rest),
  held ds x 0 (before ++ (cut.cut ∷ cut.rest)) cut.steps n e,
)

within_held : (ds : List Directive) (m : ℕ) (x : List ℕ) (ending : Ending) (report : RunReport) → RunWithin ds m x ending report → (n : ℕ)
    → width_sum ds ≡ Some n → values_held report ≤ n
within_held ds m x ending report (inl (short, run)) n e = omega (arith, held ds x 0 run.0 run.1 n e, ap values_held run.4)
within_held ds m x ending report (inr (before, cut, is)) n e = omega (arith, cut_held ds x m before cut n e, ap values_held is)

pub held_is_bounded : HeldIsBounded
held_is_bounded ds m x ending report (inl told) n e = within_held ds m x ending report told n e
held_is_bounded ds m x ending report (inr (k, low, (before, cut, stores, is))) n e =
    omega (arith, cut_held ds x k before cut n e, ap values_held is)
