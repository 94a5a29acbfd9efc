-- What the runs of a format store are values: numbers that their kinds hold, and bytes.
use Rattle.std.proofs.Common.{◌≡◌, ℕ, zero, suc, ◌+◌, ◌^◌, ◌<◌, inl, inr, Bool, true, false, cond, nat_eq, List, [], ◌∷◌, drop, take}
use Rattle.std.proofs.Common.{Option, Some, None, refl, sym, ap, subst, arith, ◌++◌, ◌∙◌, length}
use Rattle.std.proofs.lemmas.Bool.Decides.{nat_tests}
use Rattle.std.proofs.lemmas.Int.{ints}
use Rattle.std.proofs.lemmas.Nat.{pow_pos}
use Rattle.std.proofs.Math.Seq.{drop-append_seam, take-append_seam}
use Rattle.std.specs.Prelude.{find, IfSome, ℤ}
use Rattle.std.specs.List.{AllByRecursion}
use Rattle.std.specs.Option.{option_map}
use Rattle.std.specs.Float.Ieee.{binary32, binary64}
use Rattle.sf_base.specs.Bytes.{AreBytes}
use Rattle.sf_base.specs.declared.real.Real as real
use Rattle.sf_base.specs.declared.real.Real.TheVariants as reals
use Rattle.sf_float_read.specs.value.Values.{IsStored}
use Rattle.sf_float_read.proofs.ValueLemmas.StoredBits.{stored_bits}
use Rattle.sf_base.specs.declared.values.Kind.{Kind}
use Rattle.sf_base.specs.declared.values.Kind.TheVariants as kinds
use Rattle.sf_base.specs.Data.{Datum, Number, Bytes, Real, Assigned, IsIn, IsSigned, IsUnsigned, datum_at, signed_value, unsigned_value}
use Rattle.sf_base.specs.Data.{value_of}
use Rattle.sf_format.specs.declared.directive.Shape.{Shape}
use Rattle.sf_format.specs.declared.directive.Shape.TheVariants.{Int, Text, Set, Chars, Float, Count}
use Rattle.sf_format.specs.declared.directive.Conversion.{Conversion}
use Rattle.sf_format.specs.declared.directive.Directive.{Directive}
use Rattle.sf_format.specs.declared.directive.Directive.TheVariants.{Space, Byte, Percent, Conv, Opens}
use Rattle.sf_format.specs.declared.directive.Literal.{Literal}
use Rattle.sf_format.specs.declared.directive.Literal.TheVariants as literal
use Rattle.sf_format.specs.Leads.{is_strict}
use Rattle.sf_format.proofs.Outcomes.{by_test}
use Rattle.sf_item.specs.Columns.{IsTextUnder}
use Rattle.sf_report.specs.declared.outcome.Ending.{Ending}
use Rattle.sf_report.specs.declared.outcome.Status.TheVariants.{Done, TooLong, NoMemory}
use Rattle.sf_report.specs.Limits.{RunTold}
use Rattle.sf_report.specs.Rows.{IsPattern, IsReadable, IsValue}
use Rattle.sf_report.specs.Runs.{GoesOn, Ran, RunReport, StepsPast, over, values_stored}
use Rattle.sf_report.specs.Steps.{ByteStep, ConversionStep, CountStep, EmptyItem, Fails, IsReal, ItemEnds, ItemPasses, ItemStep, ItemStored}
use Rattle.sf_report.specs.Steps.{BlankColumn, ColumnEnds, Misses, NumberStored, Passes, RealStored, Step, StepBy, StepEnd, Stores}
use Rattle.sf_report.specs.Steps.{LiteralStep, TextColumn, missed}

-- ---- the numbers of a kind

signed_in : (n : ℕ) (negative : Bool) (m : ℕ) (z : ℤ) → signed_value n negative m ≡ Some z → IsSigned n z
signed_in n false m z e = grind (arith, nat_tests, ints)
signed_in n true m z e = let some : 0 < 2 ^ n = pow_pos n in grind (arith, nat_tests, ints)

unsigned_in : (n : ℕ) (negative : Bool) (m : ℕ) (z : ℤ) → unsigned_value n negative m ≡ Some z → IsUnsigned n z
unsigned_in n false m z e = grind (arith, nat_tests, ints)
unsigned_in n true m z e = grind (arith, nat_tests, ints)

value_in : (kind : Kind) (negative : Bool) (m : ℕ) (z : ℤ) → value_of kind negative m ≡ Some z → IsIn kind z
value_in kinds.I8 = signed_in 7
value_in kinds.I16 = signed_in 15
value_in kinds.I32 = signed_in 31
value_in kinds.I64 = signed_in 63
value_in kinds.U8 = unsigned_in 8
value_in kinds.U16 = unsigned_in 16
value_in kinds.U32 = unsigned_in 32
value_in kinds.U64 = unsigned_in 64
value_in kinds.Text = λ negative m z e. absurd cc
value_in kinds.F32 = λ negative m z e. absurd cc
value_in kinds.F64 = λ negative m z e. absurd cc

-- ---- the bytes of an input

bytes_from : (n : ℕ) (x : List ℕ) → AreBytes x → AreBytes (drop n x)
bytes_from zero x h = h
bytes_from (suc n) [] h = tt
bytes_from (suc n) (b ∷ x) h = bytes_from n x h.1

bytes_to : (n : ℕ) (x : List ℕ) → AreBytes x → AreBytes (take n x)
bytes_to zero x h = tt
bytes_to (suc n) [] h = tt
bytes_to (suc n) (b ∷ x) h = (h.0, bytes_to n x h.1)

-- ---- what a step stores

-- what stands between two parts
middle : (a t z : List ℕ) → take (length t) (drop (length a) (a ++ (t ++ z))) ≡ t
middle a t z = ap (take (length t)) (drop-append_seam a (t ++ z)) ∙ take-append_seam t z

-- a value, where the texts that are stored have the property
abbrev ValueOf : (List ℕ → Type 0) → Datum → Type 0
ValueOf Q (Number kind n) = IsIn kind n
ValueOf Q (Bytes text) = Q text
ValueOf Q (Real r) = IsPattern r

-- of an input that has a property which its parts have too
module _ (Q : List ℕ → Type 0) (from : (n : ℕ) (x : List ℕ) → Q x → Q (drop n x)) (to : (n : ℕ) (x : List ℕ) → Q x → Q (take n x)) where
  abbrev ValueBy : Datum → Type 0
  ValueBy v = ValueOf Q v

  -- what is stored, if something is, is a value
  abbrev GivesValue : StepEnd → Type 0
  GivesValue (Stores slot v) = ValueBy v
  GivesValue _ = Unit {0}

  number_given : (c : Conversion) (slot : ℕ) (negative : Bool) (m : ℕ) (v : Option ℤ) (e : StepEnd) → value_of c.kind negative m ≡ v
      → NumberStored c slot v e → GivesValue e
  number_given c slot negative m None e is h = rw h tt
  number_given c slot negative m (Some z) e is h = rw h (value_in c.kind negative m z is)

  count_given : (c : Conversion) (slot : Option ℕ) (n : ℕ) (e : StepEnd) → CountStep c slot n e → GivesValue e
  count_given c None n e h = rw h tt
  count_given c (Some slot) n e h = number_given c slot false n (value_of c.kind false n) e refl h

  option_f32 : (o : Option ℕ) (r : real.Real) → Some r ≡ option_map reals.F32 o → (bits : ℕ) × (o ≡ Some bits) × (r ≡ reals.F32 bits)
  option_f32 None r e = absurd cc
  option_f32 (Some bits) r e = (bits, refl, cc)

  option_f64 : (o : Option ℕ) (r : real.Real) → Some r ≡ option_map reals.F64 o → (bits : ℕ) × (o ≡ Some bits) × (r ≡ reals.F64 bits)
  option_f64 None r e = absurd cc
  option_f64 (Some bits) r e = (bits, refl, cc)

  f32_pattern : (item : List ℕ) (o : Option ℕ) (r : real.Real) → IsStored binary32 item o → Some r ≡ option_map reals.F32 o → IsPattern r
  f32_pattern item o r stored e =
      let (bits, some, is) = option_f32 o r e in
      subst IsPattern (sym is) (stored_bits binary32 item bits (subst (IsStored binary32 item) some stored)).1

  f64_pattern : (item : List ℕ) (o : Option ℕ) (r : real.Real) → IsStored binary64 item o → Some r ≡ option_map reals.F64 o → IsPattern r
  f64_pattern item o r stored e =
      let (bits, some, is) = option_f64 o r e in
      subst IsPattern (sym is) (stored_bits binary64 item bits (subst (IsStored binary64 item) some stored)).1

  no_real : (r : real.Real) → Some r ≡ None → IsPattern r
  no_real r e = absurd cc

  real_pattern : (k : Kind) (item : List ℕ) (r : real.Real) → IsReal k item (Some r) → IsPattern r
  real_pattern kinds.F32 item r (bits, stored, is) = f32_pattern item bits r stored is
  real_pattern kinds.F64 item r (bits, stored, is) = f64_pattern item bits r stored is
  real_pattern kinds.I8 item r is = no_real r is
  real_pattern kinds.I16 item r is = no_real r is
  real_pattern kinds.I32 item r is = no_real r is
  real_pattern kinds.I64 item r is = no_real r is
  real_pattern kinds.U8 item r is = no_real r is
  real_pattern kinds.U16 item r is = no_real r is
  real_pattern kinds.U32 item r is = no_real r is
  real_pattern kinds.U64 item r is = no_real r is
  real_pattern kinds.Text item r is = no_real r is

  real_given : (k : Kind) (slot : ℕ) (item : List ℕ) (r : Option real.Real) (e : StepEnd) → IsReal k item r → RealStored slot r e
      → GivesValue e
  real_given k slot item None e is h = rw h tt
  real_given k slot item (Some r) e is h = rw h (real_pattern k item r is)

  stored_given : (c : Conversion) (slot : ℕ) (shape : Shape) (item : List ℕ) (e : StepEnd) → Q item → ItemStored c slot shape item e
      → GivesValue e
  stored_given c slot (Int numeral) item e bytes (negative, m, number, h) = number_given c slot negative m (value_of c.kind negative m) e
      refl h
  stored_given c slot (Text lead) item e bytes h = rw h bytes
  stored_given c slot (Set members) item e bytes h = rw h bytes
  stored_given c slot Chars item e bytes h = rw h bytes
  stored_given c slot (Float lead) item e bytes (r, is, h) = real_given c.kind slot item r e is h
  stored_given c slot Count item e bytes h = rw h bytes

  passes_given : (c : Conversion) (slot : Option ℕ) (item : List ℕ) (e : StepEnd) → Q item → ItemPasses c slot item e → GivesValue e
  passes_given c None item e bytes h = rw h tt
  passes_given c (Some slot) item e bytes h = stored_given c slot c.shape item e bytes h

  empty_given : (optional : Bool) (x : List ℕ) (e : StepEnd) → EmptyItem optional x e → GivesValue e
  empty_given true x e h = rw h tt
  empty_given false [] e h = rw h tt
  empty_given false (b ∷ x) e h = rw h tt

  ends_given : (c : Conversion) (x : List ℕ) (j : ℕ) (e : StepEnd) → Q x → ItemEnds c x j e → GivesValue e
  ends_given c x zero e bytes h = empty_given c.optional x e h
  ends_given c x (suc j) e bytes (inl h) = passes_given c c.slot (take (suc j) x) e (to (suc j) x bytes) h.1
  ends_given c x (suc j) e bytes (inr h) = rw h.1 tt

  item_given : (c : Conversion) (x : List ℕ) (k : ℕ) (e : StepEnd) → Q x → ItemStep c x k e → GivesValue e
  item_given c x k e bytes (s, j, skip, item, length, ends) = ends_given c (drop s x) j e (from s x bytes) ends

  conversion_given : (c : Conversion) (shape : Shape) (x : List ℕ) (n k : ℕ) (e : StepEnd) → Q x → ConversionStep c shape x n k e
      → GivesValue e
  conversion_given c Count x n k e bytes h = count_given c c.slot n e h.1
  conversion_given c (Int numeral) x n k e bytes h = item_given c x k e bytes h
  conversion_given c (Text lead) x n k e bytes h = item_given c x k e bytes h
  conversion_given c (Set members) x n k e bytes h = item_given c x k e bytes h
  conversion_given c Chars x n k e bytes h = item_given c x k e bytes h
  conversion_given c (Float lead) x n k e bytes h = item_given c x k e bytes h

  -- the text of a column is a part of it
  text_part : (strict : Bool) (s t : List ℕ) → Q s → IsTextUnder strict s t → Q t
  text_part true s t bytes is = subst Q (sym is) bytes
  text_part false s t bytes is =
      subst Q (ap (λ y. take (length t) (drop (length is.before) y)) is.whole ∙ middle is.before t is.after)
      (to (length t) (drop (length is.before) s) (from (length is.before) s bytes))

  blank_given : (optional : Bool) (e : StepEnd) → BlankColumn optional e → GivesValue e
  blank_given true e h = rw h tt
  blank_given false e h = rw h tt

  text_given : (c : Conversion) (t : List ℕ) (e : StepEnd) → Q t → TextColumn c t e → GivesValue e
  text_given c t e bytes (inl h) = passes_given c c.slot t e bytes h.1
  text_given c t e bytes (inr h) = rw h.1 tt

  column_given : (c : Conversion) (x s : List ℕ) (e : StepEnd) → Q s → ColumnEnds c x s e → GivesValue e
  column_given c x [] e bytes h = empty_given c.optional x e h
  column_given c x (b ∷ s) e bytes (inl h) = blank_given c.optional e h.1
  column_given c x (b ∷ s) e bytes (inr (ink, (t, is, ends))) =
      text_given c t e (text_part (is_strict c.shape) (b ∷ s) t bytes is) ends

  given_by : (c : Conversion) (column : Bool) (x : List ℕ) (n k : ℕ) (e : StepEnd) → Q x → StepBy column c x n k e → GivesValue e
  given_by c true x n k e bytes h = column_given c x (take k x) e (to k x bytes) h.1
  given_by c false x n k e bytes h = conversion_given c c.shape x n k e bytes h

  byte_given : (b : ℕ) (x : List ℕ) (k : ℕ) (e : StepEnd) → ByteStep b x k e → GivesValue e
  byte_given b [] k e h = rw h.1 tt
  byte_given b (y ∷ x) k e (inl h) = rw h.2 tt
  byte_given b (y ∷ x) k e (inr h) = rw h.2 tt

  literal_given : (l : Literal) (x : List ℕ) (k : ℕ) (e : StepEnd) → LiteralStep l x k e → GivesValue e
  literal_given (literal.Byte b) x k e h = byte_given b x k e h
  literal_given literal.Percent x k e (s, j, skip, byte, length) = byte_given 37 (drop s x) j e byte

  missed_given : (e : StepEnd) → GivesValue e → GivesValue (missed e)
  missed_given Passes h = tt
  missed_given (Stores slot v) h = h
  missed_given Misses h = tt
  missed_given (Fails status) h = tt

  step_given : (d : Directive) (x : List ℕ) (n k : ℕ) (e : StepEnd) → Q x → Step d x n k e → GivesValue e
  step_given Space x n k e bytes h = rw h.1 tt
  step_given (Byte b) x n k e bytes h = byte_given b x k e h
  step_given Percent x n k e bytes (s, j, skip, byte, length) = byte_given 37 (drop s x) j e byte
  step_given (Conv c) x n k e bytes h = given_by c c.column x n k e bytes h
  step_given (Opens o) x n k e bytes (f, step, is) = rw is (missed_given f (literal_given o.literal x k f step))

  -- ---- what a run stores

  abbrev AreStoredSo : List Assigned → Type 0
  AreStoredSo vs = AllByRecursion (λ (a : Assigned). ValueBy a.datum) vs

  next_given : (d : Directive) (b : ℕ) (e : StepEnd) (ran : List Ran) (Rest : Type 0) → GivesValue e → GoesOn e Rest ran
      → (Rest → AreStoredSo (values_stored ran))
      → AreStoredSo (values_stored (record { directive = d; bytes = b; end = e } ∷ ran))
  next_given d b Passes ran Rest given goes rest = rest goes
  next_given d b (Stores s v) ran Rest given goes rest = (given, rest goes)
  next_given d b Misses ran Rest given goes rest = rest goes
  next_given d b (Fails status) ran Rest given goes rest = rw goes tt

  steps_given : (m : ℕ) (ds : List Directive) (x : List ℕ) (n : ℕ) (ran : List Ran) → Q x → StepsPast m ds x n ran
      → AreStoredSo (values_stored ran)
  steps_given m [] x n [] bytes steps = tt
  steps_given m [] x n (r ∷ ran) bytes steps = absurd steps
  steps_given m (d ∷ ds) x n [] bytes steps = absurd steps
  steps_given zero (d ∷ ds) x n (r ∷ ran) bytes steps =
      next_given r.directive r.bytes r.end ran (StepsPast (over d r.end) ds (drop r.bytes x) (n + r.bytes) ran)
      (step_given d x n r.bytes r.end bytes steps.1) steps.2
      (λ rest. steps_given (over d r.end) ds (drop r.bytes x) (n + r.bytes) ran (from r.bytes x bytes) rest)
  steps_given (suc m) (d ∷ ds) x n (r ∷ ran) bytes steps = rw steps.0 (steps_given m ds x n ran bytes steps.1)

  done_so : (ds : List Directive) (m : ℕ) (x : List ℕ) (ending : Ending) (report : RunReport) → Q x
      → RunTold ds m x ending report → report.status ≡ Done
      → AreStoredSo report.values
  done_so ds m x ending report bytes (inl (inl (few, (ran, steps, met, is_met, is)))) done =
      subst (λ (o : RunReport). AreStoredSo o.values) (sym is) (steps_given 0 ds x 0 ran bytes steps)
  done_so ds m x ending report bytes (inl (inr (before, cut, is))) done = let e : report.status ≡ TooLong =
      ap (λ (o : RunReport). o.status) is in absurd cc
  done_so ds m x ending report bytes (inr (k, low, (before, cut, stores, is))) done =
      let e : report.status ≡ NoMemory = ap (λ (o : RunReport). o.status) is in absurd cc

-- ---- what is stored

abbrev pub AreStored : List Assigned → Type 0
AreStored vs = AllByRecursion (λ (a : Assigned). IsValue a.datum) vs

value_is : (v : Datum) → ValueOf AreBytes v → IsValue v
value_is (Number kind n) h = h
value_is (Bytes text) h = h
value_is (Real r) h = h

stored_are : (vs : List Assigned) → AllByRecursion (λ (a : Assigned). ValueOf AreBytes a.datum) vs → AreStored vs
stored_are [] h = tt
stored_are (a ∷ vs) h = (value_is a.datum h.0, stored_are vs h.1)

pub done_given : (ds : List Directive) (m : ℕ) (x : List ℕ) (ending : Ending) (report : RunReport) → AreBytes x
    → RunTold ds m x ending report → report.status ≡ Done
    → AreStored report.values
done_given ds m x ending report bytes told done =
    stored_are report.values (done_so AreBytes bytes_from bytes_to ds m x ending report bytes told done)

-- of any input, what is stored can be read
abbrev AreReadable : List Assigned → Type 0
AreReadable vs = AllByRecursion (λ (a : Assigned). IsReadable a.datum) vs

readable_is : (v : Datum) → ValueOf (λ t. Unit {0}) v → IsReadable v
readable_is (Number kind n) h = tt
readable_is (Bytes text) h = tt
readable_is (Real r) h = h

readable_are : (vs : List Assigned) → AllByRecursion (λ (a : Assigned). ValueOf (λ t. Unit {0}) a.datum) vs → AreReadable vs
readable_are [] h = tt
readable_are (a ∷ vs) h = (readable_is a.datum h.0, readable_are vs h.1)

done_readable : (ds : List Directive) (m : ℕ) (x : List ℕ) (ending : Ending) (report : RunReport)
    → RunTold ds m x ending report → report.status ≡ Done → AreReadable report.values
done_readable ds m x ending report told done = readable_are report.values
    (done_so (λ t. Unit {0}) (λ n y h. tt) (λ n y h. tt) ds m x ending report tt told done)

found_among : (slot : ℕ) (vs : List Assigned) → AreReadable vs → IfSome (datum_at slot vs) IsReadable
found_among slot [] readable = tt
found_among slot (a ∷ vs) readable =
    by_test (nat_eq slot a.slot) (λ t. IfSome (option_map (λ (b : Assigned). b.datum)
    (cond t (Some a) (find (λ (b : Assigned). nat_eq slot b.slot) vs))) IsReadable)
    (λ same. readable.0) (λ other. found_among slot vs readable.1)

pub readable_at : (ds : List Directive) (m : ℕ) (x : List ℕ) (ending : Ending) (report : RunReport)
    → RunTold ds m x ending report → report.status ≡ Done → (slot : ℕ) → IfSome (datum_at slot report.values) IsReadable
readable_at ds m x ending report told done slot = found_among slot report.values (done_readable ds m x ending report told done)

-- what a slot was given is one of these
pub found_given : (slot : ℕ) (vs : List Assigned) (v : Datum) → AreStored vs → datum_at slot vs ≡ Some v → IsValue v
found_given slot [] v stored e = absurd cc
found_given slot (a ∷ vs) v stored e =
    by_test (nat_eq slot a.slot) (λ t. option_map (λ (b : Assigned). b.datum)
    (cond t (Some a) (find (λ (b : Assigned). nat_eq slot b.slot) vs)) ≡ Some v → IsValue v)
    (λ same first. let is : a.datum ≡ v = cc in subst IsValue is stored.0) (λ other later. found_given slot vs v stored.1 later) e
