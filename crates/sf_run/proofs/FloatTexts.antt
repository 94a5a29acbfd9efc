-- The texts that floats are read of, and the floats that are read.
use Rattle.std.proofs.Common.{◌≡◌, ℕ, ◌+◌, Bool, true, false, cond, ◌&&◌, List, [], ◌∷◌, ◌++◌, length, Option, Some, None, is_some}
use Rattle.std.proofs.Common.{option_map, refl, sym, ap, subst, ◌∙◌, arith, true≢false, length-append}
use Rattle.std.specs.Float.Ieee.{Format, binary32, binary64}
use Rattle.std.proofs.lemmas.Bool.Decides.{nat_tests}
use Rattle.sf_base.specs.Bytes.{is_white}
use Rattle.sf_base.specs.declared.real.Real.TheVariants as reals
use Rattle.sf_base.specs.declared.values.Kind.{Kind}
use Rattle.sf_base.specs.declared.values.Kind.TheVariants as kinds
use Rattle.sf_float_read.specs.declared.item.reached.Forms.{Forms}
use Rattle.sf_float_read.specs.declared.item.reached.Forms.TheVariants.{All}
use Rattle.sf_float_read.specs.declared.item.reached.Reached.{Reached}
use Rattle.sf_float_read.specs.item.Decimals.{IsDecimal}
use Rattle.sf_float_read.specs.item.Sequences.{IsFloat}
use Rattle.sf_float_read.specs.item.Tests.{next, read, start_of, is_float, begins_float_of}
use Rattle.sf_float_read.proofs.ItemLemmas.Decimals.{decimal_float}
use Rattle.sf_float_read.proofs.ItemLemmas.Deciding.{float_decided, read_more, read_nothing}
use Rattle.sf_float_read.specs.value.Computed.{stored_in}
use Rattle.sf_float_read.specs.value.Values.{IsStored}
use Rattle.sf_float_read.proofs.ValueLemmas.StoredComputed.{stored_is_computed}
use Rattle.sf_format.specs.declared.directive.Conversion.{Conversion}
use Rattle.sf_format.specs.declared.directive.Lead.{Lead}
use Rattle.sf_format.specs.declared.directive.Shape.TheVariants.{Float}
use Rattle.sf_item.specs.declared.item.ItemScan.{ItemScan}
use Rattle.sf_item.specs.declared.reading.Reading.{Reading}
use Rattle.sf_item.specs.declared.reading.Reading.TheVariants as reading
use Rattle.sf_item.specs.Matching.{forms_of}
use Rattle.sf_item.specs.Scan.{HasLeft, HasRead, most_bytes, shape_of}
use Rattle.sf_item.specs.Taking.{HasTaken, conversion_of}
use Rattle.sf_item.specs.Tests.{can_take, is_within, shape_begins}
use Rattle.sf_report.specs.Machine.{real_at, real_in}

-- ---- no white space is read

pub white_is : (P : ℕ → Type 0) (b : ℕ) → P 9 → P 10 → P 11 → P 12 → P 13 → P 32 → is_white b ≡ true → P b
white_is P b p9 p10 p11 p12 p13 p32 white = grind (arith, nat_tests)

pub next_white : (r : Reached) (b : ℕ) → is_white b ≡ true → is_some (next r b) ≡ false
next_white r b white = white_is (λ n. is_some (next r n) ≡ false) b (tab r) (newline r) (vertical r) (feed r) (back r) (blank r) white
  where
    tab : (r : Reached) → is_some (next r 9) ≡ false
    tab r = grind arith

    newline : (r : Reached) → is_some (next r 10) ≡ false
    newline r = grind arith

    vertical : (r : Reached) → is_some (next r 11) ≡ false
    vertical r = grind arith

    feed : (r : Reached) → is_some (next r 12) ≡ false
    feed r = grind arith

    back : (r : Reached) → is_some (next r 13) ≡ false
    back r = grind arith

    blank : (r : Reached) → is_some (next r 32) ≡ false
    blank r = grind arith

pub float_ink : (forms : Forms) (f : List ℕ) (b : ℕ) → begins_float_of forms (f ++ b ∷ []) ≡ true → is_white b ≡ false
float_ink forms f b h = by (is_white b) refl
  where
    last : (o : Option Reached) → is_some (read o (b ∷ [])) ≡ true → is_white b ≡ true → ⊥
    last None e white = true≢false (sym e)
    last (Some r) e white = true≢false (sym e ∙ ap is_some (read_nothing (next r b)) ∙ next_white r b white)

    by : (v : Bool) → is_white b ≡ v → v ≡ false
    by false e = refl
    by true e = absurd (last (read (Some (start_of forms)) f) (ap is_some (sym (read_more (Some (start_of forms)) f (b ∷ []))) ∙ h) e)

-- ---- what a scan has taken says what it takes next

same_lead : (own lead : Lead) → Float own ≡ Float lead → own ≡ lead
same_lead own lead e = cc

read_alike : (reading : Reading) (lead : Lead) (f g : List ℕ) (b : ℕ) → shape_of reading ≡ Float lead → HasRead reading f
    → HasRead reading g → begins_float_of (forms_of lead) (f ++ b ∷ []) ≡ begins_float_of (forms_of lead) (g ++ b ∷ [])
read_alike (reading.Integer numeral reached) lead f g b is h k = absurd cc
read_alike (reading.Text own) lead f g b is h k = absurd cc
read_alike (reading.Set members) lead f g b is h k = absurd cc
read_alike reading.Chars lead f g b is h k = absurd cc
read_alike (reading.Float own scan) lead f g b is h k =
    let start : Reached = start_of (forms_of own) in
    subst (λ l. begins_float_of (forms_of l) (f ++ b ∷ []) ≡ begins_float_of (forms_of l) (g ++ b ∷ [])) (same_lead own lead is)
    (ap is_some (read_more (Some start) f (b ∷ []) ∙ ap (λ o. read o (b ∷ [])) (h ∙ sym k) ∙ sym (read_more (Some start) g (b ∷ []))))

within_alike : (width left : Option ℕ) (n m : ℕ) → HasLeft width left n → HasLeft width left m
    → is_within width (n + 1) ≡ is_within width (m + 1)
within_alike width left n m h k = grind arith

-- after both of two items that one scan of a float may have taken, the same bytes are taken
pub float_alike : (scan : ItemScan) (lead : Lead) (f g : List ℕ) (b : ℕ) → (conversion_of scan).shape ≡ Float lead → HasTaken scan f
    → HasTaken scan g → can_take (conversion_of scan) (f ++ b ∷ []) ≡ can_take (conversion_of scan) (g ++ b ∷ [])
float_alike scan lead f g b is h k =
    let c : Conversion = conversion_of scan in
    let left : HasLeft c.width scan.left (length f) = subst (λ s. HasLeft (most_bytes s c.width) scan.left (length f)) is h.left in
    let same : HasLeft c.width scan.left (length g) = subst (λ s. HasLeft (most_bytes s c.width) scan.left (length g)) is k.left in
    let within : is_within c.width (length (f ++ b ∷ [])) ≡ is_within c.width (length (g ++ b ∷ [])) =
    ap (is_within c.width) (length-append f (b ∷ [])) ∙ within_alike c.width scan.left (length f) (length g) left same
    ∙ ap (is_within c.width) (sym (length-append g (b ∷ []))) in
    ap (λ v. v && shape_begins c.shape c.width (f ++ b ∷ [])) within
    ∙ ap (λ s. is_within c.width (length (g ++ b ∷ [])) && shape_begins s c.width (f ++ b ∷ [])) is
    ∙ ap (λ v. is_within c.width (length (g ++ b ∷ [])) && v) (read_alike scan.reading lead f g b (h.shape ∙ is) h.read k.read)
    ∙ ap (λ s. is_within c.width (length (g ++ b ∷ [])) && shape_begins s c.width (g ++ b ∷ [])) (sym is)

-- ---- the float that is read

-- what is stored of a matching sequence is what the function computes
pub stored_is : (format : Format) (item : List ℕ) (bits : Option ℕ) → IsStored format item bits → bits ≡ stored_in format item
stored_is format item bits h = ((stored_is_computed format item).1 bits h).1

-- the test, by what it tests
pub float_test : (item : List ℕ) (test : Bool) → (test ≡ true → IsFloat item) → (IsFloat item → test ≡ true) → is_float item ≡ test
float_test item true to from = (float_decided All item).1 (to refl)
float_test item false to from = by (is_float item) refl
  where
    by : (v : Bool) → is_float item ≡ v → v ≡ false
    by false e = refl
    by true e = absurd (true≢false (sym (from ((float_decided All item).0 e))))

pub no_float : (kind : Kind) (item : List ℕ) → is_float item ≡ false → None ≡ real_at kind item
no_float kind item e = ap (λ v. cond v (real_in kind item) None) (sym e)

pub float_in : (kind : Kind) (item : List ℕ) → is_float item ≡ true → real_in kind item ≡ real_at kind item
float_in kind item e = ap (λ v. cond v (real_in kind item) None) (sym e)

pub read_f32 : (kind : Kind) (item : List ℕ) (bits : Option ℕ) → kind ≡ kinds.F32 → is_float item ≡ true → IsStored binary32 item bits
    → option_map reals.F32 bits ≡ real_at kind item
read_f32 kind item bits own is h = ap (option_map reals.F32) (stored_is binary32 item bits h) ∙ ap (λ k. real_in k item) (sym own)
    ∙ float_in kind item is

pub read_f64 : (kind : Kind) (item : List ℕ) (bits : Option ℕ) → kind ≡ kinds.F64 → is_float item ≡ true → IsStored binary64 item bits
    → option_map reals.F64 bits ≡ real_at kind item
read_f64 kind item bits own is h = ap (option_map reals.F64) (stored_is binary64 item bits h) ∙ ap (λ k. real_in k item) (sym own)
    ∙ float_in kind item is

pub no_real : (kind : Kind) (item : List ℕ) → (kind ≡ kinds.F32 → ⊥) → (kind ≡ kinds.F64 → ⊥) → None ≡ real_at kind item
no_real kind item no32 no64 = by (is_float item) kind refl
  where
    by : (v : Bool) (k : Kind) → kind ≡ k → None ≡ cond v (real_in kind item) None
    by false k e = refl
    by true kinds.F32 e = absurd (no32 e)
    by true kinds.F64 e = absurd (no64 e)
    by true k e = grind arith

-- a decimal numeral is a matching sequence
pub decimal_test : (item : List ℕ) (negative : Bool) (digits places : ℕ) → IsDecimal item negative digits places → is_float item ≡ true
decimal_test item negative digits places is = (float_decided All item).1 (decimal_float item negative digits places is)
