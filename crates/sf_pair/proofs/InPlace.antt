-- Texts of values that fit, written in place.
use Rattle.std.proofs.Common.{◌≡◌, ℕ, ◌+◌, ◌-◌, ◌<◌, ◌≤◌, Bool, true, false, ◌&&◌, List, [], ◌∷◌, ◌++◌, length, take, drop, get_or, is_some}
use Rattle.std.proofs.Common.{nat_eq, Option, Some, None, IfSome, subst, refl, sym, ap, ◌∙◌, arith}
use Rattle.std.proofs.lemmas.List.{drop-take, length-take-le}
use Rattle.std.proofs.lemmas.List.Folds.{length-flat_map-take}
use Rattle.std.proofs.Math.Seq.{drop-append_seam}
use Rattle.std.specs.Prelude.{MatchOption}
use Rattle.std.specs.List.{slice_range}
use Rattle.sf_base.specs.Data.{Datum}
use Rattle.sf_format.specs.declared.directive.Conversion.{Conversion}
use Rattle.sf_format.specs.declared.directive.Directive.{Directive}
use Rattle.sf_format.specs.declared.unit.PrintConv.{PrintConv}
use Rattle.sf_format.specs.declared.unit.Unit.{Unit as PrintUnit}
use Rattle.sf_format.specs.declared.unit.Unit.TheVariants as unit
use Rattle.sf_format.specs.Units.{values_of}
use Rattle.sf_print.specs.Printed.{printed, unit_text, value_at}
use Rattle.sf_print.proofs.InPlace.{ends_at}
use Rattle.sf_pair.specs.conversions.Below.{LawsBelow}
use Rattle.sf_pair.specs.Fits.{Fit, conversions, assigned_conversions, fits_or_not, all_fit}
use Rattle.sf_pair.specs.Formats.{Formats}
use Rattle.sf_pair.proofs.Walking.{drop_next}
use Rattle.sf_pair.proofs.FitTests.{fits_is_fit, fits_when}
use Rattle.sf_pair.proofs.Paired.{and_both}

-- the part of a buffer that was written last
pub written_part : (buf new text : List ℕ) (at end : ℕ) → at ≤ length buf → end ≤ length new → take end new ≡ take at buf ++ text
    → slice_range new at end ≡ text
written_part buf new text at end start within written =
    let place : end ≡ at + length text = ends_at buf new text at end start within written in
    let back : at + (end - at) ≡ end = omega arith in
    let long : at ≡ length (take at buf) = sym (length-take-le at buf start) in
    sym (drop-take at (end - at) new) ∙ ap (λ (k : ℕ). drop at (take k new)) back ∙ ap (drop at) written
    ∙ ap (λ (k : ℕ). drop k (take at buf ++ text)) long ∙ drop-append_seam (take at buf) text

-- ---- the next conversions

pub byte_next : (us : List PrintUnit) (i b : ℕ) → i < length us → get_or us i (unit.Byte 0) ≡ unit.Byte b
    → conversions (drop i us) ≡ conversions (drop (i + 1) us)
byte_next us i b h is = ap conversions (drop_next us i (unit.Byte 0) h ∙ ap (λ (u : PrintUnit). u ∷ drop (i + 1) us) is)

pub conversion_next : (us : List PrintUnit) (i : ℕ) (c : PrintConv) → i < length us → get_or us i (unit.Byte 0) ≡ unit.Conv c
    → conversions (drop i us) ≡ c ∷ conversions (drop (i + 1) us)
conversion_next us i c h is = ap conversions (drop_next us i (unit.Byte 0) h ∙ ap (λ (u : PrintUnit). u ∷ drop (i + 1) us) is)

-- ---- whether all fit

pub one_fits_of : (values : List Datum) (cs more : List PrintConv) (ss left : List Conversion) (c : PrintConv) (s : Conversion)
    → cs ≡ c ∷ more → ss ≡ s ∷ left → fits_or_not c s (value_at values c.slot) ≡ true → all_fit values cs ss ≡ all_fit values more left
one_fits_of values cs more ss left c s e f h = (λ i. all_fit values (e i) (f i)) ∙ ap (λ (t : Bool). t && all_fit values more left) h

pub none_left_of : {A : Type 0} (o : Option A) (P : A → Type 0) (values : List Datum) (cs : List PrintConv) (ss : List Conversion)
    → is_some o ≡ false → MatchOption o (ss ≡ []) P → cs ≡ [] → all_fit values cs ss ≡ true
none_left_of None P values cs ss e none f = λ i. all_fit values (f i) (none i)
none_left_of (Some x) P values cs ss e none f = absurd cc

pub some_left_of : {A : Type 0} (o : Option A) (P : A → Type 0) (values : List Datum) (cs : List PrintConv) (ss : List Conversion)
    → is_some o ≡ true → MatchOption o (ss ≡ []) P
    → ((x : A) → P x → (s : Conversion) × (rest : List Conversion) × (ss ≡ s ∷ rest)) → cs ≡ [] → all_fit values cs ss ≡ true
    → false ≡ true
some_left_of None P values cs ss e m some f fit = absurd cc
some_left_of (Some x) P values cs ss e m some f fit =
    let (s, rest, is) = some x m in
    let lacks : all_fit values cs ss ≡ false = (λ i. all_fit values (f i) (is i)) in
    sym lacks ∙ fit

pub first_fits : (values : List Datum) (cs more : List PrintConv) (ss left : List Conversion) (c : PrintConv) (s : Conversion)
    → cs ≡ c ∷ more → ss ≡ s ∷ left → all_fit values cs ss ≡ true → fits_or_not c s (value_at values c.slot) ≡ true
first_fits values cs more ss left c s e f fit =
    let both : (fits_or_not c s (value_at values c.slot) && all_fit values more left) ≡ true =
    sym (λ i. all_fit values (e i) (f i)) ∙ fit in
    (and_both (fits_or_not c s (value_at values c.slot)) (all_fit values more left) both).0

-- what is left has room where all has
pub room_at : (values : List Datum) (units : List PrintUnit) (i end : ℕ) (buf : List ℕ) → i < length units → end ≤ length buf
    → take end buf ≡ printed (take i units) values → length (printed units values) + 21 ≤ length buf
    → end + length (unit_text values (get_or units i (unit.Byte 0))) + 21 ≤ length buf
room_at values units i end buf below within written room = omega (
  arith,
  room,
  ap length written,
  length-take-le end buf within,
  length-flat_map-take (unit_text values) units i (unit.Byte 0) below,
)

-- ---- as the contract of a pair sees it

pub pair_fits : LawsBelow → (us : List PrintUnit) (ds : List Directive) (f : Formats) (values : List Datum) (r : Option ℕ)
    → record { print = us; scan = ds } ≡ f → length values ≡ length (values_of us)
    → IfSome r (λ _. all_fit values (conversions us) (assigned_conversions ds) ≡ true) → IfSome r (λ _. Fit f.print f.scan values)
pair_fits laws us ds f values None same count h = tt
pair_fits laws us ds f values (Some end) same count h = (fits_when laws us ds f values true same count (sym h)).0 refl

pub pair_written : (us : List PrintUnit) (ds : List Directive) (f : Formats) (values : List Datum) (r : Option ℕ) (buf : List ℕ)
    → record { print = us; scan = ds } ≡ f → IfSome r (λ end. take end buf ≡ printed us values)
    → IfSome r (λ end. take end buf ≡ printed f.print values)
pair_written us ds f values r buf same h =
    subst (λ (f : Formats). IfSome r (λ end. take end buf ≡ printed f.print values)) same h

pub pair_all_fit : LawsBelow → (us : List PrintUnit) (ds : List Directive) (f : Formats) (values : List Datum)
    → record { print = us; scan = ds } ≡ f
    → Fit f.print f.scan values → all_fit values (conversions us) (assigned_conversions ds) ≡ true
pair_all_fit laws us ds f values same fit =
    let inside : Fit us ds values = subst (λ (f : Formats). Fit f.print f.scan values) (sym same) fit in
    (and_both (nat_eq (length values) (length (values_of us))) (all_fit values (conversions us) (assigned_conversions ds))
    ((fits_is_fit laws us ds values).1 inside)).1

pub pair_room : (us : List PrintUnit) (ds : List Directive) (f : Formats) (values : List Datum) (n : ℕ)
    → record { print = us; scan = ds } ≡ f → length (printed f.print values) + 21 ≤ n → length (printed us values) + 21 ≤ n
pair_room us ds f values n same room = omega (arith, room, ap (λ (f : Formats). length (printed f.print values)) same)
