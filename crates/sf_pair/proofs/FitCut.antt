-- The cutting of a pair, with what each group's value owes.
use Rattle.std.proofs.Common.{◌≡◌, ℕ, ◌⊎◌, inl, inr, Bool, true, false, cond, ◌&&◌, List, [], ◌∷◌, ◌++◌, Option, Some, None, is_some, refl}
use Rattle.std.proofs.Common.{ap}
use Rattle.std.proofs.Common.{subst, arith}
use Rattle.std.proofs.lemmas.Bool.{eqb-true}
use Rattle.std.specs.Prelude.{not}
use Rattle.std.specs.List.{AllByRecursion, cons_option}
use Rattle.sf_base.specs.Data.{Datum}
use Rattle.sf_format.specs.declared.directive.Shape.{Shape}
use Rattle.sf_format.specs.declared.directive.Shape.TheVariants as shape
use Rattle.sf_format.specs.declared.directive.Conversion.{Conversion}
use Rattle.sf_format.specs.declared.directive.Directive.{Directive}
use Rattle.sf_format.specs.declared.directive.Directive.TheVariants as directive
use Rattle.sf_format.specs.declared.unit.PrintConv.{PrintConv}
use Rattle.sf_format.specs.declared.unit.Unit.{Unit as PrintUnit}
use Rattle.sf_format.specs.declared.unit.Unit.TheVariants as unit
use Rattle.sf_format.specs.Units.{IsProperConv, IsProperUnit, AreProperUnits}
use Rattle.sf_format.specs.Proper.{IsProperWidth, HasItsWidth, IsSized, AreSized, IsProper, AreProper}
use Rattle.sf_print.specs.Printed.{value_at, value_fault}
use Rattle.sf_report.specs.Machine.{shape_skips}
use Rattle.sf_pair.specs.conversions.Below.{LawsBelow}
use Rattle.sf_pair.specs.conversions.Neighbours.{only, no_byte, reads}
use Rattle.sf_pair.specs.Groups.{IsLiteral, AreSpace, IsSpaceRun, IsPaired, IsConversionGroup, IsGroup, AreCut, is_count, is_left_out}
use Rattle.sf_pair.specs.Groups.{is_width, members_of, suppressed_by, pairing_fault, closing_fault, next_of}
use Rattle.sf_pair.specs.Fits.{FitsBy, ValueFits, FitsAt, AllFit, conversions, assigned_by, assigned_conversions}
use Rattle.sf_pair.proofs.Paired.{or_none, and_both, alike, pairs, slot_is}
use Rattle.sf_pair.proofs.Back.{Back}
use Rattle.sf_pair.proofs.Suits.{fits_unfaulted}
use Rattle.sf_pair.proofs.Taken.{Takes}
use Rattle.sf_pair.proofs.TakenTexts.{chars_takes, set_takes}
use Rattle.sf_pair.proofs.ReadBack.{reads_back}
use Rattle.sf_pair.proofs.ReadColumns.{column_reads_back}

-- a conversion that is read back
pub record PairedReads (values : List Datum) (s : Conversion) (group rest : List PrintUnit) (next : Option Directive) : Type 0 where
  pub conversion : PrintConv
  pub group_is : group ≡ unit.Conv conversion ∷ []
  pub value : Datum
  pub at : value_at values conversion.slot ≡ Some value
  pub slot : s.slot ≡ Some conversion.slot
  pub back : Back s.column conversion s value
  pub good : value_fault conversion value ≡ None
  pub closed : closing_fault conversion s rest (reads next) ≡ None
  pub no_count : is_count s.shape ≡ false

-- a literal that a suppressed conversion takes
pub record LiteralReads (s : Conversion) (group : List PrintUnit) : Type 0 where
  pub byte : ℕ
  pub group_is : group ≡ unit.Byte byte ∷ []
  pub slot : s.slot ≡ None
  pub item : s.column ≡ false
  pub takes : (rest : List ℕ) → Takes s (byte ∷ []) rest
  pub skips_none : shape_skips s.shape ≡ false
  pub no_count : is_count s.shape ≡ false

abbrev pub GroupReads : List Datum → Directive → List PrintUnit → List PrintUnit → Option Directive → Type 0
GroupReads values directive.Space group rest next = IsSpaceRun group rest next
GroupReads values (directive.Byte b) group rest next = IsLiteral (only b) group
GroupReads values directive.Percent group rest next = IsLiteral (only 37) group
GroupReads values (directive.Conv s) group rest next = PairedReads values s group rest next ⊎ LiteralReads s group
GroupReads values (directive.Opens o) group rest next = ⊥

abbrev pub FitCut : List Datum → List Directive → List PrintUnit → Type 0
FitCut values [] us = us ≡ []
FitCut values (d ∷ ds) us = (group : List PrintUnit) × (rest : List PrintUnit) × (us ≡ group ++ rest)
    × GroupReads values d group rest (next_of ds) × FitCut values ds rest

-- ---- lists of units

pub all_rest : (P : PrintUnit → Type 0) (xs ys : List PrintUnit) → AllByRecursion P (xs ++ ys) → AllByRecursion P ys
all_rest P [] ys h = h
all_rest P (x ∷ xs) ys h = all_rest P xs ys h.1

pub space_prints_none : (group rest : List PrintUnit) → AreSpace group → conversions (group ++ rest) ≡ conversions rest
space_prints_none [] rest h = refl
space_prints_none (unit.Byte b ∷ us) rest h = space_prints_none us rest h.1
space_prints_none (unit.Conv c ∷ us) rest h = absurd h

-- ---- suppressed conversions of one byte

width_one : (o : Option ℕ) → is_width 1 o ≡ true → o ≡ Some 1
width_one None e = absurd cc
width_one (Some w) e = ap Some (eqb-true w 1 e)

no_slot : (o : Option ℕ) → is_some o ≡ false → o ≡ None
no_slot None e = refl
no_slot (Some k) e = absurd cc

suppressed_reads : (s : Conversion) (group : List PrintUnit) → is_some s.slot ≡ false → IsLiteral (suppressed_by s) group
    → LiteralReads s group
suppressed_reads s group slot (b, group_is, wanted) = by (not s.column && is_width 1 s.width) refl wanted
  where
    no_column : (t : Bool) → not t ≡ true → t ≡ false
    no_column true e = absurd cc
    no_column false e = refl

    members : (h : Shape) → s.shape ≡ h → s.column ≡ false → s.width ≡ Some 1 → members_of h b ≡ true → LiteralReads s group
    members shape.Chars e item w m = record {
      byte = b;
      group_is = group_is;
      slot = no_slot s.slot slot;
      item = item;
      takes = λ rest. chars_takes s 1 (b ∷ []) rest e w (omega arith) refl;
      skips_none = ap shape_skips e;
      no_count = ap is_count e;
    }
    members (shape.Set set) e item w m = record {
      byte = b;
      group_is = group_is;
      slot = no_slot s.slot slot;
      item = item;
      takes = λ rest. set_takes s set 1 (b ∷ []) rest e w (omega arith) (m, tt) (omega arith) (inl refl);
      skips_none = ap shape_skips e;
      no_count = ap is_count e;
    }
    members _ e item w m = absurd cc

    by : (t : Bool) → (not s.column && is_width 1 s.width) ≡ t → cond t (members_of s.shape) no_byte b ≡ true → LiteralReads s group
    by true e m =
        let both = and_both (not s.column) (is_width 1 s.width) e in
        members s.shape refl (no_column s.column both.0) (width_one s.width both.1) m
    by false e m = absurd cc

-- ---- the whole

module _ (laws : LawsBelow) (values : List Datum) where
  -- what is left of the values, after a group without a conversion and a directive that assigns none
  none_taken : (d : Directive) (ds : List Directive) (us rest : List PrintUnit) → conversions us ≡ conversions rest → assigned_by d ≡ None
      → AllFit values (conversions us) (assigned_conversions (d ∷ ds)) → AllFit values (conversions rest) (assigned_conversions ds)
  none_taken d ds us rest e none h =
      let F : Option Conversion → Type 0 = λ o. AllFit values (conversions rest) (cons_option o (assigned_conversions ds)) in
      let G : List PrintConv → Type 0 = λ cs. AllFit values cs (assigned_conversions (d ∷ ds)) in
      subst F none (subst G e h)

  literal_none : (d : Directive) (ds : List Directive) (group rest : List PrintUnit) (b : ℕ) → group ≡ unit.Byte b ∷ []
      → assigned_by d ≡ None
      → AllFit values (conversions (group ++ rest)) (assigned_conversions (d ∷ ds))
      → AllFit values (conversions rest) (assigned_conversions ds)
  literal_none d ds group rest b e none h = none_taken d ds (group ++ rest) rest
      (ap (λ (g : List PrintUnit). conversions (g ++ rest)) e) none h

  assigned_so : (s : Conversion) (o : Option ℕ) → is_some o ≡ true
      → ◌≡◌ {A = Option Conversion} (elim o [ None ↦ None | Some slot ↦ Some s ]) (Some s)
  assigned_so s None e = absurd cc
  assigned_so s (Some k) e = refl

  unassigned_so : (s : Conversion) (o : Option ℕ) → o ≡ None → ◌≡◌ {A = Option Conversion}
      (elim o [ None ↦ None | Some slot ↦ Some s ]) None
  unassigned_so s None e = refl
  unassigned_so s (Some k) e = absurd cc

  back : (c : PrintConv) (s : Conversion) (v : Datum) → IsProperConv c → IsProperWidth s.width → HasItsWidth s.shape s.width
      → is_some s.slot ≡ true → pairing_fault c s ≡ None → ValueFits c s v → Back s.column c s v
  back c s v proper width sized assigned pairing fits = by s.column refl fits
    where
      by : (t : Bool) → s.column ≡ t → FitsBy t c s v → Back t c s v
      by true column h = column_reads_back laws c s v proper width (alike c s pairing) column assigned h
      by false item h = reads_back laws c s v proper width sized (pairs c s item pairing) assigned h

  paired_reads : (s : Conversion) (ds : List Directive) (group rest : List PrintUnit) → is_some s.slot ≡ true → is_count s.shape ≡ false
      → IsPaired s group rest (next_of ds) → AreProperUnits (group ++ rest)
      → IsProperWidth s.width → HasItsWidth s.shape s.width → AllFit values (conversions (group ++ rest))
      (assigned_conversions (directive.Conv s ∷ ds))
      → PairedReads values s group rest (next_of ds) × AllFit values (conversions rest) (assigned_conversions ds)
  paired_reads s ds group rest assigned no_count (c, group_is, pairing, closing) units width sized fit =
      let F : Option Conversion → Type 0 = λ o. AllFit values (c ∷ conversions rest) (cons_option o (assigned_conversions ds)) in
      let G : List PrintUnit → Type 0 = λ g. AllFit values (conversions (g ++ rest)) (assigned_conversions (directive.Conv s ∷ ds)) in
      let H : List PrintUnit → Type 0 = λ g. AreProperUnits (g ++ rest) in
      let all : FitsAt values c s × AllFit values (conversions rest) (assigned_conversions ds) =
      subst F (assigned_so s s.slot assigned) (subst G group_is fit) in
      let proper : IsProperConv c × AreProperUnits rest = subst H group_is units in
      let p = alike c s pairing in (
        record {
          conversion = c;
          group_is = group_is;
          value = all.0.0;
          at = all.0.1;
          slot = slot_is c s p assigned;
          good = fits_unfaulted c s all.0.0 proper.0 pairing all.0.2;
          back = back c s all.0.0 proper.0 width sized assigned pairing all.0.2;
          closed = closing;
          no_count = no_count;
        },
        all.1,
      )

  group_reads : (d : Directive) (ds : List Directive) (group rest : List PrintUnit) → IsProper d → IsSized d
      → AreProperUnits (group ++ rest) → IsGroup d group rest (next_of ds)
      → AllFit values (conversions (group ++ rest)) (assigned_conversions (d ∷ ds))
      → GroupReads values d group rest (next_of ds) × AllFit values (conversions rest) (assigned_conversions ds)
  group_reads directive.Space ds group rest proper sized units is fit =
      (is, none_taken directive.Space ds (group ++ rest) rest (space_prints_none group rest is.1) refl fit)
  group_reads (directive.Byte b) ds group rest proper sized units is fit =
      (is, literal_none (directive.Byte b) ds group rest is.0 is.1 refl fit)
  group_reads directive.Percent ds group rest proper sized units is fit =
      (is, literal_none directive.Percent ds group rest is.0 is.1 refl fit)
  group_reads (directive.Opens o) ds group rest proper sized units is fit = absurd is
  group_reads (directive.Conv s) ds group rest proper sized units is fit = by (is_left_out s) (is_some s.slot) refl refl is
    where
      by : (out assigned : Bool) → is_left_out s ≡ out → is_some s.slot ≡ assigned
          → IsConversionGroup out assigned s group rest (next_of ds)
          → GroupReads values (directive.Conv s) group rest (next_of ds) × AllFit values (conversions rest) (assigned_conversions ds)
      by true assigned c a h = absurd h
      by false true c a h =
          let no_count = (or_none (is_count s.shape) s.optional c).0 in
          let r = paired_reads s ds group rest a no_count h units proper.1 sized fit in (inl r.0, r.1)
      by false false c a h = let r = suppressed_reads s group a h in
          (inr r, literal_none (directive.Conv s) ds group rest r.byte r.group_is (unassigned_so s s.slot r.slot) fit)

  pub fit_cut : (ds : List Directive) (us : List PrintUnit) → AreProper ds → AreSized ds → AreProperUnits us → AreCut ds us
      → AllFit values (conversions us) (assigned_conversions ds) → FitCut values ds us
  fit_cut [] us proper sized units cut fit = cut
  fit_cut (d ∷ ds) us proper sized units (group, rest, parts, is, more) fit =
      let P : List PrintUnit → Type 0 = λ us. AreProperUnits us in
      let F : List PrintUnit → Type 0 = λ us. AllFit values (conversions us) (assigned_conversions (d ∷ ds)) in
      let g = group_reads d ds group rest proper.0 sized.0 (subst P parts units) is (subst F parts fit) in
      (group, rest, parts, g.0, fit_cut ds rest proper.1 sized.1 (all_rest IsProperUnit group rest (subst P parts units)) more g.1)
