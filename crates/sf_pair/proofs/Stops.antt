-- Where the walk over both formats stops, and which conversion is left unclosed there.
use Rattle.std.proofs.Common.{◌≡◌, ℕ, ◌+◌, Bool, true, false, cond, ◌&&◌, List, [], ◌∷◌, ◌++◌, length, Option, Some, None, Ok, Err}
use Rattle.std.proofs.Common.{is_some, refl}
use Rattle.std.proofs.Common.{sym, ap, subst, ◌∙◌, arith, true≢false}
use Rattle.std.specs.Prelude.{not}
use Rattle.std.specs.List.{list_any}
use Rattle.sf_format.specs.declared.directive.Conversion.{Conversion}
use Rattle.sf_format.specs.declared.directive.Directive.{Directive}
use Rattle.sf_format.specs.declared.unit.PrintConv.{PrintConv}
use Rattle.sf_format.specs.declared.unit.Unit.{Unit as PrintUnit}
use Rattle.sf_format.specs.declared.unit.Unit.TheVariants as unit
use Rattle.sf_format.specs.Units.{IsProperUnit, AreProperUnits, AreAccepted}
use Rattle.sf_format.specs.Proper.{IsSized, IsProper, AreProper, AreSized, IsAccepted}
use Rattle.sf_base.specs.Rules.{first_reason}
use Rattle.sf_pair.specs.declared.fault.PairWhy.{PairWhy}
use Rattle.sf_pair.specs.declared.fault.PairWhy.TheVariants as why
use Rattle.sf_pair.specs.declared.fault.PairFault.{PairFault}
use Rattle.sf_pair.specs.conversions.Neighbours.{Bytes as ByteTest, reads}
use Rattle.sf_pair.specs.Groups.{is_count, bad_mark, kinds_differ, numbers_differ, bad_flag, has_no_width, too_narrow, leading_zero, rule}
use Rattle.sf_pair.specs.Groups.{pairing_fault, closing_fault, IsGroup, suppressed_by, next_of, assigns}
use Rattle.sf_pair.specs.Walk.{Left, leaves, unless, take_literal, take_paired, take_conversion, take_group, fault, fault_after, fault_from}
use Rattle.sf_pair.specs.Walk.{values_fault, first_fault, pair_fault}
use Rattle.sf_pair.specs.Laws.{Leaves, StopsAt}
use Rattle.sf_pair.proofs.Cutting.{units_taken}
use Rattle.sf_pair.proofs.FitCut.{all_rest}

-- the reasons that are told of what follows a group
abbrev pub follows : PairWhy → Bool
follows why.OpenEnd = true
follows why.RunsOn = true
follows _ = false

no_other : (v w : PairWhy) → follows v ≡ false → follows w ≡ true → Some v ≡ Some w → ⊥
no_other v w other is e = let same : v ≡ w = cc in true≢false (sym is ∙ ap follows (sym same) ∙ other)

no_other_err : (v w : PairWhy) → follows v ≡ false → follows w ≡ true → ◌≡◌ {A = Left} (Err v) (Err w) → ⊥
no_other_err v w other is e = let same : v ≡ w = cc in true≢false (sym is ∙ ap follows (sym same) ∙ other)

-- ---- a conversion that is left unclosed

pub record Unclosed (s : Conversion) (us : List PrintUnit) (next : Option Directive) (w : PairWhy) : Type 0 where
  pub conversion : PrintConv
  pub rest : List PrintUnit
  pub units_are : us ≡ unit.Conv conversion ∷ rest
  pub assigned : is_some s.slot ≡ true
  pub pairing : pairing_fault conversion s ≡ None
  pub closing : closing_fault conversion s rest (reads next) ≡ Some w

module _ (w : PairWhy) (is : follows w ≡ true) where
  no_reason : (m a b c d e f : Bool) → first_reason (rule why.BadMark m ∷ rule why.KindDiffers a ∷ rule why.NumberDiffers b
      ∷ rule why.BadFlagHere c ∷ rule why.NoWidth d ∷ rule why.TooNarrow e ∷ rule why.LeadingZero f ∷ []) ≡ Some w → ⊥
  no_reason true a b c d e f h = no_other why.BadMark w refl is h
  no_reason false true b c d e f h = no_other why.KindDiffers w refl is h
  no_reason false false true c d e f h = no_other why.NumberDiffers w refl is h
  no_reason false false false true d e f h = no_other why.BadFlagHere w refl is h
  no_reason false false false false true e f h = no_other why.NoWidth w refl is h
  no_reason false false false false false true f h = no_other why.TooNarrow w refl is h
  no_reason false false false false false false true h = no_other why.LeadingZero w refl is h
  no_reason false false false false false false false h = cc

  pub literal_never : (wanted : ByteTest) (us : List PrintUnit) → take_literal wanted us ≡ Err w → ⊥
  literal_never wanted [] e = no_other_err why.NotAligned w refl is e
  literal_never wanted (unit.Conv c ∷ us) e = no_other_err why.NotAligned w refl is e
  literal_never wanted (unit.Byte b ∷ us) e = by (wanted b) e
    where
      by : (t : Bool) → cond t (Ok us) (Err why.NotAligned) ≡ Err w → ⊥
      by true e = cc
      by false e = no_other_err why.NotAligned w refl is e

  paired_unclosed : (s : Conversion) (us : List PrintUnit) (next : Option Directive) → is_some s.slot ≡ true
      → take_paired s us next ≡ Err w → Unclosed s us next w
  paired_unclosed s [] next assigned e = absurd (no_other_err why.NotAligned w refl is e)
  paired_unclosed s (unit.Byte b ∷ us) next assigned e = absurd (no_other_err why.NotAligned w refl is e)
  paired_unclosed s (unit.Conv c ∷ us) next assigned e = by (pairing_fault c s) (closing_fault c s us (reads next)) refl refl e
    where
      by : (o k : Option PairWhy) → pairing_fault c s ≡ o → closing_fault c s us (reads next) ≡ k → unless o (leaves k us) ≡ Err w
          → Unclosed s (unit.Conv c ∷ us) next w
      by (Some v) k pairing closing e =
          let same : v ≡ w = cc in
          absurd (no_reason (bad_mark c s) (kinds_differ c s) (numbers_differ c s) (not s.column && bad_flag c s)
          (not s.column && has_no_width s) (not s.column && too_narrow c s)
          (leading_zero c s) (pairing ∙ ap Some same))
      by None None pairing closing e = absurd cc
      by None (Some v) pairing closing e =
          let same : v ≡ w = cc in
          record { conversion = c; rest = us; units_are = refl; assigned = assigned; pairing = pairing; closing = closing ∙ ap Some same }

  pub unclosed : (s : Conversion) (us : List PrintUnit) (next : Option Directive) → take_conversion s us next ≡ Err w → Unclosed s us next w
  unclosed s us next e = by (is_count s.shape) s.optional (is_some s.slot) refl e
    where
      by : (count optional assigned : Bool) → is_some s.slot ≡ assigned → cond count (Err why.NotWritten) (cond optional
          (Err why.MayBeMissing) (cond assigned (take_paired s us next) (take_literal (suppressed_by s) us))) ≡ Err w
          → Unclosed s us next w
      by true optional assigned a e = absurd (no_other_err why.NotWritten w refl is e)
      by false true assigned a e = absurd (no_other_err why.MayBeMissing w refl is e)
      by false false false a e = absurd (literal_never (suppressed_by s) us e)
      by false false true a e = paired_unclosed s us next a e

-- ---- the walk

-- where a walk whose first directive has the number n stops by that fault, with what is known there
pub record StopsFrom (n : ℕ) (us : List PrintUnit) (ds : List Directive) (f : PairFault) : Type 0 where
  pub before : List Directive
  pub stopper : Directive
  pub after : List Directive
  pub left : List PrintUnit
  pub directives : ds ≡ before ++ stopper ∷ after
  pub taken : Leaves before (stopper ∷ after) us left
  pub place : f.at ≡ length before + n
  pub refused : take_group stopper left (next_of after) ≡ Err f.why
  pub proper : IsProper stopper
  pub sized : IsSized stopper
  pub units : AreProperUnits left

same_fault : (f g : PairFault) → Some g ≡ Some f → g ≡ f
same_fault f g e = cc

walked : (ds : List Directive) (n : ℕ) (us : List PrintUnit) → AreProper ds → AreSized ds → AreProperUnits us → (f : PairFault)
    → follows f.why ≡ true → fault_from n ds us ≡ Some f → StopsFrom n us ds f
walked [] n [] proper sized units f is e = absurd cc
walked [] n (u ∷ us) proper sized units f is e = absurd (no_other why.NotAligned f.why refl is
    (ap (λ (g : PairFault). Some g.why) (same_fault f (fault n why.NotAligned) e)))
walked (d ∷ ds) n us proper sized units f is e = by (take_group d us (next_of ds)) refl e (λ rest. walked ds (n + 1) rest proper.1 sized.1)
  where
    by : (left : Left) → take_group d us (next_of ds) ≡ left → fault_after (λ rest. fault_from (n + 1) ds rest) n left ≡ Some f
        → ((rest : List PrintUnit) → AreProperUnits rest → (f : PairFault) → follows f.why ≡ true → fault_from (n + 1) ds rest ≡ Some f
        → StopsFrom (n + 1) rest ds f) → StopsFrom n us (d ∷ ds) f
    by (Err w) taken e more =
        let same : fault n w ≡ f = same_fault f (fault n w) e in
        record {
          before = [];
          stopper = d;
          after = ds;
          left = us;
          directives = refl;
          taken = refl;
          place = (let at = ap (λ (g : PairFault). g.at) same in omega (arith, at));
          refused = taken ∙ ap (λ (g : PairFault). Err g.why) same;
          proper = proper.0;
          sized = sized.0;
          units = units;
        }
    by (Ok rest) taken e more =
        let t = units_taken d us rest (next_of ds) taken in
        let m = more rest (all_rest IsProperUnit t.0 rest (subst AreProperUnits t.1 units)) f is e in
        record {
          before = d ∷ m.before;
          stopper = m.stopper;
          after = m.after;
          left = m.left;
          directives = ap (λ (es : List Directive). d ∷ es) m.directives;
          taken = (t.0, rest, t.1, subst (λ (es : List Directive). IsGroup d t.0 rest (next_of es)) m.directives t.2, m.taken);
          place = omega (arith, m.place);
          refused = m.refused;
          proper = m.proper;
          sized = m.sized;
          units = m.units;
        }

-- a fault that is told of what follows is one that the walk stops by
pub stops_by : (us : List PrintUnit) (ds : List Directive) → AreAccepted us → IsAccepted ds → (f : PairFault) → follows f.why ≡ true
    → pair_fault us ds ≡ Some f → StopsFrom 1 us ds f
stops_by us ds accepted proper f is e = by (fault_from 1 ds us) refl e
  where
    no_values : (t : Bool) → cond t None (Some (fault 0 why.NoValues)) ≡ Some f → ⊥
    no_values true e = cc
    no_values false e = no_other why.NoValues f.why refl is (ap (λ (g : PairFault). Some g.why) (same_fault f (fault 0 why.NoValues) e))

    by : (o : Option PairFault) → fault_from 1 ds us ≡ o → first_fault o (values_fault ds) ≡ Some f → StopsFrom 1 us ds f
    by None w e = absurd (no_values (list_any assigns ds) e)
    by (Some g) w e = walked ds 1 us proper.proper proper.sized accepted.proper f is (w ∙ e)

pub stops_at : (us : List PrintUnit) (ds : List Directive) (f : PairFault) (m : StopsFrom 1 us ds f) → StopsAt us ds f.at m.stopper m.left
stops_at us ds f m = record { before = m.before; after = m.after; directives = m.directives; taken = m.taken; place = m.place }
