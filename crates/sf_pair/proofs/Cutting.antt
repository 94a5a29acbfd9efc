-- The walk over both lists finds no fault exactly where the units can be cut into groups.
use Rattle.std.proofs.Common.{◌≡◌, ◌≢◌, ℕ, ◌+◌, Bool, true, false, cond, ◌||◌, List, [], ◌∷◌, ◌++◌, Option, Some, None, Ok, Err, refl, sym}
use Rattle.std.proofs.Common.{ap, subst, ◌∙◌}
use Rattle.std.specs.Prelude.{is_some}
use Rattle.std.specs.List.{list_any}
use Rattle.sf_base.specs.Bytes.{is_white}
use Rattle.sf_format.specs.declared.unit.Unit.{Unit as PrintUnit}
use Rattle.sf_format.specs.declared.unit.Unit.TheVariants as unit
use Rattle.sf_format.specs.declared.directive.Conversion.{Conversion}
use Rattle.sf_format.specs.declared.directive.Directive.{Directive}
use Rattle.sf_format.specs.declared.directive.Directive.TheVariants as directive
use Rattle.sf_pair.specs.declared.fault.PairWhy.{PairWhy}
use Rattle.sf_pair.specs.declared.fault.PairWhy.TheVariants as why
use Rattle.sf_pair.specs.declared.fault.PairFault.{PairFault}
use Rattle.sf_pair.specs.conversions.Neighbours.{Bytes, only, reads}
use Rattle.sf_pair.specs.Groups.{starts_with_space, space_fault, suppressed_by, pairing_fault, closing_fault, is_count, is_left_out}
use Rattle.sf_pair.specs.Groups.{next_of, assigns, IsLiteral, AreSpace, IsSpaceRun, IsPaired, IsConversionGroup, IsGroup, AreCut}
use Rattle.sf_pair.specs.Walk.{Left, leaves, unless, take_literal, after_space, take_space, take_paired, take_conversion, take_group, fault}
use Rattle.sf_pair.specs.Walk.{ending_fault, fault_after, fault_from, values_fault, first_fault, AlignedIsAccepted}

-- some front of the units is the directive's group
abbrev Takes : Directive → List PrintUnit → List PrintUnit → Option Directive → Type 0
Takes d us rest next = (group : List PrintUnit) × (us ≡ group ++ rest) × IsGroup d group rest next

-- ---- the walk takes a group

literal_taken : (wanted : Bytes) (us rest : List PrintUnit) → take_literal wanted us ≡ Ok rest
    → (group : List PrintUnit) × (us ≡ group ++ rest) × IsLiteral wanted group
literal_taken wanted [] rest e = absurd cc
literal_taken wanted (unit.Conv c ∷ us) rest e = absurd cc
literal_taken wanted (unit.Byte b ∷ us) rest e = by (wanted b) refl e
  where
    by : (t : Bool) → wanted b ≡ t → cond t (Ok us) (Err why.NotAligned) ≡ Ok rest
        → (group : List PrintUnit) × (unit.Byte b ∷ us ≡ group ++ rest) × IsLiteral wanted group
    by true is e = let same : us ≡ rest = cc in (unit.Byte b ∷ [], ap (λ (t : List PrintUnit). unit.Byte b ∷ t) same, (b, refl, is))
    by false is e = absurd cc

leaves_ok : (w : Option PairWhy) (us rest : List PrintUnit) → leaves w us ≡ Ok rest → (w ≡ None) × (us ≡ rest)
leaves_ok None us rest e = (refl, cc)
leaves_ok (Some w) us rest e = absurd cc

unless_ok : (w : Option PairWhy) (left : Left) (rest : List PrintUnit) → unless w left ≡ Ok rest → (w ≡ None) × (left ≡ Ok rest)
unless_ok None left rest e = (refl, e)
unless_ok (Some w) left rest e = absurd cc

-- the white space that stands first
pub space_front : (us : List PrintUnit) → (group : List PrintUnit) × (us ≡ group ++ after_space us) × AreSpace group
    × (starts_with_space (after_space us) ≡ false) × (starts_with_space us ≡ true → group ≢ [])
space_front [] = ([], refl, tt, refl, λ e. absurd cc)
space_front (unit.Conv c ∷ us) = ([], refl, tt, refl, λ e. absurd cc)
space_front (unit.Byte b ∷ us) = by (is_white b) refl (space_front us)
  where
    F : List PrintUnit → Type 0
    F after = (group : List PrintUnit) × (unit.Byte b ∷ us ≡ group ++ after) × AreSpace group × (starts_with_space after ≡ false)
        × (is_white b ≡ true → group ≢ [])

    by : (t : Bool) → is_white b ≡ t → (group : List PrintUnit) × (us ≡ group ++ after_space us) × AreSpace group
        × (starts_with_space (after_space us) ≡ false) × (starts_with_space us ≡ true → group ≢ [])
        → F (cond t (after_space us) (unit.Byte b ∷ us))
    by true is (group, parts, space, none, some) = (
      unit.Byte b ∷ group,
      ap (λ (t : List PrintUnit). unit.Byte b ∷ t) parts,
      (is, space),
      none,
      λ h e. cc,
    )
    by false is h = ([], refl, tt, is, λ e. cc)

space_taken : (us rest : List PrintUnit) (next : Option Directive) → take_space us next ≡ Ok rest
    → (group : List PrintUnit) × (us ≡ group ++ rest) × IsSpaceRun group rest next
space_taken us rest next e = by (starts_with_space us) refl e
  where
    by : (t : Bool) → starts_with_space us ≡ t → cond t (leaves (space_fault (after_space us) (reads next)) (after_space us))
        (Err why.NotAligned) ≡ Ok rest → (group : List PrintUnit) × (us ≡ group ++ rest) × IsSpaceRun group rest next
    by true is e =
        let l = leaves_ok (space_fault (after_space us) (reads next)) (after_space us) rest e in
        let f = space_front us in
        let F : List PrintUnit → Type 0 = λ r. (group : List PrintUnit) × (us ≡ group ++ r) × IsSpaceRun group r next in
        subst F l.1 (f.0, f.1, (f.4 is, f.2, f.3, l.0))
    by false is e = absurd cc

paired_taken : (s : Conversion) (us rest : List PrintUnit) (next : Option Directive) → take_paired s us next ≡ Ok rest
    → (group : List PrintUnit) × (us ≡ group ++ rest) × IsPaired s group rest next
paired_taken s [] rest next e = absurd cc
paired_taken s (unit.Byte b ∷ us) rest next e = absurd cc
paired_taken s (unit.Conv c ∷ us) rest next e =
    let a = unless_ok (pairing_fault c s) (leaves (closing_fault c s us (reads next)) us) rest e in
    let b = leaves_ok (closing_fault c s us (reads next)) us rest a.1 in (
      unit.Conv c ∷ [],
      ap (λ (t : List PrintUnit). unit.Conv c ∷ t) b.1,
      (c, refl, a.0, ap (λ (t : List PrintUnit). closing_fault c s t (reads next)) (sym b.1) ∙ b.0),
    )

conversion_taken : (s : Conversion) (us rest : List PrintUnit) (next : Option Directive) → take_conversion s us next ≡ Ok rest
    → (group : List PrintUnit) × (us ≡ group ++ rest) × IsConversionGroup (is_left_out s) (is_some s.slot) s group rest next
conversion_taken s us rest next e = by (is_count s.shape) s.optional (is_some s.slot) e
  where
    by : (count optional assigned : Bool) → cond count (Err why.NotWritten) (cond optional (Err why.MayBeMissing)
        (cond assigned (take_paired s us next) (take_literal (suppressed_by s) us))) ≡ Ok rest
        → (group : List PrintUnit) × (us ≡ group ++ rest) × IsConversionGroup (count || optional) assigned s group rest next
    by true optional assigned e = absurd cc
    by false true assigned e = absurd cc
    by false false true e = paired_taken s us rest next e
    by false false false e = literal_taken (suppressed_by s) us rest e

pub units_taken : (d : Directive) (us rest : List PrintUnit) (next : Option Directive) → take_group d us next ≡ Ok rest
    → Takes d us rest next
units_taken directive.Space us rest next e = space_taken us rest next e
units_taken (directive.Byte b) us rest next e = literal_taken (only b) us rest e
units_taken directive.Percent us rest next e = literal_taken (only 37) us rest e
units_taken (directive.Conv s) us rest next e = conversion_taken s us rest next e
units_taken (directive.Opens o) us rest next e = absurd cc

-- ---- a walk without a fault cuts the units

ended : (n : ℕ) (us : List PrintUnit) → ending_fault n us ≡ None → us ≡ []
ended n [] e = refl
ended n (u ∷ us) e = absurd cc

pub cut_from_walk : (ds : List Directive) (n : ℕ) (us : List PrintUnit) → fault_from n ds us ≡ None → AreCut ds us
cut_from_walk [] n us e = ended n us e
cut_from_walk (d ∷ ds) n us e = by (take_group d us (next_of ds)) refl e (λ rest. cut_from_walk ds (n + 1) rest)
  where
    by : (left : Left) → take_group d us (next_of ds) ≡ left → fault_after (λ rest. fault_from (n + 1) ds rest) n left ≡ None
        → ((rest : List PrintUnit) → fault_from (n + 1) ds rest ≡ None → AreCut ds rest) → AreCut (d ∷ ds) us
    by (Ok rest) is e more = let t = units_taken d us rest (next_of ds) is in (t.0, rest, t.1, t.2, more rest e)
    by (Err w) is e more = absurd cc

-- ---- a cutting is what the walk takes

literal_back : (wanted : Bytes) (group rest : List PrintUnit) → IsLiteral wanted group → take_literal wanted (group ++ rest) ≡ Ok rest
literal_back wanted group rest (b, is, is_in) =
    ap (λ (g : List PrintUnit). take_literal wanted (g ++ rest)) is ∙ ap (λ (t : Bool). cond t (Ok rest) (Err why.NotAligned)) is_in

after_space_back : (group rest : List PrintUnit) → AreSpace group → starts_with_space rest ≡ false → after_space (group ++ rest) ≡ rest
after_space_back [] [] h e = refl
after_space_back [] (unit.Byte b ∷ us) h e = ap (λ (t : Bool). cond t (after_space us) (unit.Byte b ∷ us)) e
after_space_back [] (unit.Conv c ∷ us) h e = refl
after_space_back (unit.Byte b ∷ group) rest h e = ap (λ (t : Bool). cond t (after_space (group ++ rest)) (unit.Byte b ∷ (group ++ rest)))
    h.0 ∙ after_space_back group rest h.1 e
after_space_back (unit.Conv c ∷ group) rest h e = absurd h

starts_back : (group rest : List PrintUnit) → AreSpace group → group ≢ [] → starts_with_space (group ++ rest) ≡ true
starts_back [] rest h some = absurd (some refl)
starts_back (unit.Byte b ∷ group) rest h some = h.0
starts_back (unit.Conv c ∷ group) rest h some = absurd h

space_back : (group rest : List PrintUnit) (next : Option Directive) → IsSpaceRun group rest next
    → take_space (group ++ rest) next ≡ Ok rest
space_back group rest next h =
    let after = after_space_back group rest h.1 h.2 in
    (λ t. cond (starts_back group rest h.1 h.0 t) (leaves (space_fault (after t) (reads next)) (after t)) (Err why.NotAligned))
    ∙ ap (λ (w : Option PairWhy). leaves w rest) h.3

paired_back : (s : Conversion) (group rest : List PrintUnit) (next : Option Directive) → IsPaired s group rest next
    → take_paired s (group ++ rest) next ≡ Ok rest
paired_back s group rest next (c, is, pairs, closes) =
    ap (λ (g : List PrintUnit). take_paired s (g ++ rest) next) is ∙ (λ t. unless (pairs t) (leaves (closes t) rest))

conversion_back : (s : Conversion) (group rest : List PrintUnit) (next : Option Directive)
    → IsConversionGroup (is_left_out s) (is_some s.slot) s group rest next → take_conversion s (group ++ rest) next ≡ Ok rest
conversion_back s group rest next h = by (is_count s.shape) s.optional (is_some s.slot) h
  where
    by : (count optional assigned : Bool) → IsConversionGroup (count || optional) assigned s group rest next
        → cond count (Err why.NotWritten) (cond optional (Err why.MayBeMissing) (cond assigned (take_paired s (group ++ rest) next)
        (take_literal (suppressed_by s) (group ++ rest)))) ≡ Ok rest
    by true optional assigned h = absurd h
    by false true assigned h = absurd h
    by false false true h = paired_back s group rest next h
    by false false false h = literal_back (suppressed_by s) group rest h

pub units_back : (d : Directive) (group rest : List PrintUnit) (next : Option Directive) → IsGroup d group rest next
    → take_group d (group ++ rest) next ≡ Ok rest
units_back directive.Space group rest next h = space_back group rest next h
units_back (directive.Byte b) group rest next h = literal_back (only b) group rest h
units_back directive.Percent group rest next h = literal_back (only 37) group rest h
units_back (directive.Conv s) group rest next h = conversion_back s group rest next h
units_back (directive.Opens o) group rest next h = absurd h

pub walk_from_cut : (ds : List Directive) (n : ℕ) (us : List PrintUnit) → AreCut ds us → fault_from n ds us ≡ None
walk_from_cut [] n us e = ap (ending_fault n) e
walk_from_cut (d ∷ ds) n us (group, rest, parts, is, more) =
    ap (λ (left : Left). fault_after (λ r. fault_from (n + 1) ds r) n left)
    (ap (λ (t : List PrintUnit). take_group d t (next_of ds)) parts ∙ units_back d group rest (next_of ds) is)
    ∙ walk_from_cut ds (n + 1) rest more

no_first : (f g : Option PairFault) → first_fault f g ≡ None → (f ≡ None) × (g ≡ None)
no_first None g e = (refl, e)
no_first (Some f) g e = absurd cc

valued : (ds : List Directive) → values_fault ds ≡ None → list_any assigns ds ≡ true
valued ds e = by (list_any assigns ds) e
  where
    by : (t : Bool) → cond t None (Some (fault 0 why.NoValues)) ≡ None → t ≡ true
    by true e = refl
    by false e = absurd cc

-- accepted exactly where aligned
pub aligned_is_accepted : AlignedIsAccepted
aligned_is_accepted us ds = (
  λ e. let h = no_first (fault_from 1 ds us) (values_fault ds) e in record { cut = cut_from_walk ds 1 us h.0; assigned = valued ds h.1 },
  λ h. ap (λ (f : Option PairFault). first_fault f (values_fault ds)) (walk_from_cut ds 1 us h.cut)
      ∙ ap (λ (t : Bool). cond t None (Some (fault 0 why.NoValues))) h.assigned,
)
