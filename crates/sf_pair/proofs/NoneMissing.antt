-- No directive of an aligned scan format may be missing.
use Rattle.std.proofs.Common.{◌≡◌, ℕ, Bool, true, false, ◌&&◌, ◌||◌, List, [], ◌∷◌, is_some, refl}
use Rattle.sf_format.specs.declared.directive.Directive.{Directive}
use Rattle.sf_format.specs.declared.directive.Directive.TheVariants as directive
use Rattle.sf_format.specs.declared.unit.Unit.{Unit as PrintUnit}
use Rattle.sf_format.specs.Proper.{assigns, has_optional, is_optional, may_miss, more_of}
use Rattle.sf_pair.specs.Groups.{is_count, is_left_out, IsConversionGroup, IsGroup, AreCut, next_of}
use Rattle.sf_pair.specs.Laws.{AlignedIsWhole, AlignedMissesNone}
use Rattle.sf_pair.proofs.Paired.{or_none}

neither : (a b : Bool) → a ≡ false → b ≡ false → (a || b) ≡ false
neither true b e f = absurd cc
neither false b e f = f

-- a directive with its group
none_here : (d : Directive) (group rest : List PrintUnit) (ds : List Directive) → IsGroup d group rest (next_of ds) → is_optional d ≡ false
none_here directive.Space group rest ds is = refl
none_here (directive.Byte b) group rest ds is = refl
none_here directive.Percent group rest ds is = refl
none_here (directive.Opens o) group rest ds is = absurd is
none_here (directive.Conv s) group rest ds is = by (is_left_out s) refl is
  where
    by : (t : Bool) → is_left_out s ≡ t → IsConversionGroup t (is_some s.slot) s group rest (next_of ds) → s.optional ≡ false
    by true e h = absurd h
    by false e h = (or_none (is_count s.shape) s.optional e).1

none_cut : (ds : List Directive) (us : List PrintUnit) → AreCut ds us → has_optional ds ≡ false
none_cut [] us cut = refl
none_cut (d ∷ ds) us (group, rest, parts, is, more) =
    neither (is_optional d) (has_optional ds) (none_here d group rest ds is) (none_cut ds rest more)

pub aligned_is_whole : AlignedIsWhole
aligned_is_whole us ds aligned = none_cut ds us aligned.cut

-- none is missing with one that can't be
no_more : (d : Directive) → is_optional d ≡ false → more_of d ≡ 0
no_more directive.Space e = refl
no_more (directive.Byte b) e = refl
no_more directive.Percent e = refl
no_more (directive.Conv s) e = rw e refl
no_more (directive.Opens o) e = absurd cc

no_and : (a : Bool) → (a && false) ≡ false
no_and true = refl
no_and false = refl

slots_kept : (slot : ℕ) (ds : List Directive) → has_optional ds ≡ false → may_miss slot ds ≡ false
slots_kept slot [] e = refl
slots_kept slot (d ∷ ds) e =
    let h = or_none (is_optional d) (has_optional ds) e in
    rw (h.0, no_and (assigns slot d), no_more d h.0) (slots_kept slot ds h.1)

pub aligned_misses_none : AlignedMissesNone
aligned_misses_none us ds aligned slot = slots_kept slot ds (aligned_is_whole us ds aligned)
