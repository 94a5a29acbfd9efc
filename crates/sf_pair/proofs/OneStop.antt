-- The cut before a place leaves one list of units.
use Rattle.std.proofs.Common.{◌≡◌, List, [], ◌∷◌, ◌++◌, length, Ok, refl, sym, ap, subst, ◌∙◌, arith}
use Rattle.sf_format.specs.declared.directive.Directive.{Directive}
use Rattle.sf_format.specs.declared.unit.Unit.{Unit as PrintUnit}
use Rattle.sf_pair.specs.Groups.{IsGroup, next_of}
use Rattle.sf_pair.specs.Walk.{Left, take_group}
use Rattle.sf_pair.specs.Laws.{Leaves, EachStopIsOne}
use Rattle.sf_pair.proofs.Cutting.{units_back}

same_rest : (us other : List PrintUnit) → ◌≡◌ {A = Left} (Ok us) (Ok other) → us ≡ other
same_rest us other e = cc

-- the directive takes its group, so what is left after it is one
one_left : (ds after : List Directive) (us left other : List PrintUnit) → Leaves ds after us left → Leaves ds after us other → left ≡ other
one_left [] after us left other h k = sym h ∙ k
one_left (d ∷ ds) after us left other (group, rest, parts, is, more) (front, behind, cut, same, later) =
    let e : rest ≡ behind = same_rest rest behind (sym (took group rest parts is) ∙ took front behind cut same) in
    one_left ds after behind left other (subst (λ (r : List PrintUnit). Leaves ds after r left) e more) later
  where
    took : (g r : List PrintUnit) → us ≡ g ++ r → IsGroup d g r (next_of (ds ++ after)) → take_group d us (next_of (ds ++ after)) ≡ Ok r
    took g r parts is = ap (λ (t : List PrintUnit). take_group d t (next_of (ds ++ after))) parts
        ∙ units_back d g r (next_of (ds ++ after)) is

pub record Same (d e : Directive) (ds es after later : List Directive) : Type 0 where
  pub here : d ≡ e
  pub before : ds ≡ es
  pub behind : after ≡ later

-- two lists that are the same are so on both sides of a place
same_sides : (ds es : List Directive) (d e : Directive) (after later : List Directive) → ds ++ d ∷ after ≡ es ++ e ∷ later
    → length ds ≡ length es → Same d e ds es after later
same_sides [] [] d e after later h n = record { here = cc; before = refl; behind = cc }
same_sides [] (x ∷ es) d e after later h n = absurd (omega (arith, n))
same_sides (x ∷ ds) [] d e after later h n = absurd (omega (arith, n))
same_sides (x ∷ ds) (y ∷ es) d e after later h n =
    let first : x ≡ y = cc in
    let rest : ds ++ d ∷ after ≡ es ++ e ∷ later = cc in
    let s = same_sides ds es d e after later rest (omega (arith, n)) in
    record { here = s.here; before = (λ i. first i ∷ s.before i); behind = s.behind }

pub stops_are_one : EachStopIsOne
stops_are_one us ds at d e left other h k =
    let s = same_sides h.before k.before d e h.after k.after (sym h.directives ∙ k.directives) (omega (arith, h.place, k.place)) in (
      s.here,
      one_left k.before (e ∷ k.after) us left other (subst (λ (t : List Directive). Leaves k.before (e ∷ t) us left) s.behind
          (subst (λ (c : Directive). Leaves k.before (c ∷ h.after) us left) s.here
          (subst (λ (t : List Directive). Leaves t (d ∷ h.after) us left) s.before h.taken))) k.taken,
    )
