-- The formats of a pair have as many slots.
use Rattle.std.proofs.Common.{◌≡◌, ℕ, suc, Bool, true, false, List, [], ◌∷◌, ◌++◌, length, Option, Some, None, is_some, refl, ap, ◌∙◌}
use Rattle.std.specs.List.{cons_option}
use Rattle.sf_format.specs.declared.directive.Conversion.{Conversion}
use Rattle.sf_format.specs.declared.directive.Directive.{Directive}
use Rattle.sf_format.specs.declared.directive.Directive.TheVariants as directive
use Rattle.sf_format.specs.declared.unit.Unit.{Unit as PrintUnit}
use Rattle.sf_format.specs.declared.unit.Unit.TheVariants as unit
use Rattle.sf_format.specs.Slots.{Slotted}
use Rattle.sf_format.specs.Units.{values_of}
use Rattle.sf_format.specs.Proper.{destinations_of}
use Rattle.sf_pair.specs.conversions.Below.{LawsBelow}
use Rattle.sf_pair.specs.Groups.{is_left_out, AreSpace, IsConversionGroup, IsGroup, AreCut, next_of}
use Rattle.sf_pair.specs.Laws.{AlignedSlotsAgree}
use Rattle.sf_pair.proofs.SlotRows.{row_of_printed}

space_has_none : (group rest : List PrintUnit) → AreSpace group → length (values_of (group ++ rest)) ≡ length (values_of rest)
space_has_none [] rest h = refl
space_has_none (unit.Byte b ∷ us) rest h = space_has_none us rest h.1
space_has_none (unit.Conv c ∷ us) rest h = absurd h

literal_has_none : (group rest : List PrintUnit) (b : ℕ) → group ≡ unit.Byte b ∷ []
    → length (values_of (group ++ rest)) ≡ length (values_of rest)
literal_has_none group rest b e = ap (λ (g : List PrintUnit). length (values_of (g ++ rest))) e

conversion_has : (s : Conversion) (ds : List Directive) (group rest : List PrintUnit) → IsGroup (directive.Conv s) group rest (next_of ds)
    → length (values_of rest) ≡ length (destinations_of ds)
    → length (values_of (group ++ rest)) ≡ length (destinations_of (directive.Conv s ∷ ds))
conversion_has s ds group rest is more = by (is_left_out s) s.slot is
  where
    by : (out : Bool) (o : Option ℕ) → IsConversionGroup out (is_some o) s group rest (next_of ds)
        → length (values_of (group ++ rest)) ≡ length (cons_option {X = Slotted} (elim o [ None ↦ None | Some slot ↦ Some (slot, s.kind) ])
        (destinations_of ds))
    by true o h = absurd h
    by false None (b, e, wanted) = literal_has_none group rest b e ∙ more
    by false (Some slot) (c, e, pairing, closing) = ap (λ (g : List PrintUnit). length (values_of (g ++ rest))) e ∙ ap suc more

counts : (ds : List Directive) (us : List PrintUnit) → AreCut ds us → length (values_of us) ≡ length (destinations_of ds)
counts [] us cut = ap (λ (us : List PrintUnit). length (values_of us)) cut
counts (directive.Space ∷ ds) us (group, rest, parts, is, more) =
    ap (λ (us : List PrintUnit). length (values_of us)) parts ∙ space_has_none group rest is.1 ∙ counts ds rest more
counts (directive.Byte b ∷ ds) us (group, rest, parts, is, more) =
    ap (λ (us : List PrintUnit). length (values_of us)) parts ∙ literal_has_none group rest is.0 is.1 ∙ counts ds rest more
counts (directive.Percent ∷ ds) us (group, rest, parts, is, more) =
    ap (λ (us : List PrintUnit). length (values_of us)) parts ∙ literal_has_none group rest is.0 is.1 ∙ counts ds rest more
counts (directive.Conv s ∷ ds) us (group, rest, parts, is, more) =
    ap (λ (us : List PrintUnit). length (values_of us)) parts ∙ conversion_has s ds group rest is (counts ds rest more)
counts (directive.Opens o ∷ ds) us (group, rest, parts, is, more) = absurd is

pub slots_agree : LawsBelow → AlignedSlotsAgree
slots_agree laws us ds accepted proper aligned values fit = record {
  row = row_of_printed laws us values accepted fit.count;
  count = fit.count ∙ counts ds us aligned.cut;
}
