-- Pairs under a limit, and what their scans store.
use Rattle.std.proofs.Common.{◌≡◌, ℕ, inl, Bool, true, false, List, [], ◌∷◌, Option, Some, None, is_some, refl, sym, ap, ◌∙◌}
use Rattle.std.specs.Prelude.{IsSome}
use Rattle.sf_format.specs.declared.directive.Shape.{Shape}
use Rattle.sf_format.specs.declared.directive.Shape.TheVariants as shape
use Rattle.sf_format.specs.declared.directive.Conversion.{Conversion}
use Rattle.sf_format.specs.declared.directive.Directive.{Directive}
use Rattle.sf_format.specs.declared.directive.Directive.TheVariants as directive
use Rattle.sf_format.specs.declared.unit.PrintConv.{PrintConv}
use Rattle.sf_format.specs.declared.unit.Unit.{Unit as PrintUnit}
use Rattle.sf_format.specs.Proper.{HasItsWidth, IsSized, AreSized}
use Rattle.sf_format.specs.Widths.{add_widths, text_width, stored_width, width_sum}
use Rattle.sf_pair.specs.conversions.Below.{LawsBelow}
use Rattle.sf_pair.specs.Groups.{is_left_out, is_chars, pairing_fault, IsConversionGroup, IsGroup, AreCut, next_of}
use Rattle.sf_pair.specs.Laws.{read_back, ReadWithin, AlignedIsBounded}
use Rattle.sf_pair.proofs.Paired.{alike, pairs, column_is, width_is}
use Rattle.sf_pair.proofs.Whole.{round_trip}

pub read_within : LawsBelow → ReadWithin
read_within laws us ds accepted proper aligned values fit m fits z ending report run =
    let o = laws.reports ds proper.proper m _ ending in
    o.only report run ∙ sym (o.only (read_back us ds values) (inl
    (fits, round_trip laws us ds accepted proper aligned values fit z ending)))

both_some : (a b : Option ℕ) → IsSome a → IsSome b → IsSome (add_widths a b)
both_some (Some m) (Some n) h k = refl
both_some None b h k = absurd cc
both_some (Some m) None h k = absurd cc

some_of : (o : Option ℕ) (w : ℕ) → o ≡ Some w → IsSome o
some_of o w e = ap is_some e

by_shape : (s : Conversion) (h : Shape) → s.shape ≡ h → (is_chars h ≡ false → IsSome s.width) → HasItsWidth h s.width
    → IsSome (text_width h s.width)
by_shape s (shape.Int numeral) e wide sized = refl
by_shape s shape.Count e wide sized = refl
by_shape s (shape.Text lead) e wide sized = wide refl
by_shape s (shape.Set members) e wide sized = wide refl
by_shape s shape.Chars e wide sized = sized
by_shape s (shape.Float lead) e wide sized = wide refl

stored_some : (d : Directive) (group rest : List PrintUnit) (next : Option Directive) → IsSized d → IsGroup d group rest next
    → IsSome (stored_width d)
stored_some directive.Space group rest next sized is = refl
stored_some (directive.Byte b) group rest next sized is = refl
stored_some directive.Percent group rest next sized is = refl
stored_some (directive.Opens o) group rest next sized is = refl
stored_some (directive.Conv s) group rest next sized is = by (is_left_out s) s.slot refl is
  where
    wide : (c : PrintConv) → pairing_fault c s ≡ None → (t : Bool) → s.column ≡ t → is_chars s.shape ≡ false → IsSome s.width
    wide c pairing true column no_chars = some_of s.width _ (column_is c s (alike c s pairing) column)
    wide c pairing false item no_chars = some_of s.width _ (width_is s no_chars (pairs c s item pairing).width)

    by : (out : Bool) (o : Option ℕ) → s.slot ≡ o → IsConversionGroup out (is_some o) s group rest next
        → IsSome {T = ℕ} (elim o [ None ↦ Some 0 | Some slot ↦ text_width s.shape s.width ])
    by out None e h = refl
    by true (Some k) e h = absurd h
    by false (Some k) e (c, group_is, pairing, closing) =
        by_shape s s.shape refl (wide c pairing s.column refl) sized

bounded : (ds : List Directive) (us : List PrintUnit) → AreSized ds → AreCut ds us → IsSome (width_sum ds)
bounded [] us sized cut = refl
bounded (d ∷ ds) us sized (group, rest, parts, is, more) = both_some (stored_width d) (width_sum ds)
    (stored_some d group rest (next_of ds) sized.0 is) (bounded ds rest sized.1 more)

pub aligned_is_bounded : AlignedIsBounded
aligned_is_bounded us ds proper aligned = bounded ds us proper.sized aligned.cut
