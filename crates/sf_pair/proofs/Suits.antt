-- What fits a pair is refused by no printing.
use Rattle.std.proofs.Common.{◌≡◌, ℕ, Bool, true, false, cond, ◌&&◌, eqb, nat_eq, List, length, ℤ, Option, Some, None, refl, ap, ◌∙◌, arith}
use Rattle.std.specs.Prelude.{not}
use Rattle.std.proofs.lemmas.Bool.{eqb-true}
use Rattle.std.proofs.lemmas.Bool.Decides.{nat_tests}
use Rattle.sf_base.specs.Data.{Datum, Number, Bytes, Real}
use Rattle.sf_base.specs.declared.real.Real as real
use Rattle.sf_base.specs.declared.real.Real.TheVariants as reals
use Rattle.sf_base.specs.declared.values.Kind.{Kind}
use Rattle.sf_base.specs.declared.values.Kind.TheVariants as kind
use Rattle.sf_format.specs.declared.directive.Shape.{Shape}
use Rattle.sf_format.specs.declared.directive.Shape.TheVariants as shape
use Rattle.sf_format.specs.declared.directive.Conversion.{Conversion}
use Rattle.sf_format.specs.declared.unit.PrintLetter.{PrintLetter}
use Rattle.sf_format.specs.declared.unit.PrintLetter.TheVariants as letter
use Rattle.sf_format.specs.declared.unit.PrintConv.{PrintConv}
use Rattle.sf_format.specs.Units.{is_text, prints_kind, IsProperConv}
use Rattle.sf_print.specs.declared.fault.PrintFault.{PrintFault}
use Rattle.sf_print.specs.declared.fault.PrintFault.TheVariants as fault
use Rattle.sf_print.specs.Printed.{kind_of, same_kind, suits, value_fault}
use Rattle.sf_print.proofs.Judged.{same_is_printed}
use Rattle.sf_pair.specs.Groups.{is_one, letters_pair, width_of, pairing_fault}
use Rattle.sf_pair.specs.Fits.{TextFits, ItemFits, TextStands, ColumnFits, FitsBy, ValueFits}
use Rattle.sf_pair.proofs.Paired.{Alike, Pairs, alike, pairs, not_none}

itself : (k : Kind) → same_kind k k ≡ true
itself kind.I8 = refl
itself kind.I16 = refl
itself kind.I32 = refl
itself kind.I64 = refl
itself kind.U8 = refl
itself kind.U16 = refl
itself kind.U32 = refl
itself kind.U64 = refl
itself kind.Text = refl
itself kind.F32 = refl
itself kind.F64 = refl

text_so : (k : Kind) → is_text k ≡ true → same_kind kind.Text k ≡ true
text_so kind.Text e = refl
text_so _ e = absurd cc

-- a conversion that is read as a text prints texts
prints_texts : (l : PrintLetter) (k : Kind) (h : Shape) (w : ℕ) (bytes : List ℕ) → letters_pair l h ≡ true → TextFits h w bytes
    → prints_kind l k ≡ true → same_kind kind.Text k ≡ true
prints_texts l k (shape.Int numeral) w bytes e fit is = absurd fit
prints_texts l k shape.Count w bytes e fit is = absurd fit
prints_texts l k (shape.Float lead) w bytes e fit is = absurd fit
prints_texts letter.Text k h w bytes e fit is = text_so k is
prints_texts letter.One k h w bytes e fit is = text_so k is
prints_texts letter.Signed k _ w bytes e fit is = absurd cc
prints_texts letter.Unsigned k _ w bytes e fit is = absurd cc
prints_texts letter.Octal k _ w bytes e fit is = absurd cc
prints_texts letter.HexLower k _ w bytes e fit is = absurd cc
prints_texts letter.HexUpper k _ w bytes e fit is = absurd cc
prints_texts letter.Binary k _ w bytes e fit is = absurd cc
prints_texts (letter.Float style upper) k _ w bytes e fit is = absurd cc

one_byte : (h : Shape) (w : ℕ) (bytes : List ℕ) → letters_pair letter.One h ≡ true → not (eqb w 1) ≡ false → TextFits h w bytes
    → nat_eq (length bytes) 1 ≡ true
one_byte shape.Chars w bytes e single fit =
    let one : w ≡ 1 = eqb-true w 1 (not_none (eqb w 1) single) in
    let many : length bytes ≡ w = fit in
    grind (arith, nat_tests)
one_byte _ w bytes e single fit = absurd cc

suits_so : (l : PrintLetter) (h : Shape) (w : ℕ) (bytes : List ℕ) → letters_pair l h ≡ true → (is_one l && not (eqb w 1)) ≡ false
    → TextFits h w bytes → suits l (Bytes bytes) ≡ true
suits_so letter.One h w bytes e single fit = one_byte h w bytes e single fit
suits_so _ h w bytes e single fit = refl

suits_number : (l : PrintLetter) (k : Kind) (z : ℤ) → suits l (Number k z) ≡ true
suits_number letter.One k z = refl
suits_number _ k z = refl

suits_real : (l : PrintLetter) (r : real.Real) → suits l (Real r) ≡ true
suits_real letter.One r = refl
suits_real _ r = refl

no_fault : (c : PrintConv) (v : Datum) → same_kind (kind_of v) c.kind ≡ true → suits c.letter v ≡ true → value_fault c v ≡ None
no_fault c v e f =
    ap (λ (t : Bool). cond (not t) (Some (fault.WrongKind c.slot)) (cond (not (suits c.letter v)) (Some (fault.NotOneByte c.slot)) None))
    (same_is_printed (kind_of v) c.kind e)
    ∙ ap (λ (t : Bool). cond {A = Option PrintFault} (not t) (Some (fault.NotOneByte c.slot)) None) f

item_unfaulted : (c : PrintConv) (s : Conversion) (v : Datum) → IsProperConv c → Pairs c s → ItemFits c s v → value_fault c v ≡ None
item_unfaulted c s (Number k z) proper p fit = no_fault c (Number k z) (ap (λ (k : Kind). same_kind k c.kind) fit.0 ∙ itself c.kind)
    (suits_number c.letter k z)
item_unfaulted c s (Real (reals.F32 bits)) proper p fit = absurd fit
item_unfaulted c s (Real (reals.F64 bits)) proper p fit = no_fault c (Real (reals.F64 bits))
    (ap (λ (k : Kind). same_kind kind.F64 k) fit.0) (suits_real c.letter (reals.F64 bits))
item_unfaulted c s (Bytes bytes) proper p fit =
    no_fault c (Bytes bytes) (prints_texts c.letter c.kind s.shape (width_of s) bytes p.alike.letters fit.1 proper.kind)
    (suits_so c.letter s.shape (width_of s) bytes p.alike.letters p.single fit.1)

-- ---- columns

column_prints_texts : (l : PrintLetter) (k : Kind) (h : Shape) (w : ℕ) (bytes : List ℕ) → letters_pair l h ≡ true → TextStands h w bytes
    → prints_kind l k ≡ true → (same_kind kind.Text k ≡ true) × (suits l (Bytes bytes) ≡ true)
column_prints_texts l k (shape.Int numeral) w bytes e fit is = absurd fit
column_prints_texts l k shape.Count w bytes e fit is = absurd fit
column_prints_texts l k shape.Chars w bytes e fit is = absurd fit
column_prints_texts l k (shape.Float lead) w bytes e fit is = absurd fit
column_prints_texts letter.Text k h w bytes e fit is = (text_so k is, refl)
column_prints_texts letter.One k (shape.Text lead) w bytes e fit is = absurd cc
column_prints_texts letter.One k (shape.Set members) w bytes e fit is = absurd cc
column_prints_texts letter.Signed k _ w bytes e fit is = absurd cc
column_prints_texts letter.Unsigned k _ w bytes e fit is = absurd cc
column_prints_texts letter.Octal k _ w bytes e fit is = absurd cc
column_prints_texts letter.HexLower k _ w bytes e fit is = absurd cc
column_prints_texts letter.HexUpper k _ w bytes e fit is = absurd cc
column_prints_texts letter.Binary k _ w bytes e fit is = absurd cc
column_prints_texts (letter.Float style upper) k _ w bytes e fit is = absurd cc

column_unfaulted : (c : PrintConv) (s : Conversion) (v : Datum) → IsProperConv c → Alike c s → ColumnFits c s v → value_fault c v ≡ None
column_unfaulted c s (Number k z) proper p fit = no_fault c (Number k z) (ap (λ (k : Kind). same_kind k c.kind) fit.1.0 ∙ itself c.kind)
    (suits_number c.letter k z)
column_unfaulted c s (Real (reals.F32 bits)) proper p fit = absurd fit.1
column_unfaulted c s (Real (reals.F64 bits)) proper p fit = no_fault c (Real (reals.F64 bits))
    (ap (λ (k : Kind). same_kind kind.F64 k) fit.1.0) (suits_real c.letter (reals.F64 bits))
column_unfaulted c s (Bytes bytes) proper p fit =
    let h = column_prints_texts c.letter c.kind s.shape (width_of s) bytes p.letters fit.1.2 proper.kind in
    no_fault c (Bytes bytes) h.0 h.1

-- ---- either

pub fits_unfaulted : (c : PrintConv) (s : Conversion) (v : Datum) → IsProperConv c → pairing_fault c s ≡ None → ValueFits c s v
    → value_fault c v ≡ None
fits_unfaulted c s v proper pairing fit = by s.column refl fit
  where
    by : (t : Bool) → s.column ≡ t → FitsBy t c s v → value_fault c v ≡ None
    by true column h = column_unfaulted c s v proper (alike c s pairing) h
    by false item h = item_unfaulted c s v proper (pairs c s item pairing) h
