-- Texts of floats, and of values that are none.
use Rattle.std.proofs.Common.{◌≡◌, ℕ, List, [], ◌++◌, true, Some, None, refl, ap, sym, ◌∙◌, append_assoc, append-nil}
use Rattle.sf_base.specs.Data.{Datum, datum_of, is_number}
use Rattle.sf_base.specs.Data.Datum.{Number, Bytes, Real}
use Rattle.sf_base.specs.declared.real.Real as real
use Rattle.sf_base.specs.declared.values.Value.{Value}
use Rattle.sf_base.specs.declared.values.Value.TheVariants as value
use Rattle.sf_format.specs.declared.unit.PrintConv.{PrintConv}
use Rattle.sf_print.specs.texts.Floats.{real_of, real_text}
use Rattle.sf_print.specs.texts.Text.{value_text}

-- the text of a value that is a float
pub real_value : (c : PrintConv) (v : Datum) (r : real.Real) → real_of v ≡ Some r → value_text c v ≡ real_text c r
real_value c (Number k z) r is = absurd cc
real_value c (Bytes bytes) r is = absurd cc
real_value c (Real s) r is = let same : s ≡ r = cc in ap (real_text c) same

-- a number is none
pub no_real : (v : Value) → is_number v ≡ true → real_of (datum_of v) ≡ None
no_real (value.I8 n) e = refl
no_real (value.I16 n) e = refl
no_real (value.I32 n) e = refl
no_real (value.I64 n) e = refl
no_real (value.U8 n) e = refl
no_real (value.U16 n) e = refl
no_real (value.U32 n) e = refl
no_real (value.U64 n) e = refl
no_real (value.Text t) e = refl
no_real (value.F32 bits) e = absurd cc
no_real (value.F64 bits) e = absurd cc

-- the parts of a float's text, joined
pub six_joined : (a b m z d r : List ℕ) → a ++ (b ++ (m ++ (z ++ (d ++ (r ++ []))))) ≡ a ++ b ++ m ++ z ++ d ++ r
six_joined a b m z d r =
    ap (λ (t : List ℕ). a ++ (b ++ (m ++ (z ++ (d ++ t))))) (append-nil r)
    ∙ sym (append_assoc a b (m ++ (z ++ (d ++ r))))
    ∙ sym (append_assoc (a ++ b) m (z ++ (d ++ r)))
    ∙ sym (append_assoc (a ++ b ++ m) z (d ++ r))
    ∙ sym (append_assoc (a ++ b ++ m ++ z) d r)
