-- Values to print.
use Rattle.std.proofs.Common.{◌≡◌, ◌<◌, ◌-◌, ◌∙◌, ℕ, zero, suc, List, [], ◌∷◌, ◌++◌, false, Option, Result, Ok, Err, IfErr, OnOk, ap, arith}
use Rattle.std.proofs.Common.{get_or, length, refl, slice_get, subst, sym, unwrap_or}
use Rattle.sf_base.specs.declared.values.Kind.{Kind}
use Rattle.sf_base.specs.declared.values.Kind.TheVariants.{I8, I16, I32, I64, U8, U16, U32, U64, Text, F32, F64}
use Rattle.sf_base.specs.Data.{Datum, Number, Bytes, Real, kind_of}
use Rattle.sf_print.specs.declared.fault.PrintFault.{PrintFault}
use Rattle.sf_print.specs.declared.fault.PrintFault.TheVariants.{WrongCount, WrongKind, NotOneByte, TooLong, Sink}
use Rattle.sf_print.specs.Printed.{WritesText, is_sink_fault}
use Rattle.sf_c.specs.declared.values.SfValue.{SfValue}
use Rattle.sf_c.specs.Numbers.{kind_number, kinds}
use Rattle.sf_c.specs.Prints.{AreData, Means}

-- the values and one more
pub data_more : (texts : List ℕ) (values : List Datum) (cells : List SfValue) (value : Datum) (cell : SfValue)
    → AreData texts values cells → Means texts value cell → AreData texts (values ++ value ∷ []) (cells ++ cell ∷ [])
data_more texts [] [] value cell h is = (is, tt)
data_more texts (first ∷ values) (this ∷ cells) value cell (means, others) is =
    (means, data_more texts values cells value cell others is)
data_more texts [] (this ∷ cells) value cell h is = absurd h
data_more texts (first ∷ values) [] value cell h is = absurd h

-- where a cell has no value, the cells have none
pub data_none : (texts : List ℕ) (values : List Datum) (cells : List SfValue) (i : ℕ) (blank : SfValue) → i < length cells
    → ((value : Datum) → Means texts value (get_or cells i blank) → ⊥) → AreData texts values cells → ⊥
data_none texts [] [] i blank below none h = omega (arith, below)
data_none texts (value ∷ values) (cell ∷ cells) zero blank below none (means, others) = none value means
data_none texts (value ∷ values) (cell ∷ cells) (suc i) blank below none (means, others) =
    data_none texts values cells i blank (omega (arith, below)) none others
data_none texts [] (cell ∷ cells) i blank below none h = h
data_none texts (value ∷ values) [] i blank below none h = h

-- the number of a kind says which it is
kind_back : ℕ → Kind
kind_back n = unwrap_or (slice_get kinds (n - 1)) Text

back_is : (k : Kind) → kind_back (kind_number k) ≡ k
unfolding kind_back
back_is I8 = refl
back_is I16 = refl
back_is I32 = refl
back_is I64 = refl
back_is U8 = refl
back_is U16 = refl
back_is U32 = refl
back_is U64 = refl
back_is Text = refl
back_is F32 = refl
back_is F64 = refl

pub same_kind : (a b : Kind) → kind_number a ≡ kind_number b → a ≡ b
same_kind a b e = sym (back_is a) ∙ ap kind_back e ∙ back_is b

-- a cell has the kind of its value
pub kind_means : (texts : List ℕ) (value : Datum) (cell : SfValue) → Means texts value cell → cell.kind ≡ kind_number (kind_of value)
kind_means texts (Number kind n) cell means = means.has.kind_is
kind_means texts (Bytes text) cell means = means.has.kind_is
kind_means texts (Real real) cell means = means.has.kind_is

nothing_written : (old new : Option (List ℕ)) (text : List ℕ) (fault : PrintFault) → WritesText old new text (Err fault)
    → is_sink_fault (Err fault) ≡ false → ⊥
nothing_written old new text WrongCount written sound = written
nothing_written old new text (WrongKind at) written sound = written
nothing_written old new text (NotOneByte at) written sound = written
nothing_written old new text TooLong written sound = written
nothing_written old new text (Sink bytes) written sound = cc

-- what was refused was refused before anything was written
pub refused_is : (m result : Result ℕ PrintFault) (old new : Option (List ℕ)) (text : List ℕ) (fault : PrintFault) (P : Type 0)
    → result ≡ Err fault → IfErr m (λ (f : PrintFault). (result ≡ Err f) × P) → OnOk m (WritesText old new text result)
    → is_sink_fault (Err fault) ≡ false → m ≡ Err fault
refused_is (Err f) result old new text fault P is refused written sound = sym refused.0 ∙ is
refused_is (Ok n) result old new text fault P is refused written sound =
    absurd (nothing_written old new text fault (subst (WritesText old new text) is written) sound)
