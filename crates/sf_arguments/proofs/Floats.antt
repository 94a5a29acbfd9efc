-- Words that are floats.
use Rattle.std.proofs.Common.{◌≡◌, ℕ, List, Option, Some, None, refl, sym, ap, subst, ◌∙◌}
use Rattle.std.specs.Float.Ieee.{binary64}
use Rattle.sf_base.specs.Data.{Datum}
use Rattle.sf_base.specs.Data.Datum.{Real}
use Rattle.sf_base.specs.declared.real.Real.TheVariants as reals
use Rattle.sf_float_read.specs.item.Sequences.{IsFloat}
use Rattle.sf_float_read.specs.value.Values.{IsStored}
use Rattle.sf_float_read.proofs.ValueLemmas.OneStored.{one_stored}
use Rattle.sf_arguments.specs.Words.{IsFloatOf}

-- a word denotes one float
pub one_float : (word : List ℕ) (a b : Datum) → IsFloatOf word a → IsFloatOf word b → a ≡ b
one_float word a b (x, f, s, is) (y, g, t, too) =
    let same : Some x ≡ Some y = one_stored binary64 word (Some x) (Some y) s t in
    let bits : x ≡ y = cc in
    is ∙ ap (λ k. Real (reals.F64 k)) bits ∙ sym too

pub float_read : (word given : List ℕ) (bits : ℕ) → given ≡ word → IsFloat given → IsStored binary64 given (Some bits)
    → IsFloatOf word (Real (reals.F64 bits))
float_read word given bits same f s =
    (bits, subst IsFloat same f, subst (λ (t : List ℕ). IsStored binary64 t (Some bits)) same s, refl)

-- no matching sequence
pub no_float : (word given : List ℕ) → given ≡ word → (IsFloat given → ⊥) → (value : Datum) → IsFloatOf word value → ⊥
no_float word given same none value (bits, f, s, is) = none (subst IsFloat (sym same) f)

-- one whose number is out of range
pub out_of_range : (word given : List ℕ) → given ≡ word → IsStored binary64 given None → (value : Datum) → IsFloatOf word value → ⊥
out_of_range word given same none value (bits, f, s, is) =
    let e : None ≡ Some bits = one_stored binary64 word None (Some bits)
    (subst (λ (t : List ℕ). IsStored binary64 t None) same none) s in absurd cc
