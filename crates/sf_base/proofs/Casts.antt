-- Numbers of a kind, and the value of a type that a cast of one gives.
use Rattle.std.proofs.lemmas.Grind.{common_steps}
use Rattle.std.proofs.Common.{◌≡◌, Bool, true, false, ℕ, ℤ, Option, Some, None, sym, ap, ◌∙◌, arith}
use Rattle.std.specs.Option.{option_map}
use Rattle.num_traits.specs.Laws.{Checks}
use Rattle.sf_base.specs.declared.number.Number as number
use Rattle.sf_base.specs.declared.values.Kind.{Kind}
use Rattle.sf_base.specs.declared.values.Kind.TheVariants.{I8, I16, I32, I64, U8, U16, U32, U64, Text, F32, F64}
use Rattle.sf_base.specs.Kinds.{is_held, with_sign}
use Rattle.sf_base.specs.Data.{IsIn, datum_of_number}
use Rattle.sf_base.specs.Data.Datum.{Number}

-- the number with a sign and a magnitude that the kind holds is one of the kind
pub held_is_in : (k : Kind) (s : Bool) (m : ℕ) → is_held k s m ≡ true → IsIn k (with_sign s m)
held_is_in I8 true m h = grind (arith, common_steps)
held_is_in I8 false m h = grind (arith, common_steps)
held_is_in I16 true m h = grind (arith, common_steps)
held_is_in I16 false m h = grind (arith, common_steps)
held_is_in I32 true m h = grind (arith, common_steps)
held_is_in I32 false m h = grind (arith, common_steps)
held_is_in I64 true m h = grind (arith, common_steps)
held_is_in I64 false m h = grind (arith, common_steps)
held_is_in U8 true m h = absurd cc
held_is_in U8 false m h = grind (arith, common_steps)
held_is_in U16 true m h = absurd cc
held_is_in U16 false m h = grind (arith, common_steps)
held_is_in U32 true m h = absurd cc
held_is_in U32 false m h = grind (arith, common_steps)
held_is_in U64 true m h = absurd cc
held_is_in U64 false m h = grind (arith, common_steps)
held_is_in Text s m h = absurd cc
held_is_in F32 s m h = absurd cc
held_is_in F64 s m h = absurd cc

-- the number that stands for a value of a kind
pub number_is : (k own : Kind) (n : number.Number) (v : Option ℤ) → k ≡ own → Some (datum_of_number n) ≡ option_map (Number k) v
    → (n.kind ≡ own) × (v ≡ Some (with_sign n.negative n.magnitude))
number_is k own n None same e = absurd cc
number_is k own n (Some z) same e = (cc, cc)

-- a number that a type has is cast to it
pub cast_is : {T : Type 0} (integer value : T → ℤ) (fits : ℤ → Type 0) (z : ℤ) (r : Option T) → ((x : T) → value x ≡ integer x) → fits z
    → Checks value fits z r → option_map integer r ≡ Some z
cast_is integer value fits z None same has checks = absurd (checks has)
cast_is integer value fits z (Some x) same has checks = ap Some (sym (same x) ∙ checks.1)
