-- Kinds that have each value of another.
use Rattle.std.proofs.Common.{◌≡◌, ◌≤◌, ◌^◌, ◌&&◌, ℕ, Bool, true, false, nat_lt, nat_le, Some, refl, sym, arith, true≢false}
use Rattle.std.proofs.lemmas.Bool.Decides.{nat_tests}
use Rattle.sf_base.specs.Data.{signed_value, unsigned_value, value_of, with_sign}
use Rattle.sf_base.specs.Kinds.{is_held, is_signed, is_unsigned}
use Rattle.sf_base.specs.declared.values.Kind.{Kind}
use Rattle.sf_base.specs.declared.values.Kind.TheVariants.{I8, I16, I32, I64, U8, U16, U32, U64, Text, F32, F64}
use Rattle.sf_forms.specs.makers.Prints.{holds_all}

and_right : (a b : Bool) → (a && b) ≡ true → b ≡ true
and_right true b e = e
and_right false b e = absurd (true≢false (sym e))

below_more : (x y m : ℕ) → x ≤ y → nat_lt m x ≡ true → nat_lt m y ≡ true
below_more x y m more h = grind (arith, nat_tests)

within_more : (x y m : ℕ) → x ≤ y → nat_le m x ≡ true → nat_le m y ≡ true
within_more x y m more h = grind (arith, nat_tests)

signed_in : (a b : ℕ) → 2 ^ a ≤ 2 ^ b → (negative : Bool) (m : ℕ) → is_signed a negative m ≡ true
    → signed_value b negative m ≡ Some (with_sign negative m)
signed_in a b more false m h = rw (below_more (2 ^ a) (2 ^ b) m more h) refl
signed_in a b more true m h = rw (within_more (2 ^ a) (2 ^ b) m more (and_right (nat_lt 0 m) (nat_le m (2 ^ a)) h)) refl

unsigned_in : (a b : ℕ) → 2 ^ a ≤ 2 ^ b → (negative : Bool) (m : ℕ) → is_unsigned a negative m ≡ true
    → unsigned_value b negative m ≡ Some (with_sign negative m)
unsigned_in a b more false m h = rw (below_more (2 ^ a) (2 ^ b) m more h) refl
unsigned_in a b more true m h = absurd (true≢false (sym h))

signed_of : (a b : ℕ) → 2 ^ a ≤ 2 ^ b → (negative : Bool) (m : ℕ) → is_unsigned a negative m ≡ true
    → signed_value b negative m ≡ Some (with_sign negative m)
signed_of a b more false m h = rw (below_more (2 ^ a) (2 ^ b) m more h) refl
signed_of a b more true m h = absurd (true≢false (sym h))

-- the kind has the number of the other
pub held : (wide own : Kind) (negative : Bool) (m : ℕ) → holds_all wide own ≡ true → is_held own negative m ≡ true
    → value_of wide negative m ≡ Some (with_sign negative m)
held wide Text s m e h = absurd (true≢false (sym h))
held wide F32 s m e h = absurd (true≢false (sym h))
held wide F64 s m e h = absurd (true≢false (sym h))
held I8 I8 s m e h = signed_in 7 7 (omega arith) s m h
held I8 I16 s m e h = absurd (true≢false (sym e))
held I8 I32 s m e h = absurd (true≢false (sym e))
held I8 I64 s m e h = absurd (true≢false (sym e))
held I8 U8 s m e h = absurd (true≢false (sym e))
held I8 U16 s m e h = absurd (true≢false (sym e))
held I8 U32 s m e h = absurd (true≢false (sym e))
held I8 U64 s m e h = absurd (true≢false (sym e))
held I16 I8 s m e h = signed_in 7 15 (omega arith) s m h
held I16 I16 s m e h = signed_in 15 15 (omega arith) s m h
held I16 I32 s m e h = absurd (true≢false (sym e))
held I16 I64 s m e h = absurd (true≢false (sym e))
held I16 U8 s m e h = signed_of 8 15 (omega arith) s m h
held I16 U16 s m e h = absurd (true≢false (sym e))
held I16 U32 s m e h = absurd (true≢false (sym e))
held I16 U64 s m e h = absurd (true≢false (sym e))
held I32 I8 s m e h = signed_in 7 31 (omega arith) s m h
held I32 I16 s m e h = signed_in 15 31 (omega arith) s m h
held I32 I32 s m e h = signed_in 31 31 (omega arith) s m h
held I32 I64 s m e h = absurd (true≢false (sym e))
held I32 U8 s m e h = signed_of 8 31 (omega arith) s m h
held I32 U16 s m e h = signed_of 16 31 (omega arith) s m h
held I32 U32 s m e h = absurd (true≢false (sym e))
held I32 U64 s m e h = absurd (true≢false (sym e))
held I64 I8 s m e h = signed_in 7 63 (omega arith) s m h
held I64 I16 s m e h = signed_in 15 63 (omega arith) s m h
held I64 I32 s m e h = signed_in 31 63 (omega arith) s m h
held I64 I64 s m e h = signed_in 63 63 (omega arith) s m h
held I64 U8 s m e h = signed_of 8 63 (omega arith) s m h
held I64 U16 s m e h = signed_of 16 63 (omega arith) s m h
held I64 U32 s m e h = signed_of 32 63 (omega arith) s m h
held I64 U64 s m e h = absurd (true≢false (sym e))
held U8 I8 s m e h = absurd (true≢false (sym e))
held U8 I16 s m e h = absurd (true≢false (sym e))
held U8 I32 s m e h = absurd (true≢false (sym e))
held U8 I64 s m e h = absurd (true≢false (sym e))
held U8 U8 s m e h = unsigned_in 8 8 (omega arith) s m h
held U8 U16 s m e h = absurd (true≢false (sym e))
held U8 U32 s m e h = absurd (true≢false (sym e))
held U8 U64 s m e h = absurd (true≢false (sym e))
held U16 I8 s m e h = absurd (true≢false (sym e))
held U16 I16 s m e h = absurd (true≢false (sym e))
held U16 I32 s m e h = absurd (true≢false (sym e))
held U16 I64 s m e h = absurd (true≢false (sym e))
held U16 U8 s m e h = unsigned_in 8 16 (omega arith) s m h
held U16 U16 s m e h = unsigned_in 16 16 (omega arith) s m h
held U16 U32 s m e h = absurd (true≢false (sym e))
held U16 U64 s m e h = absurd (true≢false (sym e))
held U32 I8 s m e h = absurd (true≢false (sym e))
held U32 I16 s m e h = absurd (true≢false (sym e))
held U32 I32 s m e h = absurd (true≢false (sym e))
held U32 I64 s m e h = absurd (true≢false (sym e))
held U32 U8 s m e h = unsigned_in 8 32 (omega arith) s m h
held U32 U16 s m e h = unsigned_in 16 32 (omega arith) s m h
held U32 U32 s m e h = unsigned_in 32 32 (omega arith) s m h
held U32 U64 s m e h = absurd (true≢false (sym e))
held U64 I8 s m e h = absurd (true≢false (sym e))
held U64 I16 s m e h = absurd (true≢false (sym e))
held U64 I32 s m e h = absurd (true≢false (sym e))
held U64 I64 s m e h = absurd (true≢false (sym e))
held U64 U8 s m e h = unsigned_in 8 64 (omega arith) s m h
held U64 U16 s m e h = unsigned_in 16 64 (omega arith) s m h
held U64 U32 s m e h = unsigned_in 32 64 (omega arith) s m h
held U64 U64 s m e h = unsigned_in 64 64 (omega arith) s m h
held Text I8 s m e h = absurd (true≢false (sym e))
held Text I16 s m e h = absurd (true≢false (sym e))
held Text I32 s m e h = absurd (true≢false (sym e))
held Text I64 s m e h = absurd (true≢false (sym e))
held Text U8 s m e h = absurd (true≢false (sym e))
held Text U16 s m e h = absurd (true≢false (sym e))
held Text U32 s m e h = absurd (true≢false (sym e))
held Text U64 s m e h = absurd (true≢false (sym e))
held F32 I8 s m e h = absurd (true≢false (sym e))
held F32 I16 s m e h = absurd (true≢false (sym e))
held F32 I32 s m e h = absurd (true≢false (sym e))
held F32 I64 s m e h = absurd (true≢false (sym e))
held F32 U8 s m e h = absurd (true≢false (sym e))
held F32 U16 s m e h = absurd (true≢false (sym e))
held F32 U32 s m e h = absurd (true≢false (sym e))
held F32 U64 s m e h = absurd (true≢false (sym e))
held F64 I8 s m e h = absurd (true≢false (sym e))
held F64 I16 s m e h = absurd (true≢false (sym e))
held F64 I32 s m e h = absurd (true≢false (sym e))
held F64 I64 s m e h = absurd (true≢false (sym e))
held F64 U8 s m e h = absurd (true≢false (sym e))
held F64 U16 s m e h = absurd (true≢false (sym e))
held F64 U32 s m e h = absurd (true≢false (sym e))
held F64 U64 s m e h = absurd (true≢false (sym e))
