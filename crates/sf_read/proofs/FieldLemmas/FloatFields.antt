-- Floats that are read of values, and written as values again.
use Rattle.std.proofs.Common.{◌≡◌, ℕ, Option, Some, sym, ap, ◌∙◌}
use Rattle.std.specs.Prelude.{to_bits, from_bits, T}
use Rattle.std.specs.Float.Ieee.{Float, Format, binary32, binary64, fits}
use lib.Ieee.Bits.{of_bits-to_bits}
use Rattle.sf_base.specs.Data.{Datum, Number, Bytes, Real, f32_in, f64_in}
use Rattle.sf_base.specs.declared.real.Real.TheVariants as reals
use Rattle.sf_report.specs.Rows.{IsReadable}

-- the pattern of what the pattern of a float stands for is that pattern
back : (f : Format) (x : Float) (bits : ℕ) → T (fits f x) → bits ≡ to_bits f x → to_bits f (from_bits f bits) ≡ bits
back f x bits h e = ap (λ b. to_bits f (from_bits f b)) e ∙ ap (to_bits f) (of_bits-to_bits f x h) ∙ sym e

pub f32_back : (v : Datum) (o : Option Float) (x : Float) → IsReadable v → o ≡ f32_in v → o ≡ Some x
    → Real (reals.F32 (to_bits binary32 x)) ≡ v
f32_back (Number kind n) o x readable is some = absurd cc
f32_back (Bytes text) o x readable is some = absurd cc
f32_back (Real (reals.F64 bits)) o x readable is some = absurd cc
f32_back (Real (reals.F32 bits)) o x (y, h, e) is some =
    let own : x ≡ from_bits binary32 bits = cc in
    ap (λ b. Real (reals.F32 b)) (ap (to_bits binary32) own ∙ back binary32 y bits h e)

pub f64_back : (v : Datum) (o : Option Float) (x : Float) → IsReadable v → o ≡ f64_in v → o ≡ Some x
    → Real (reals.F64 (to_bits binary64 x)) ≡ v
f64_back (Number kind n) o x readable is some = absurd cc
f64_back (Bytes text) o x readable is some = absurd cc
f64_back (Real (reals.F32 bits)) o x readable is some = absurd cc
f64_back (Real (reals.F64 bits)) o x (y, h, e) is some =
    let own : x ≡ from_bits binary64 bits = cc in
    ap (λ b. Real (reals.F64 b)) (ap (to_bits binary64) own ∙ back binary64 y bits h e)
