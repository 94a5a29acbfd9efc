-- A value as the writer takes it.
use Rattle.std.specs.Prelude.{◌≡◌, ◌<◌, ◌^◌, true, []}
use Rattle.sf_base.specs.Data.{Datum}
use Rattle.sf_base.specs.Data.Datum.{Number, Bytes, Real}
use Rattle.sf_print.specs.declared.texts.text.Printable.{Printable}
use Rattle.sf_print.specs.declared.texts.text.Printable.TheVariants as printable
use Rattle.sf_print.specs.texts.Text.{with_sign}

-- the sign and the magnitude are the value's, or the bytes are; a float has none
abbrev pub IsOf : Printable → Datum → Type 0
IsOf (printable.Number negative m) (Number k z) = (z ≡ with_sign negative m) × (negative ≡ true → 0 < m) × (m < 2 ^ 64)
IsOf (printable.Bytes bytes) (Bytes bs) = bytes.now ≡ bs
IsOf (printable.Bytes bytes) (Real r) = bytes.now ≡ []
IsOf _ _ = ⊥
