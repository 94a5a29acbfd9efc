-- What is known of a matching sequence whose sign was cut off, by its form.
use Rattle.std.specs.Prelude.{◌≡◌, ◌⊎◌, ℕ, Bool, List, ◌∷◌, ◌++◌}
use Rattle.sf_float_read.specs.declared.value.form.Form.{Form}
use Rattle.sf_float_read.specs.declared.value.form.Form.TheVariants.{Decimal, Hexadecimal, Infinity, Nan}
use Rattle.sf_float_read.specs.declared.item.reached.Radix.TheVariants.{Ten, Sixteen}
use Rattle.sf_float_read.specs.item.Sequences.{IsUnsigned, IsNumber}
use Rattle.sf_float_read.specs.item.Parts.{IsSign, IsInfinity, IsNan}
use Rattle.sf_float_read.specs.value.Values.{is_minus}

abbrev pub IsForm : Form → List ℕ → Type 0
IsForm Decimal t = IsNumber Ten t
IsForm Hexadecimal t = (c : ℕ) × (numeral : List ℕ) × ((c ≡ 120) ⊎ (c ≡ 88)) × (t ≡ 48 ∷ c ∷ numeral) × IsNumber Sixteen numeral
IsForm Infinity t = IsInfinity t
IsForm Nan t = IsNan t

-- the item is a sign, or none, and a size
abbrev pub IsSplit : List ℕ → Bool → List ℕ → Type 0
IsSplit item negative size = (sign : List ℕ) × IsSign sign × (item ≡ sign ++ size) × (is_minus sign ≡ negative) × IsUnsigned size
