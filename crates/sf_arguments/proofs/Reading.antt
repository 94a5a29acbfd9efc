-- The bytes of a word whose value is a text.
use Rattle.std.proofs.Common.{◌≡◌, ◌∙◌, ◌⊎◌, inl, inr, ℕ, List, length, ap, refl, sym, subst}
use Rattle.sf_base.specs.Data.{Datum}
use Rattle.sf_base.specs.Data.Datum.{Bytes}
use Rattle.sf_base.specs.declared.values.Kind.{Kind}
use Rattle.sf_format.specs.declared.unit.PrintLetter.{PrintLetter}
use Rattle.sf_format.specs.declared.unit.PrintLetter.TheVariants as letter
use Rattle.sf_arguments.specs.Readings.{Reads}
use Rattle.sf_arguments.specs.declared.word_reading.WordReading.{WordReading}
use Rattle.sf_arguments.specs.Words.{IsReading, StandsFor}
use Rattle.sf_arguments.proofs.Readings.{one_list}

pub text_read : (how : WordReading) (kind : Kind) (word given bytes : List ℕ) → given ≡ word → Reads how given bytes
    → (value : Datum) × StandsFor how letter.Text kind word value
text_read how kind word given bytes same good = (Bytes bytes, (bytes, subst (λ (w : List ℕ). Reads how w bytes) same good, refl))

pub one_read : (how : WordReading) (kind : Kind) (word given bytes : List ℕ) → given ≡ word → Reads how given bytes → length bytes ≡ 1
    → (value : Datum) × StandsFor how letter.One kind word value
one_read how kind word given bytes same good one = (Bytes bytes, (bytes, subst (λ (w : List ℕ). Reads how w bytes) same good, one, refl))

-- a word that stands for a text stands for the bytes that were read of it
pub text_stands : (how : WordReading) (l : PrintLetter) → (l ≡ letter.Text) ⊎ (l ≡ letter.One)
    → (kind : Kind) (word bytes : List ℕ) (value : Datum)
    → IsReading how l word bytes → StandsFor how l kind word value
    → StandsFor how l kind word (Bytes bytes)
text_stands how l (inl is) kind word bytes value reading stands =
    let P : PrintLetter → Type 0 = λ x. IsReading how x word bytes → StandsFor how x kind word value
    → StandsFor how x kind word (Bytes bytes) in
    let held : P letter.Text = λ good _. (bytes, good, refl) in
    (subst P (sym is) held) reading stands
text_stands how l (inr is) kind word bytes value reading stands =
    let P : PrintLetter → Type 0 = λ x. IsReading how x word bytes → StandsFor how x kind word value
    → StandsFor how x kind word (Bytes bytes) in
    let held : P letter.One = λ good (others, fine, one, _). (
      bytes,
      good,
      ap (length {A = ℕ}) (one_list how word bytes others good fine) ∙ one,
      refl,
    ) in
    (subst P (sym is) held) reading stands
