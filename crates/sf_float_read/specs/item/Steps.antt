-- What completes a matching sequence that was read so far (C11 7.21.6.2p9: an input item is a matching sequence or a front of one).
use Rattle.std.specs.Prelude.{◌≡◌, ℕ, ◌<◌, List, [], ◌∷◌, ◌++◌, ⊤, Option, Some, None}
use Rattle.sf_float_read.specs.declared.item.reached.Forms.{Forms}
use Rattle.sf_float_read.specs.declared.item.reached.Radix.TheVariants.{Ten, Sixteen}
use Rattle.sf_float_read.specs.declared.item.reached.Reached.{Reached}
use Rattle.sf_float_read.specs.declared.item.reached.Reached.TheVariants as at
use Rattle.sf_float_read.specs.item.Sequences.{IsDecimal, AllDecimal, IsSignedDecimal, IsFraction, IsSomeFraction, IsWhole, IsNumber}
use Rattle.sf_float_read.specs.item.Sequences.{SpellsWord, Begins, IsPayload, IsNanTail, IsInfinityTail, IsZeroTail, IsUnsigned}
use Rattle.sf_float_read.specs.item.Sequences.{IsFloat, IsDecimalFloat, IsFloatOf}

abbrev pub AllBytes : List ℕ → Type 0
AllBytes [] = ⊤
AllBytes (b ∷ t) = (b < 256) × AllBytes t

abbrev pub Completes : Reached → List ℕ → Type 0
Completes at.Start t = IsFloat t
Completes at.Signed t = IsUnsigned t
Completes at.DecimalStart t = IsDecimalFloat t
Completes at.DecimalSigned t = IsNumber Ten t
Completes at.Zero t = IsZeroTail t
Completes at.Prefix t = IsNumber Sixteen t
Completes (at.Whole radix) t = IsWhole radix t
Completes (at.Point radix) t = IsSomeFraction radix t
Completes (at.Fraction radix) t = IsFraction radix t
Completes at.Letter t = IsSignedDecimal t
Completes at.LetterSign t = IsDecimal t
Completes at.Exponent t = AllDecimal t
Completes at.I t = Begins (110 ∷ 102 ∷ []) IsInfinityTail t
Completes at.In t = Begins (102 ∷ []) IsInfinityTail t
Completes at.Inf t = IsInfinityTail t
Completes at.Infi t = SpellsWord (110 ∷ 105 ∷ 116 ∷ 121 ∷ []) t
Completes at.Infin t = SpellsWord (105 ∷ 116 ∷ 121 ∷ []) t
Completes at.Infini t = SpellsWord (116 ∷ 121 ∷ []) t
Completes at.Infinit t = SpellsWord (121 ∷ []) t
Completes at.Infinity t = t ≡ []
Completes at.N t = Begins (97 ∷ 110 ∷ []) IsNanTail t
Completes at.Na t = Begins (110 ∷ []) IsNanTail t
Completes at.Nan t = IsNanTail t
Completes at.Open t = IsPayload t
Completes at.Closed t = t ≡ []

-- what completes the one completes the other after a byte; or nothing does
abbrev pub Goes : (List ℕ → Type 0) → Option Reached → Type 0
Goes P None = (t : List ℕ) → P t → ⊥
Goes P (Some q) = (t : List ℕ) → (P t → Completes q t) × (Completes q t → P t)

-- the bytes f of these forms were read: what completes them is what completes the sequence from there
abbrev pub HasRead : Forms → Reached → List ℕ → Type 0
HasRead forms r f = (t : List ℕ) → (IsFloatOf forms (f ++ t) → Completes r t) × (Completes r t → IsFloatOf forms (f ++ t))

-- the bytes are a matching sequence or a front of one (C11 7.21.6.2p9); no width bounds what may follow
abbrev pub BeginsFloat : Forms → List ℕ → Type 0
BeginsFloat forms f = (t : List ℕ) × AllBytes t × IsFloatOf forms (f ++ t)

-- each place can be completed
abbrev pub EachGoesOn : Type 0
EachGoesOn = (r : Reached) → (t : List ℕ) × AllBytes t × Completes r t
