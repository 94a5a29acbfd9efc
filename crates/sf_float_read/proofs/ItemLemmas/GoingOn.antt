-- Each place can be completed, and what a byte does to what was read.
use Rattle.std.proofs.Common.{◌≡◌, ℕ, true, List, [], ◌∷◌, ◌++◌, refl, sym, subst, inl, inr, Some, None, append_assoc, append-nil}
use lib.Dec.{lit<}
use Rattle.sf_float_read.specs.declared.item.reached.Forms.{Forms}
use Rattle.sf_float_read.specs.declared.item.reached.Forms.TheVariants.{All, Decimal}
use Rattle.sf_float_read.specs.declared.item.reached.Radix.{Radix}
use Rattle.sf_float_read.specs.declared.item.reached.Radix.TheVariants.{Ten, Sixteen}
use Rattle.sf_float_read.specs.declared.item.reached.Reached.{Reached}
use Rattle.sf_float_read.specs.declared.item.reached.Reached.TheVariants as at
use Rattle.sf_float_read.specs.item.Sequences.{IsFloatOf, is_digit}
use Rattle.sf_float_read.specs.item.Steps.{Goes, Completes, HasRead, BeginsFloat, EachGoesOn}
use Rattle.sf_float_read.specs.item.Tests.{start_of}

zero_is_digit : (radix : Radix) → is_digit radix 48 ≡ true
zero_is_digit Ten = refl
zero_is_digit Sixteen = refl

pub goes_on : EachGoesOn
goes_on at.Start = (48 ∷ [], (lit< tt, tt), inr (inl (refl, tt)))
goes_on at.Signed = (48 ∷ [], (lit< tt, tt), inl (refl, tt))
goes_on at.DecimalStart = (48 ∷ [], (lit< tt, tt), inr (inl (refl, tt)))
goes_on at.DecimalSigned = (48 ∷ [], (lit< tt, tt), inl (refl, tt))
goes_on at.Zero = ([], tt, tt)
goes_on at.Prefix = (48 ∷ [], (lit< tt, tt), inl (refl, tt))
goes_on (at.Whole radix) = ([], tt, tt)
goes_on (at.Point radix) = (48 ∷ [], (lit< tt, tt), (zero_is_digit radix, tt))
goes_on (at.Fraction radix) = ([], tt, tt)
goes_on at.Letter = (48 ∷ [], (lit< tt, tt), inr (refl, tt))
goes_on at.LetterSign = (48 ∷ [], (lit< tt, tt), (refl, tt))
goes_on at.Exponent = ([], tt, tt)
goes_on at.I = (110 ∷ 102 ∷ [], (lit< tt, (lit< tt, tt)), (refl, (refl, inl refl)))
goes_on at.In = (102 ∷ [], (lit< tt, tt), (refl, inl refl))
goes_on at.Inf = ([], tt, inl refl)
goes_on at.Infi = (110 ∷ 105 ∷ 116 ∷ 121 ∷ [], (lit< tt, (lit< tt, (lit< tt, (lit< tt, tt)))), (refl, (refl, (refl, (refl, tt)))))
goes_on at.Infin = (105 ∷ 116 ∷ 121 ∷ [], (lit< tt, (lit< tt, (lit< tt, tt))), (refl, (refl, (refl, tt))))
goes_on at.Infini = (116 ∷ 121 ∷ [], (lit< tt, (lit< tt, tt)), (refl, (refl, tt)))
goes_on at.Infinit = (121 ∷ [], (lit< tt, tt), (refl, tt))
goes_on at.Infinity = ([], tt, refl)
goes_on at.N = (97 ∷ 110 ∷ [], (lit< tt, (lit< tt, tt)), (refl, (refl, tt)))
goes_on at.Na = (110 ∷ [], (lit< tt, tt), (refl, tt))
goes_on at.Nan = ([], tt, tt)
goes_on at.Open = (41 ∷ [], (lit< tt, tt), inl (refl, refl))
goes_on at.Closed = ([], tt, refl)

-- nothing was read
pub nothing_read : (forms : Forms) → HasRead forms (start_of forms) []
nothing_read All t = ((λ h. h), (λ h. h))
nothing_read Decimal t = ((λ h. h), (λ h. h))

joined : (f : List ℕ) (b : ℕ) (t : List ℕ) → (f ++ b ∷ []) ++ t ≡ f ++ b ∷ t
joined f b t = append_assoc f (b ∷ []) t

pub read_on : (forms : Forms) (r q : Reached) (f : List ℕ) (b : ℕ) → HasRead forms r f → Goes (λ t. Completes r (b ∷ t)) (Some q)
    → HasRead forms q (f ++ b ∷ [])
read_on forms r q f b h g t = (
  (λ x. (g t).0 ((h (b ∷ t)).0 (subst (IsFloatOf forms) (joined f b t) x))),
  (λ y. subst (IsFloatOf forms) (sym (joined f b t)) ((h (b ∷ t)).1 ((g t).1 y))),
)

pub begins : (forms : Forms) (r q : Reached) (f : List ℕ) (b : ℕ) → HasRead forms r f → Goes (λ t. Completes r (b ∷ t)) (Some q)
    → BeginsFloat forms (f ++ b ∷ [])
begins forms r q f b h g = let w = goes_on q in (w.0, w.1, (read_on forms r q f b h g w.0).1 w.2)

pub ends : (forms : Forms) (r : Reached) (f : List ℕ) (b : ℕ) → HasRead forms r f → Goes (λ t. Completes r (b ∷ t)) None
    → BeginsFloat forms (f ++ b ∷ []) → ⊥
ends forms r f b h g w = g w.0 ((h (b ∷ w.0)).0 (subst (IsFloatOf forms) (joined f b w.0) w.2))

pub whole : (forms : Forms) (r : Reached) (f : List ℕ) → HasRead forms r f
    → (Completes r [] → IsFloatOf forms f) × (IsFloatOf forms f → Completes r [])
whole forms r f h = (
  (λ c. subst (IsFloatOf forms) (append-nil f) ((h []).1 c)),
  (λ m. (h []).0 (subst (IsFloatOf forms) (sym (append-nil f)) m)),
)
