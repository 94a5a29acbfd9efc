-- Whether two sets meet, tested byte by byte. The definition is opened here alone: at 256 tests its terms are large.
use Rattle.std.proofs.Common.{◌≡◌, ℕ, suc, ◌+◌, ◌<◌, ◌⊎◌, inl, inr, Bool, true, false, cond, eqb, ◌&&◌, refl, sym, ap, subst, ◌∙◌, arith}
use Rattle.std.proofs.lemmas.Bool.{eqb-true}
use Rattle.sf_report.specs.Machine.{some_below}
use Rattle.sf_report.specs.Laws.{EachByteIsTried}
use Rattle.sf_pair.specs.conversions.Neighbours.{Bytes, only, meet}

pub meet_at : EachByteIsTried → (s t : Bytes) (b : ℕ) → b < 256 → s b ≡ true → t b ≡ true → true ≡ meet s t
unfolding meet
meet_at tried s t b small here there = sym ((tried 256 (λ k. s k && t k)).1 (b, small, λ i. here i && there i))

pub no_meet : (s t : Bytes) (n : ℕ) → n ≡ 256 → some_below n (λ b. s b && t b) ≡ false → false ≡ meet s t
unfolding meet
no_meet s t n e h = sym (subst (λ (k : ℕ). some_below k (λ b. s b && t b) ≡ false) e h)

-- a byte more, which is in one of them at most
pub none_more : (s t : Bytes) (n : ℕ) → some_below n (λ b. s b && t b) ≡ false → (s n ≡ false) ⊎ (t n ≡ false)
    → some_below (n + 1) (λ b. s b && t b) ≡ false
none_more s t n before none =
    let more : suc n ≡ n + 1 = omega arith in
    subst (λ (k : ℕ). some_below k (λ b. s b && t b) ≡ false) more
    (ap (λ (x : Bool). cond x true (some_below n (λ b. s b && t b))) (one (s n) (t n) none) ∙ before)
  where
    one : (x y : Bool) → (x ≡ false) ⊎ (y ≡ false) → (x && y) ≡ false
    one true y (inl e) = absurd cc
    one true y (inr e) = e
    one false y none = refl

-- the one byte that a set has is in the other
pub met_by : EachByteIsTried → (b : ℕ) (t : Bytes) → meet (only b) t ≡ true → t b ≡ true
unfolding meet
met_by tried b t e =
    let (k, small, both) = (tried 256 (λ k. only b k && t k)).0 e in
    by k (eqb k b) (t k) refl refl both
  where
    by : (k : ℕ) (x y : Bool) → eqb k b ≡ x → t k ≡ y → (x && y) ≡ true → t b ≡ true
    by k true true same there h = sym (ap t (eqb-true k b same)) ∙ there
    by k true false same there h = absurd cc
    by k false y same there h = absurd cc
