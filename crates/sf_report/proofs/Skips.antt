-- The white space at the front of an input.
use Rattle.std.proofs.lemmas.Grind.{common_steps}
use Rattle.std.proofs.Common.{◌≡◌, ℕ, suc, ◌<◌, ◌≤◌, Bool, true, cond, List, [], ◌∷◌, length, take, get_or, refl, arith}
use Rattle.sf_base.specs.Greatest.{IsGreatest}
use Rattle.sf_base.specs.Bytes.{is_white, AreWhite, IsSkip}
use Rattle.sf_report.specs.Computed.{skip}

pub greatest_only : {P : ℕ → Type 0} {j k : ℕ} → IsGreatest P j → IsGreatest P k → j ≡ k
greatest_only g h = grind arith

pub one_more-le : (c : Bool) (k l : ℕ) → k ≤ l → cond c (suc k) 0 ≤ suc l
one_more-le c k l h = grind arith

pub skip-le : (x : List ℕ) → skip x ≤ length x
skip-le [] = omega arith
skip-le (b ∷ x) = one_more-le (is_white b) (skip x) (length x) (skip-le x)

one_more : (b : ℕ) (x : List ℕ) (k : ℕ) → IsSkip x k → (j : ℕ) → (j ≤ length (b ∷ x)) × AreWhite (take j (b ∷ x)) → j ≤ suc k
one_more b x k h j w = grind arith

skip_step : (b : ℕ) (x : List ℕ) (c : Bool) → is_white b ≡ c → IsSkip x (skip x) → IsSkip (b ∷ x) (cond c (suc (skip x)) 0)
skip_step b x c e h = grind arith

pub skip_is : (x : List ℕ) → IsSkip x (skip x)
skip_is [] = record { holds = (omega arith, tt); above = λ j h. h.0 }
skip_is (b ∷ x) = skip_step b x (is_white b) refl (skip_is x)

pub skip_only : (x : List ℕ) (k : ℕ) → IsSkip x k → k ≡ skip x
skip_only x k h = greatest_only h (skip_is x)

-- each byte of a front of white space is some
pub white_below : (x : List ℕ) (j k : ℕ) → AreWhite (take j x) → j ≤ length x → k < j → is_white (get_or x k 0) ≡ true
white_below x j k white fits below = grind (arith, common_steps)
