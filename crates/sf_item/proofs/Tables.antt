-- The table of the values of digits.
use Rattle.std.proofs.Common.{◌≡◌, ℕ, zero, suc, ◌-◌, ◌<◌, Bool, true, ◌&&◌, T, eqb, eqb→eq, get_or, eq-zero-or-pos, inl, inr, arith}
use Rattle.std.specs.Char.{digit_value}
use lib.Ieee.Fits.{and_l, and_r}
use Rattle.sf_item.specs.declared.digits.TheConstants.{VALUES}

abbrev are_values : ℕ → Bool
are_values zero = true
are_values (suc k) = eqb (get_or VALUES k 0) (digit_value k) && are_values k

values_below : (n b : ℕ) → T (are_values n) → b < n → get_or VALUES b 0 ≡ digit_value b
values_below zero b t h = absurd (omega (arith, h))
values_below (suc n) b t h =
    elim (eq-zero-or-pos (n - b)) [
      | inl z ↦ let e : b ≡ n = omega (arith, h, z) in rw e (eqb→eq _ _ (and_l _ _ t))
      | inr g ↦ values_below n b (and_r _ (are_values n) t) (omega (arith, g))
    ]

pub value_at : (b : ℕ) → b < 256 → get_or VALUES b 0 ≡ digit_value b
value_at b below = values_below 256 b tt below
