-- The table of two digits.
use Rattle.std.proofs.Common.{◌≡◌, ℕ, zero, suc, ◌+◌, ◌-◌, ◌*◌, ◌/◌, ◌%◌, ◌<◌, Bool, true, ◌&&◌, T, eqb, eqb→eq, get_or, eq-zero-or-pos}
use Rattle.std.proofs.Common.{inl, inr, arith}
use lib.Ieee.Fits.{and_l, and_r}
use Rattle.sf_base.specs.declared.pairs.TheConstants.{PAIRS}

abbrev are_pairs : ℕ → Bool
are_pairs zero = true
are_pairs (suc k) = (eqb (get_or PAIRS (k * 2) 0) (48 + k / 10) && eqb (get_or PAIRS (k * 2 + 1) 0) (48 + k % 10)) && are_pairs k

pairs_below : (n b : ℕ) → T (are_pairs n) → b < n → (get_or PAIRS (b * 2) 0 ≡ 48 + b / 10) × (get_or PAIRS (b * 2 + 1) 0 ≡ 48 + b % 10)
pairs_below zero b t h = absurd (omega (arith, h))
pairs_below (suc n) b t h =
    elim (eq-zero-or-pos (n - b)) [
      | inl z ↦
          let e : b ≡ n = omega (arith, h, z) in
          let both = and_l _ (are_pairs n) t in
          rw e (eqb→eq _ _ (and_l _ _ both), eqb→eq _ _ (and_r _ _ both))
      | inr g ↦ pairs_below n b (and_r _ (are_pairs n) t) (omega (arith, g))
    ]

pub pair_at : (b : ℕ) → b < 100 → (get_or PAIRS (b * 2) 0 ≡ 48 + b / 10) × (get_or PAIRS (b * 2 + 1) 0 ≡ 48 + b % 10)
pair_at b below = pairs_below 100 b tt below
