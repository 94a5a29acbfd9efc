-- The steps of the search.
use Rattle.std.proofs.Common.{◌≡◌, ◌≢◌, ℕ, zero, suc, ◌+◌, ◌-◌, ◌/◌, ◌%◌, ◌<◌, ◌≤◌, ◌∙◌, Some, None, refl, sym, ap, arith}
use Rattle.std.proofs.lemmas.Bool.{eq-eqb, ne_eqb}
use Rattle.sf_base.specs.declared.real.Real as real
use Rattle.sf_float.specs.fewest.Digits.{number_of, near, or_else, tried, searched, trimmed}

pub searched_found : (r : real.Real) (k last n : ℕ) → 0 < k → Some n ≡ tried r last → searched r k last ≡ (n, last)
unfolding searched
searched_found r zero last n K e = absurd (omega (arith, K))
searched_found r (suc k) last n K e = ap (λ t. or_else t last (searched r k (last - 1))) (sym e)

pub searched_next : (r : real.Real) (k last : ℕ) → 0 < k → None ≡ tried r last → searched r k last ≡ searched r (k - 1) (last - 1)
unfolding searched
searched_next r zero last K e = absurd (omega (arith, K))
searched_next r (suc k) last K e =
    let p : suc k - 1 ≡ k = omega arith in
    rw p (ap (λ t. or_else t last (searched r k (last - 1))) (sym e))

-- the search begins where one may be found
pub searched_after : (r : real.Real) (most first k : ℕ) → k ≤ most → ((j : ℕ) → j < k → tried r (first - j) ≡ None)
    → searched r most first ≡ searched r (most - k) (first - k)
searched_after r most first zero l none =
    let e : most ≡ most - 0 = omega arith in
    let f : first ≡ first - 0 = omega arith in
    λ i. searched r (e i) (f i)
searched_after r most first (suc k) l none =
    let e : most - k - 1 ≡ most - suc k = omega arith in
    let f : first - k - 1 ≡ first - suc k = omega arith in
    searched_after r most first k (omega (arith, l)) (λ j h. none j (omega (arith, h)))
    ∙ searched_next r (most - k) (first - k) (omega (arith, l)) (sym (none k (omega arith)))
    ∙ (λ i. searched r (e i) (f i))

pub trimmed_next : (k n last : ℕ) → 0 < k → n % 10 ≡ 0 → trimmed k n last ≡ trimmed (k - 1) (n / 10) (last + 1)
unfolding trimmed
trimmed_next zero n last K e = absurd (omega (arith, K))
trimmed_next (suc k) n last K e = let p : suc k - 1 ≡ k = omega arith in rw (p, eq-eqb (n % 10) 0 e) refl

pub trimmed_end : (k n last : ℕ) → n % 10 ≢ 0 → trimmed k n last ≡ (n, last)
unfolding trimmed
trimmed_end zero n last e = refl
trimmed_end (suc k) n last e = rw (ne_eqb (n % 10) 0 e) refl

pub searched_last : (r : real.Real) (k last : ℕ) → k ≡ 0 → searched r k last ≡ (near (number_of r) last, last)
unfolding searched
searched_last r zero last e = refl
searched_last r (suc k) last e = absurd (omega (arith, e))

pub trimmed_none : (k n last : ℕ) → k ≡ 0 → trimmed k n last ≡ (n, last)
unfolding trimmed
trimmed_none zero n last e = refl
trimmed_none (suc k) n last e = absurd (omega (arith, e))
