use Rattle.std.proofs.Common.{◌≡◌, ◌≤◌, ◌<◌, ◌+◌, ℕ, true, ◌⊎◌, inl, inr, arith, subst, sym}
use Rattle.std.proofs.lemmas.Bool.{cases_order}
use Rattle.sf_forms.specs.makers.Prints.{suits}
use Rattle.sf_forms.proofs.makers.printable.check_print.Goals as goal

one_more : (P : ℕ → Type 0) (n : ℕ) → ((k : ℕ) → 1 ≤ k → k < n + 1 → P k) → P (n + 1) → (k : ℕ) → 1 ≤ k → k < n + 1 + 1 → P k
one_more P n before this k some less = by (cases_order k (n + 1))
  where
    by : (k ≡ n + 1) ⊎ ((k < n + 1) ⊎ (n + 1 < k)) → P k
    by (inl e) = subst P (sym e) this
    by (inr (inl lower)) = before k some lower
    by (inr (inr above)) = absurd (omega (arith, less, above))

pub loop-before-preserved : goal.loop-before-preserved
loop-before-preserved c = one_more (λ slot. suits c.args.print.now c.args.scan.now slot ≡ true) c.loop-before.before
    c.loop-before.invariant c.in_default.ensures
