-- The place after one more byte.
use Rattle.std.proofs.Common.{◌≡◌, ◌==◌, ◌+◌, ◌-◌, ◌^◌, ℕ, min, List, [], ◌∷◌, ◌++◌, inr, refl, sym, arith, append-nil}
use Rattle.std.proofs.lemmas.List.Sums.{sum_by_push}
use Rattle.std.specs.List.{count_by}
use Rattle.std.specs.Prelude.{cond}
use Rattle.sf_messages.specs.declared.places.place.Place.{Place}
use Rattle.sf_messages.specs.places.Behind.{IsBehind}

-- a line end
pub behind_end : (before : List ℕ) (old : Place) (next : ℕ) → next ≡ min (old.line + 1) (2 ^ 64 - 1) → IsBehind before old
    → IsBehind (before ++ 10 ∷ []) (record { line = next; column = 1 })
behind_end before old next is at = record {
  lines = before ++ 10 ∷ [];
  line = [];
  all = sym (append-nil (before ++ 10 ∷ []));
  ended = inr (before, refl);
  unended = tt;
  number =
      let more : count_by (λ b. b == 10) (before ++ 10 ∷ []) ≡ count_by (λ b. b == 10) before + 1 =
      sum_by_push (λ b. cond (b == 10) 1 0) before 10 in
      let old_is = at.number in
      omega (arith, is, more, old_is);
  column = omega arith;
}
