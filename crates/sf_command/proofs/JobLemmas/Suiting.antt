-- Scan formats whose records can be written, one after the other.
use Rattle.std.proofs.Common.{◌≡◌, ◌∙◌, ℕ, suc, ◌+◌, ◌<◌, ◌≤◌, zero, List, [], ◌∷◌, length, drop, get_or, inl, inr, refl, sym, ap, subst}
use Rattle.std.proofs.Common.{arith}
use Rattle.std.proofs.Math.Seq.{drop-cons}
use Rattle.sf_format.specs.declared.directive.Directive.{Directive}
use Rattle.sf_messages.specs.declared.fault.CommandFault.{CommandFault}
use Rattle.sf_command.specs.declared.jobs.writing.Writing.{Writing}
use Rattle.sf_command.specs.jobs.Writings.{IsUnsuited, IsUnsuitedBy, Suits, SuitsAll}

module _ (writing : Writing) (formats : List (List Directive)) where
  -- those before are judged: what is so of these is so of all
  pub record Judged (rest : List (List Directive)) : Type 0 where
    pub all : SuitsAll writing rest → SuitsAll writing formats
    pub none : (fault : CommandFault) → IsUnsuited writing rest fault → IsUnsuited writing formats fault

  stands_next : (i : ℕ) (ds : List Directive) → i < length formats → ds ≡ get_or formats i ds
      → drop i formats ≡ ds ∷ drop (i + 1) formats
  stands_next i ds lt is =
      let on : i + 1 ≡ suc i = omega arith in
      drop-cons formats i ds lt ∙ ap (λ (x : List Directive). x ∷ drop (suc i) formats) (sym is) ∙ ap (λ n. ds ∷ drop n formats) (sym on)

  pub judged_none : Judged formats
  judged_none = record { all = λ h. h; none = λ fault h. h }

  pub judged_next : (i : ℕ) (ds : List Directive) → i < length formats → ds ≡ get_or formats i ds → Suits writing ds
      → Judged (drop i formats) → Judged (drop (i + 1) formats)
  judged_next i ds lt is suits judged =
      let next = stands_next i ds lt is in
      record {
        all = λ h. judged.all (subst (SuitsAll writing) (sym next) (suits, h));
        none = λ fault h. judged.none fault (subst (λ fs. IsUnsuited writing fs fault) (sym next) (inr (suits, h)));
      }

  pub unsuited_at : (i : ℕ) (ds : List Directive) → i < length formats → ds ≡ get_or formats i ds → (fault : CommandFault)
      → IsUnsuitedBy writing ds fault → Judged (drop i formats) → IsUnsuited writing formats fault
  unsuited_at i ds lt is fault bad judged =
      judged.none fault (subst (λ fs. IsUnsuited writing fs fault) (sym (stands_next i ds lt is)) (inl bad))

  empty : {A : Type 0} (xs : List A) (i : ℕ) → length xs ≤ i → drop i xs ≡ []
  empty [] zero le = refl
  empty [] (suc i) le = refl
  empty (x ∷ xs) zero le = absurd (omega (arith, le))
  empty (x ∷ xs) (suc i) le = empty xs i (omega (arith, le))

  pub all_judged : (i : ℕ) → length formats ≤ i → Judged (drop i formats) → SuitsAll writing formats
  all_judged i le judged = judged.all (subst (SuitsAll writing) (sym (empty formats i le)) tt)
