-- A line with its newline after it.
use Rattle.std.proofs.Common.{ℕ, ◌≡◌, ◌+◌, ◌∷◌, ◌++◌, ◌∙◌, List, [], length, ap, subst, append-nil, length-append}
use Rattle.sf_format.specs.declared.directive.Directive.{Directive}
use Rattle.sf_run.specs.outcome.Ending.TheVariants.{End}
use Rattle.sf_run.specs.Limits.{RunWithin}
use Rattle.sf_run.specs.Runs.{RunReport}

pub ended_length : (line ended : List ℕ) → ended ≡ line ++ 10 ∷ [] → length ended ≡ length line + 1
ended_length line ended is = ap length is ∙ length-append line (10 ∷ [])

pub with_newline : (ds : List Directive) (m : ℕ) (line ended : List ℕ) (r : RunReport) → ended ≡ line ++ 10 ∷ []
    → RunWithin ds m (ended ++ []) End r → RunWithin ds m (line ++ 10 ∷ []) End r
with_newline ds m line ended r is run = subst (λ (x : List ℕ). RunWithin ds m x End r) (append-nil ended ∙ is) run
