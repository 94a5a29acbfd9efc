-- Texts whose run is seen at once to be Done, with a newline after them (C11 7.21.6.7).
use Rattle.std.specs.Prelude.{◌<◌, ◌⊎◌, ℕ, List, [], ◌∷◌, ◌++◌, length}
use Rattle.sf_format.specs.declared.directive.Directive.{Directive}
use Rattle.sf_format.specs.Unbounded.{EndsUnbounded}
use Rattle.sf_run.specs.Quick.{IsDoneWithin}

-- The run on the text and a newline is Done before the newline is used, and a store of this capacity has room for its texts. Where it uses
-- all of the text, the last item could go on, so that the run has met the end of the text.
pub record IsSeenAtOnce (ds : List Directive) (limit : ℕ) (text : List ℕ) (capacity : ℕ) : Type 0 where
  pub done : IsDoneWithin ds limit (text ++ 10 ∷ []) capacity
  pub ends : (done.report.used < length text) ⊎ EndsUnbounded ds
