-- Laws of records.
use Rattle.std.specs.Prelude.{◌≡◌, ℕ, List}
use Rattle.sf_format.specs.declared.directive.Directive.{Directive}
use Rattle.sf_format.specs.Proper.{AreProper}
use Rattle.sf_run.specs.outcome.Ending.{Ending}
use Rattle.sf_records.specs.declared.end.ToolEnd.{ToolEnd}
use Rattle.sf_records.specs.Works.{Work}
use Rattle.sf_records.specs.Records.{EndsWith}

-- the records of the input, of which a loop makes this, have this output, use so many bytes and end so, and in no other way
pub record HasOneEnd (w : Work) (ds : List Directive) (m : ℕ) (x : List ℕ) (ending : Ending) : Type 0 where
  pub output : List ℕ
  pub used : ℕ
  pub end : ToolEnd
  pub is : EndsWith w ds m x ending output used end
  pub only : (o : List ℕ) (u : ℕ) (e : ToolEnd) → EndsWith w ds m x ending o u e → (o ≡ output) × (u ≡ used) × (e ≡ end)

abbrev pub EachHasOneEnd : Type 0
EachHasOneEnd = (w : Work) (ds : List Directive) → AreProper ds → (m : ℕ) (x : List ℕ) (ending : Ending) → HasOneEnd w ds m x ending
