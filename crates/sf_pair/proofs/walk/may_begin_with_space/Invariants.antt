use Rattle.std.proofs.Common.{◌≡◌, ◌&&◌, false}
use Rattle.sf_base.specs.Bytes.{is_white}
use Rattle.sf_report.specs.Machine.{some_below}
use Rattle.sf_pair.specs.conversions.Neighbours.{first_by}
use Rattle.sf_pair.proofs.walk.may_begin_with_space.Given as goal

abbrev pub invariant-loop-k : goal.invariant-loop-k
invariant-loop-k l = some_below l.k (λ b. first_by l.unit l.read b && is_white b) ≡ false
