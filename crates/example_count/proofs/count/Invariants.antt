use Rattle.std.proofs.Common.{Some}
use Rattle.sf_scanf.specs.Counts.{Counting}
use Rattle.sf_scanf.specs.Rows.{slots_by}
use Rattle.example_count.proofs.count.Given as goal

-- so many rows were answered
abbrev pub invariant-loop-number : goal.invariant-loop-number
invariant-loop-number g l = Counting (λ s. Some s.to_come) (λ s. s.reads)
    (λ s. 0) 64 g.T.Row.kinds (slots_by g.T.Row.given g.T.Row.listed) l.initial.records l.records l.number
