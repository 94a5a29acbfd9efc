use Rattle.std.proofs.Common.{◌≡◌, ◌≢◌, ◌++◌, [], length}
use Rattle.sf_read.specs.source.Scripts.{given, events}
use Rattle.sf_read.proofs.source.script_source.ScriptSource.advance.Given as goal

abbrev pub invariant-steps : goal.invariant-steps
invariant-steps l =
    (given l.self-inside.present.now ++ events l.self-inside.steps.now
    ≡ given l.initial.self-inside.present.now ++ events l.initial.self-inside.steps.now)
    × (l.self-inside.reads ≡ l.initial.self-inside.reads)
    × (l.self-inside.failures ≡ l.initial.self-inside.failures)
    × (l.initial.self-inside.present.now ≢ [] → l.self-inside.present.now ≡ l.initial.self-inside.present.now)

abbrev pub decreases-steps : goal.decreases-steps
decreases-steps l = length l.self-inside.steps.now
