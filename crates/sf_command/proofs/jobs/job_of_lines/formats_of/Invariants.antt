use Rattle.std.proofs.Common.{drop, map, string_bytes}
use Rattle.sf_command.proofs.JobLemmas.LineWords.{Opened}
use Rattle.sf_command.proofs.jobs.job_of_lines.formats_of.Given as goal

-- the formats of the words so far
abbrev pub invariant-loop-given : goal.invariant-loop-given
invariant-loop-given l = Opened l.strict l.profile (map string_bytes l.words) (map string_bytes (drop l.given-index l.words))
    l.formats.items
