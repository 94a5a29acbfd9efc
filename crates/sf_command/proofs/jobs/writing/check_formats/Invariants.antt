use Rattle.std.proofs.Common.{drop}
use Rattle.sf_command.proofs.JobLemmas.Suiting.{Judged}
use Rattle.sf_command.proofs.jobs.writing.check_formats.Given as goal

-- the records of the formats before can be written so
abbrev pub invariant-loop-format : goal.invariant-loop-format
invariant-loop-format l = Judged l.writing l.formats (drop l.format-index l.formats)
