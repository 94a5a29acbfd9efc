use Rattle.std.proofs.Common.{rules}
use Rattle.sf_command.proofs.line_jobs.lines.lines_told.Goals as goal

-- the voice says of lines what it does, and knows where directives stand
pub invariant_of-notes : goal.invariant_of-notes
invariant_of-notes g c = record { some = c.requires.said; known = c.requires.known }

pub returns : goal.returns
returns g c telling says = search (rules, c.loop_lines.ensures.runs telling says, c.loop_lines.ensures.kept)
