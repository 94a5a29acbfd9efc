use Rattle.sf_read.proofs.LineLemmas.Cutting.{cut_line, cut_last, cut_none}
use Rattle.sf_read.proofs.line.laws.lines_are_cut.Goals as goal

pub returns : goal.returns
returns c line is_line = record {
  first = λ ending rest. cut_line ending line rest is_line;
  last = cut_last line is_line;
  failed =
      cut_none line is_line;
}
