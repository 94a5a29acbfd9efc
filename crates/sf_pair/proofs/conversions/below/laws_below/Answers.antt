use Rattle.sf_pair.proofs.conversions.below.laws_below.Goals as goal

pub returns : goal.returns
returns c = record {
  kinds = c.slots_have_kinds.ensures;
  numerals = c.are_numerals.ensures;
  only_numeral = c.only_numeral.ensures;
  floats = c.tests_are_sequences.ensures;
  plain = c.plain_floats_parse.ensures;
  stored = c.stored_is_computed.ensures;
  fronts = c.fronts_go_on.ensures.front;
  parts = c.fronts_go_on.ensures.parts;
  steps = c.steps_are_computed.ensures.step;
  within = c.steps_are_computed.ensures.within;
  machine = c.steps_are_computed.ensures.machine;
  runs = c.runs_are_computed.ensures.steps;
  told = c.runs_are_computed.ensures.report;
  reports = c.one_report.ensures;
  tried = c.bytes_are_tried.ensures;
}
