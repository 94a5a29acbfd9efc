use Rattle.std.proofs.Common.{◌∙◌, sym}
use Rattle.std.proofs.lemmas.List.{length-map}
use Rattle.sf_forms.specs.Columns.{texts}
use Rattle.sf_forms.specs.makers.Names.{IsCounted}
use Rattle.sf_forms.proofs.MakerLemmas.Naming.{all_taken, first_uncounted}
use Rattle.sf_forms.proofs.makers.names.check_counts.Goals as goal

pub returns : goal.returns
returns c = record {
  counted = all_taken (IsCounted (texts c.args.names.now)) c.args.formats.now c.loop-format.format-index c.loop-format-test.false
      c.loop-format.invariant;
  fault = tt;
}

pub returns-then-expected-got-clause-fault : goal.returns-then-expected-got-clause-fault
returns-then-expected-got-clause-fault c tagged = (
  first_uncounted (texts c.args.names.now) c.args.formats.now c.loop-format.format-index c.format-item.result
      c.destinations-expected.result c.loop-format-test.true c.format-item.is c.loop-format.invariant
      c.destinations-expected.ensures.count (λ e. c.if-expected-got.true (e ∙ length-map c.args.names.now _)),
  sym (length-map c.args.names.now _),
)
