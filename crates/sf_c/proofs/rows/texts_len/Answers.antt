use Rattle.std.proofs.Common.{◌∙◌, ap, length}
use Rattle.sf_c.specs.Values.{text_given}
use Rattle.sf_c.proofs.Cells.{texts_over}
use Rattle.sf_c.proofs.rows.texts_len.Goals as goal

pub returns-then-room-len-clause-fits : goal.returns-then-room-len-clause-fits
returns-then-room-len-clause-fits g c = (
  λ none. cc,
  λ fits. absurd (texts_over c.loop-index.index c.args.slots c.args.room c.loop-index.len _ c.args.report.now.values c.loop-index-test.true
      c.loop-index.invariant.len (ap length (c.text_of-text.ensures ∙ ap text_given c.value.ensures)) c.if-room-len.true
      c.loop-index.invariant.few fits),
)
