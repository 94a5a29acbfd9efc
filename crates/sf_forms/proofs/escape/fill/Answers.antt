use Rattle.std.proofs.Common.{◌∙◌}
use Rattle.sf_forms.proofs.escape.fill.Goals as goal

pub loop-done-preserved : goal.loop-done-preserved
loop-done-preserved c =
    let next = c.write_next-next.ensures in
    record {
      within = next.within;
      end = next.end;
      written = next.written ∙ c.loop-done.invariant.written;
    }
