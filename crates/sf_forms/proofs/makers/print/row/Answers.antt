use Rattle.std.proofs.Common.{◌+◌, arith, sym}
use Rattle.sf_base.specs.Data.{datum_of}
use Rattle.sf_forms.specs.makers.Prints.{printed_at}
use Rattle.sf_forms.proofs.MakerLemmas.RowSlots.{with_some}
use Rattle.sf_forms.proofs.makers.print.row.Goals as goal

pub loop-before-preserved : goal.loop-before-preserved
loop-before-preserved g c =
    let l = c.loop-before in
    record {
      few = omega (arith, c.push.ensures.len, l.invariant.few);
      are = with_some datum_of (printed_at c.args.print.now c.args.report.now.values) l.before l.values.items _ c.in-Some.value
          l.invariant.are c.in-Some.ensures c.push.ensures.items;
    }

-- the slot that is missing is that of this turn
pub returns-in-None-clause-missing : goal.returns-in-None-clause-missing
returns-in-None-clause-missing g c =
    (c.loop-before.before + 1, omega arith, omega (arith, c.loop-before-test.true), sym c.in-None.ensures)
