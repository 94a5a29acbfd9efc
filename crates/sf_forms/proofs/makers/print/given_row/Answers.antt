use Rattle.std.proofs.Common.{arith}
use Rattle.std.specs.Option.{option_map}
use Rattle.sf_base.specs.Data.{datum_of}
use Rattle.sf_forms.specs.makers.Prints.{printed_at}
use Rattle.sf_forms.proofs.MakerLemmas.RowSlots.{with_next}
use Rattle.sf_forms.proofs.makers.print.given_row.Goals as goal

pub loop-before-preserved : goal.loop-before-preserved
loop-before-preserved g c =
    let l = c.loop-before in
    record {
      few = omega (arith, c.push.ensures.len, l.invariant.few);
      are = with_next (option_map datum_of) (printed_at c.args.print.now c.args.report.now.values) l.before l.given.items _
          c.value_at.result l.invariant.are c.value_at.ensures c.push.ensures.items;
    }
