use Rattle.std.proofs.Common.{◌∙◌}
use Rattle.sf_format.specs.Proper.{AreProper}
use Rattle.std.proofs.Common.{ap}
use Rattle.std.proofs.lemmas.List.{take_all}
use Rattle.sf_records.specs.by_lines.Rooms.{most_width}
use Rattle.sf_records.proofs.LinewiseLemmas.Choosing.{all_more, all_taken}
use Rattle.sf_records.proofs.LinewiseLemmas.Rooms.{most_more}
use Rattle.sf_records.proofs.by_lines.lines.room_for.Goals as goal

pub loop-format-preserved : goal.loop-format-preserved
loop-format-preserved c =
    let l = c.loop-format in
    record {
      proper = all_more AreProper c.args.formats.now l.format-index c.format-item.result c.loop-format-test.true c.format-item.is
          l.invariant.proper c.width_of.ensures.proper;
      most = c.wider-room.ensures ∙ most_more c.args.formats.now l.format-index c.format-item.result l.room _ c.loop-format-test.true
          c.format-item.is l.invariant.most c.width_of.ensures.width;
    }

pub returns : goal.returns
returns c = record {
  proper = all_taken AreProper c.args.formats.now c.loop-format.format-index c.loop-format-test.false c.loop-format.invariant.proper;
  most = c.loop-format.invariant.most ∙ ap most_width (take_all c.loop-format.format-index c.args.formats.now c.loop-format-test.false);
}
