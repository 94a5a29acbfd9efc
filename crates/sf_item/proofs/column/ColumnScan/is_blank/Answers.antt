use Rattle.std.proofs.Common.{sym, ◌∙◌}
use Rattle.sf_item.specs.ColumnScans.{conversion_of}
use Rattle.sf_item.proofs.ColumnReadings.{blank_is, not_blank}
use Rattle.sf_item.proofs.column.ColumnScan.is_blank.Goals as goal

pub returns-in_default : goal.returns-in_default
returns-in_default c = λ f h.
    let scan = c.args.self.now in
    sym (not_blank scan.place c.in_default.not-Blank) ∙ blank_is (conversion_of scan) scan.reading scan.place f h.reached.1
