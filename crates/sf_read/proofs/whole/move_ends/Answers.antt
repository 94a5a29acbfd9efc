use Rattle.std.proofs.Common.{◌-◌, length, refl}
use Rattle.sf_read.proofs.EndsMoved.{ends_moved}
use Rattle.sf_read.proofs.whole.move_ends.Goals as goal

pub returns-clause-front : goal.returns-clause-front
returns-clause-front g c =
    let n = length c.args.text.now in
    ends_moved c.args.block.now c.args.text.now c.copy_from_slice.new.self c.copy_from_slice-2.new.self g.row.W (n - (n - g.row.W))
    c.requires.least c.requires.most c.copy_from_slice.ensures.after c.copy_from_slice-2.ensures.after refl
