use Rattle.std.proofs.Common.{arith, length, ◌+◌, ◌-◌}
use Rattle.std.proofs.lemmas.Slice.{drop-put_mid}
use Rattle.sf_c.proofs.rows.lay_down.Goals as goal

pub returns-clause-rest : goal.returns-clause-rest
returns-clause-rest c =
    drop-put_mid c.args.at (c.args.at + length c.args.text.now - c.args.at) c.args.texts.now c.copy_from_slice.new.self _
    (omega (arith, c.requires)) (omega (arith, c.requires)) (omega (arith, c.copy_from_slice.ensures.len))
