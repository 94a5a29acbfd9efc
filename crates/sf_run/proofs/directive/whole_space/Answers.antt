use Rattle.std.proofs.Common.{◌<◌, length, refl, arith}
use Rattle.sf_run.proofs.Pieces.{space_ends}
use Rattle.sf_run.proofs.directive.whole_space.Goals as goal

pub returns : goal.returns
returns c n =
    let e = c.space_before-before.ensures in
    let below : c.space_before-before.result < length c.args.piece.now = omega (arith, e.within, c.if-before-piece.false) in
    record {
      ends = λ sound. (space_ends c.args.piece.now n c.space_before-before.result e.within e.white below (e.next below)).goes;
      fits = record { within = omega (arith, e.within); given = λ ok some. refl; number = tt; memory = refl };
    }
