use Rattle.std.proofs.Common.{ℕ}
use Rattle.std.proofs.lemmas.Simd.{zip2_splat, length-chunk}
use lib.Lanes.{chunk}
use Rattle.sf_item.proofs.eight.values_of.Goals as goal

pub returns : goal.returns
returns c = zip2_splat {Y = ℕ} _ (chunk 0 8 c.args.piece.now) 8 48 (length-chunk 0 8 c.args.piece.now c.requires)
