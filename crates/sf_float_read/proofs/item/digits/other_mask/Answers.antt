use Rattle.std.proofs.Common.{ℕ, leb, cond, not, refl}
use Rattle.std.proofs.lemmas.Simd.{zip2_splat, length-chunk}
use Rattle.std.specs.Char.{is_ascii_digit}
use lib.Lanes.{chunk}
use Rattle.sf_float_read.proofs.ItemLemmas.EightDigits.{joined, splat_is, mask_of_eight}
use Rattle.sf_float_read.proofs.item.digits.other_mask.Goals as goal

pub returns : goal.returns
returns c =
    let v = chunk 0 8 c.args.piece.now in
    let long = length-chunk 0 8 c.args.piece.now c.requires in
    mask_of_eight (λ b. not (is_ascii_digit b)) _ c.args.piece.now _ c.requires c.type_inv.piece
    (joined (λ a b. cond (leb a b) 255 0) _ _ v (splat_is v 8 10 long) (zip2_splat {Y = ℕ} _ v 8 48 long)) refl
