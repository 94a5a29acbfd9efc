use Rattle.std.proofs.Common.{ℕ, ltb, cond, bit_or, refl}
use Rattle.std.proofs.lemmas.Simd.{zip2_splat, length-chunk}
use lib.Lanes.{chunk}
use Rattle.sf_base.specs.Bytes.{is_white}
use Rattle.sf_base.proofs.Lanes.{joined, splat_is, mask_is}
use Rattle.sf_pair.proofs.quick.white_mask.Goals as goal

pub returns : goal.returns
returns c =
    let v = chunk c.args.at 16 c.args.bytes.now in
    let long = length-chunk c.args.at 16 c.args.bytes.now c.requires in
    mask_is is_white _ c.args.bytes.now c.args.at _ c.requires c.type_inv.bytes
    (joined bit_or _ _ v (joined (λ a b. cond (ltb a b) 255 0) _ _ v (zip2_splat {Y = ℕ} _ v 16 9 long) (splat_is v 16 5 long))
    (zip2_splat {Y = ℕ} _ v 16 32 long)) refl
