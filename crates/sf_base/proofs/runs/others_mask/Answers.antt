use Rattle.std.proofs.Common.{◌∙◌, ℕ, true, false, ltb, cond, bit_or, not, map, ap, refl}
use Rattle.std.proofs.lemmas.Simd.{map-map, zip2_splat, length-chunk}
use lib.Lanes.{chunk}
use Rattle.sf_base.specs.Bytes.{is_of_run}
use Rattle.sf_base.proofs.Lanes.{joined, splat_is, mask_is}
use Rattle.sf_base.proofs.runs.others_mask.Goals as goal

pub returns : goal.returns
returns c =
    let v = chunk c.args.at 16 c.args.piece.now in
    let long = length-chunk c.args.at 16 c.args.piece.now c.requires in
    rw c.if-white.false
    (mask_is (λ b. not (is_of_run false b)) _ c.args.piece.now c.args.at _ c.requires c.type_inv.piece
    (joined bit_or _ _ v (joined (λ a b. cond (ltb a b) 255 0) _ _ v (zip2_splat {Y = ℕ} _ v 16 9 long) (splat_is v 16 5 long))
    (zip2_splat {Y = ℕ} _ v 16 32 long)) refl)

pub returns-then-white : goal.returns-then-white
returns-then-white c =
    let v = chunk c.args.at 16 c.args.piece.now in
    let long = length-chunk c.args.at 16 c.args.piece.now c.requires in
    rw c.if-white.true
    (mask_is (λ b. not (is_of_run true b)) _ c.args.piece.now c.args.at _ c.requires c.type_inv.piece
    (ap (map _)
    (joined bit_or _ _ v (joined (λ a b. cond (ltb a b) 255 0) _ _ v (zip2_splat {Y = ℕ} _ v 16 9 long) (splat_is v 16 5 long))
    (zip2_splat {Y = ℕ} _ v 16 32 long)) ∙ map-map _ _ v) refl)
