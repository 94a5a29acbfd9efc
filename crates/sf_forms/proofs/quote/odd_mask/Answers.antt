use Rattle.std.proofs.Common.{ℕ, leb, cond, bit_or, not, refl}
use Rattle.std.proofs.lemmas.Simd.{zip2_splat, length-chunk}
use lib.Lanes.{chunk}
use Rattle.sf_base.proofs.Lanes.{joined, splat_is, mask_is}
use Rattle.sf_forms.specs.Quotes.{is_plain}
use Rattle.sf_forms.proofs.quote.odd_mask.Goals as goal

pub returns : goal.returns
returns c =
    let v = chunk c.args.at 16 c.args.bytes.now in
    let long = length-chunk c.args.at 16 c.args.bytes.now c.requires in
    mask_is (λ b. not (is_plain b)) _ c.args.bytes.now c.args.at _ c.requires c.type_inv.bytes
    (joined bit_or _ _ v (joined bit_or _ _ v (joined (λ a b. cond (leb a b) 255 0) _ _ v (splat_is v 16 95 long)
    (zip2_splat {Y = ℕ} _ v 16 32 long)) (zip2_splat {Y = ℕ} _ v 16 34 long)) (zip2_splat {Y = ℕ} _ v 16 92 long)) refl
