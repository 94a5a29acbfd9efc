use Rattle.std.proofs.Common.{ℕ, bit_or, not, refl}
use Rattle.std.proofs.lemmas.Simd.{zip2_splat, length-chunk}
use lib.Lanes.{chunk}
use Rattle.sf_base.proofs.Lanes.{joined, mask_is}
use Rattle.sf_forms.specs.Csv.{is_bare}
use Rattle.sf_forms.proofs.escape.odd_in_row.Goals as goal

pub returns : goal.returns
returns c =
    let v = chunk c.args.at 16 c.args.bytes.now in
    let long = length-chunk c.args.at 16 c.args.bytes.now c.requires in
    mask_is (λ b. not (is_bare b)) _ c.args.bytes.now c.args.at _ c.requires c.type_inv.bytes
    (joined bit_or _ _ v (joined bit_or _ _ v (joined bit_or _ _ v (zip2_splat {Y = ℕ} _ v 16 44 long) (zip2_splat {Y = ℕ} _ v 16 34 long))
    (zip2_splat {Y = ℕ} _ v 16 10 long)) (zip2_splat {Y = ℕ} _ v 16 13 long)) refl
