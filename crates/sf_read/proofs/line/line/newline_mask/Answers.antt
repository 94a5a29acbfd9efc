use Rattle.std.proofs.Common.{◌≡◌, ◌==◌, ℕ, Bool, true, false, cond, refl}
use Rattle.std.proofs.lemmas.Simd.{zip2_splat, length-chunk}
use lib.Lanes.{chunk, top}
use Rattle.sf_base.proofs.Lanes.{mask_by}
use Rattle.sf_read.proofs.line.line.newline_mask.Goals as goal

top_of : (b : Bool) → top 7 (cond b 255 0) ≡ b
top_of true = refl
top_of false = refl

pub returns : goal.returns
returns c =
    let v = chunk 0 16 c.args.bytes.now in
    let long = length-chunk 0 16 c.args.bytes.now c.requires in
    mask_by (λ b. b == 10) _ c.args.bytes.now 0 _ c.requires c.type_inv.bytes (zip2_splat {Y = ℕ} _ v 16 10 long)
    (λ x below. top_of (x == 10))
