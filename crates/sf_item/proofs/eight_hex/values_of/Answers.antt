use Rattle.std.proofs.Common.{ℕ, refl}
use Rattle.std.proofs.lemmas.Simd.{zip2_splat, length-chunk}
use lib.Lanes.{chunk}
use Rattle.sf_base.proofs.Lanes.{joined, splat_is}
use Rattle.sf_item.proofs.EightHex.{others_above, picked, value_at}
use Rattle.sf_item.proofs.eight_hex.values_of.Goals as goal

pub returns-clause-digits : goal.returns-clause-digits
returns-clause-digits c i below low =
    let v = chunk 0 8 c.args.piece.now in
    let long = length-chunk 0 8 c.args.piece.now c.requires in
    let moved = zip2_splat {Y = ℕ} _ v 8 198 long in
    let six = splat_is v 8 6 long in
    let digits = joined _ _ _ v (picked _ _ _ _ _ v moved six six moved) (splat_is v 8 246 long) in
    let capital = joined _ _ _ v (zip2_splat {Y = ℕ} _ v 8 223 long) (splat_is v 8 65 long) in
    let most = splat_is v 8 245 long in
    let letters = joined _ _ _ v (picked _ _ _ _ _ v capital most capital most) (splat_is v 8 10 long) in
    value_at _ c.args.piece.now _ i c.requires below (picked _ _ _ _ _ v digits letters digits letters) refl (c.type_inv.piece i).fits low

pub returns-clause-others : goal.returns-clause-others
returns-clause-others c =
    let v = chunk 0 8 c.args.piece.now in
    let long = length-chunk 0 8 c.args.piece.now c.requires in
    let moved = zip2_splat {Y = ℕ} _ v 8 198 long in
    let six = splat_is v 8 6 long in
    let digits = joined _ _ _ v (picked _ _ _ _ _ v moved six six moved) (splat_is v 8 246 long) in
    let capital = joined _ _ _ v (zip2_splat {Y = ℕ} _ v 8 223 long) (splat_is v 8 65 long) in
    let most = splat_is v 8 245 long in
    let letters = joined _ _ _ v (picked _ _ _ _ _ v capital most capital most) (splat_is v 8 10 long) in
    others_above _ c.args.piece.now _ c.type_inv.piece (picked _ _ _ _ _ v digits letters digits letters) refl
