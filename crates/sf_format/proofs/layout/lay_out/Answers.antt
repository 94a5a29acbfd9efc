use Rattle.std.proofs.Common.{◌≡◌, ℕ, zero, suc, ◌+◌, ◌<◌, List, [], ◌∷◌, ◌++◌, length, map, take, drop, set, get_or, ap, ◌∙◌, refl, arith}
use Rattle.sf_format.specs.Layout.{row_of}
use Rattle.sf_format.proofs.layout.lay_out.Goals as goal

-- one more is written over, by what the other list has there
written_over : {X Y : Type 0} (f : X → Y) (xs : List X) (ys : List Y) (i : ℕ) (x : X) → length xs ≡ length ys → i < length xs
    → set (map f (take i xs) ++ drop i ys) i (f (get_or xs i x)) ≡ map f (take (suc i) xs) ++ drop (suc i) ys
written_over f [] ys i x same below = absurd (omega arith)
written_over f (a ∷ xs) [] i x same below = absurd (omega arith)
written_over f (a ∷ xs) (b ∷ ys) zero x same below = refl
written_over f (a ∷ xs) (b ∷ ys) (suc i) x same below = ap (λ zs. f a ∷ zs) (written_over f xs ys i x (omega arith) (omega arith))

pub loop-i-preserved : goal.loop-i-preserved
loop-i-preserved c =
    let same : length c.args.directives.now ≡ length c.args.rows.now = c.requires in
    let below : c.loop-i.i < length c.args.directives.now = omega arith in
    let next : c.loop-i.i + 1 ≡ suc c.loop-i.i = omega arith in
    rw next (
    ap (λ row. set c.loop-i.rows c.loop-i.i row) (c.row_of.ensures ∙ ap row_of c.index-directives-i.is)
    ∙ ap (λ rows. set rows c.loop-i.i (row_of (get_or c.args.directives.now c.loop-i.i c.index-directives-i.result))) c.loop-i.invariant
    ∙ written_over row_of c.args.directives.now c.args.rows.now c.loop-i.i c.index-directives-i.result same below)
