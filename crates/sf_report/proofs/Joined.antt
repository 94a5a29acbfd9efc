-- One list of bytes after another.
use Rattle.std.proofs.Common.{◌≡◌, ℕ, ◌+◌, true, List, [], ◌∷◌, ◌++◌, length, Option, Some, None, refl, ap, ◌∙◌, arith}
use Rattle.sf_format.specs.declared.directive.Directive.{Directive}
use Rattle.sf_report.specs.Machine.{Stage, stepped, finished}
use Rattle.sf_report.specs.Residual.{choose, one_from, stepped_all}

by_some : {A B : Type 0} (o : Option A) (f : A → Option B) (b : B) → choose o None f ≡ Some b → (a : A) × (o ≡ Some a) × (f a ≡ Some b)
by_some None f b e = cc
by_some (Some a) f b e = (a, refl, e)

pub all-append : (d : Directive) (q r : Stage) (x y : List ℕ) → stepped_all d q x ≡ Some r → stepped_all d q (x ++ y) ≡ stepped_all d r y
all-append d q r [] y e = ap (λ (o : Option Stage). choose o None (λ s. stepped_all d s y)) e
all-append d q r (b ∷ x) y e =
    let w = by_some (stepped d q b) (λ s. stepped_all d s x) r e in
    ap (λ (o : Option Stage). choose o None (λ s. stepped_all d s (x ++ y))) w.1 ∙ all-append d w.0 r x y w.2

-- the directive goes on after the bytes from the stage that they bring it to
pub one_from-all : (d : Directive) (q r : Stage) (n : ℕ) (y z : List ℕ) → stepped_all d q y ≡ Some r
    → one_from d q n (y ++ z) ≡ one_from d r (n + length y) z
one_from-all d q r n [] z e =
    let same : n ≡ n + 0 = omega arith in
    ap (λ (o : Option Stage). choose o (one_from d q n z) (λ s. one_from d s n z)) e ∙ ap (λ m. one_from d r m z) same
one_from-all d q r n (b ∷ y) z e =
    let w = by_some (stepped d q b) (λ s. stepped_all d s y) r e in
    let more : n + 1 + length y ≡ n + length (b ∷ y) = omega arith in
    ap (λ (o : Option Stage). choose o (record { used = n; left = b ∷ (y ++ z); end = finished d q n true })
    (λ s. one_from d s (n + 1) (y ++ z))) w.1
    ∙ one_from-all d w.0 r (n + 1) y z w.2 ∙ ap (λ m. one_from d r m z) more
