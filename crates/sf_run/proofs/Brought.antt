-- Many bytes at once.
use Rattle.std.proofs.lemmas.Grind.{common_steps}
use Rattle.std.proofs.Common.{◌≡◌, ◌≢◌, ℕ, zero, suc, ◌+◌, ◌<◌, ◌≤◌, true, false, cond, ◌&&◌, List, [], ◌∷◌, ◌++◌, length, take, get_or}
use Rattle.std.proofs.Common.{append_assoc, Option, Some, None, refl, sym, ap, ◌∙◌, arith}
use Rattle.std.proofs.lemmas.List.{append-nil, length-take-le}
use Rattle.sf_base.specs.Bytes.{is_white}
use Rattle.sf_format.specs.declared.directive.Conversion.{Conversion}
use Rattle.sf_format.specs.declared.directive.Directive.{Directive}
use Rattle.sf_format.specs.declared.directive.Directive.TheVariants.{Conv}
use Rattle.sf_format.specs.Proper.{IsProperShape}
use Rattle.sf_item.specs.Taking.{CanTake}
use Rattle.sf_item.specs.Tests.{can_take}
use Rattle.sf_item.proofs.Deciding.{tests_can_take}
use Rattle.sf_report.specs.Machine.{Stage, Skipping, Item, shape_skips, item_stepped, stepped}
use Rattle.sf_report.specs.Residual.{choose, stepped_all}
use Rattle.sf_run.specs.Phases.{CanAll}
use Rattle.sf_run.proofs.Columns.{stepped_plain}

-- ---- the bytes of an item

pub item_all : (c : Conversion) → c.column ≡ false → (f y : List ℕ) → CanAll c f y
    → stepped_all (Conv c) (Item f) y ≡ Some (Item (f ++ y))
item_all c plain f [] can = ap (λ g. Some (Item g)) (sym (append-nil f))
item_all c plain f (b ∷ y) can =
    let first : can_take c (f ++ b ∷ []) ≡ true = can 0 (omega arith) in
    let rest : CanAll c (f ++ b ∷ []) y = λ k below.
    let one : suc (k + 1) ≡ k + 1 + 1 = omega arith in
    ap (can_take c) (append_assoc f (b ∷ []) (take (k + 1) y)) ∙ ap (λ n. can_take c (f ++ take n (b ∷ y))) one
    ∙ can (k + 1) (omega (arith, below)) in
    let step : stepped (Conv c) (Item f) b ≡ Some (Item (f ++ b ∷ [])) =
    stepped_plain c plain (Item f) b ∙ ap (λ v. cond v (Some (Item (f ++ b ∷ []))) None) first in
    ap (λ (o : Option Stage). choose o None (λ s. stepped_all (Conv c) s y)) step
    ∙ item_all c plain (f ++ b ∷ []) y rest ∙ ap (λ g. Some (Item g)) (append_assoc f (b ∷ []) y)

-- the first byte is not skipped
pub first_all : (c : Conversion) → c.column ≡ false → (b : ℕ) (y : List ℕ) → (shape_skips c.shape && is_white b) ≡ false
    → CanAll c [] (b ∷ y) → stepped_all (Conv c) Skipping (b ∷ y) ≡ Some (Item (b ∷ y))
first_all c plain b y ink can =
    let first : stepped (Conv c) Skipping b ≡ stepped (Conv c) (Item []) b =
    stepped_plain c plain Skipping b ∙ ap (λ v. cond v (Some Skipping) (item_stepped c [] b)) ink
    ∙ sym (stepped_plain c plain (Item []) b) in
    ap (λ (o : Option Stage). choose o None (λ s. stepped_all (Conv c) s y)) first ∙ item_all c plain [] (b ∷ y) can

-- ---- what a scan shows of them

pub take-take : (j n : ℕ) (xs : List ℕ) → j ≤ n → take j (take n xs) ≡ take j xs
take-take j n xs h = grind (arith, common_steps)

pub not_nothing : (f y : List ℕ) → f ≢ [] → f ++ y ≢ []
not_nothing [] y some e = some refl
not_nothing (x ∷ f) y some e = cc

pub can_all : (c : Conversion) (f piece : List ℕ) (n : ℕ) → IsProperShape c.shape → n ≤ length piece
    → ((k : ℕ) → k < n → CanTake c (f ++ take (k + 1) piece)) → CanAll c f (take n piece)
can_all c f piece n proper within each k below =
    let e : k + 1 ≤ n = omega (arith, below, length-take-le n piece within) in
    ap (λ y. can_take c (f ++ y)) (take-take (k + 1) n piece e) ∙ (tests_can_take c proper (f ++ take (k + 1) piece)).to
    (each k (omega (arith, e)))

-- ---- what is skipped before an item

pub skips_all : (d : Directive) (piece : List ℕ) (n : ℕ) → n ≤ length piece
    → ((k : ℕ) → k < n → stepped d Skipping (get_or piece k 0) ≡ Some Skipping) → stepped_all d Skipping (take n piece) ≡ Some Skipping
skips_all d piece zero within skips = refl
skips_all d [] (suc n) within skips = absurd (omega (arith, within))
skips_all d (b ∷ piece) (suc n) within skips =
    let first : stepped d Skipping b ≡ Some Skipping = skips 0 (omega arith) in
    ap (λ (o : Option Stage). choose o None (λ s. stepped_all d s (take n piece))) first
    ∙ skips_all d piece n (omega (arith, within)) (λ k below. let e : suc k ≡ k + 1 = omega arith in
    ap (λ j. stepped d Skipping (get_or (b ∷ piece) j 0)) e ∙ skips (k + 1) (omega (arith, below)))

pub item_skips : (c : Conversion) → c.column ≡ false → (piece : List ℕ) (w : ℕ) → w ≤ length piece
    → ((k : ℕ) → k < w → (shape_skips c.shape && is_white (get_or piece k 0)) ≡ true)
    → stepped_all (Conv c) Skipping (take w piece) ≡ Some Skipping
item_skips c plain piece w within white = skips_all (Conv c) piece w within
    (λ k below. stepped_plain c plain Skipping (get_or piece k 0)
    ∙ ap (λ v. cond v (Some Skipping) (item_stepped c [] (get_or piece k 0))) (white k below))
