-- Steps of the walk over both lists.
use Rattle.std.proofs.Common.{◌≡◌, ℕ, suc, ◌+◌, ◌<◌, Bool, true, false, cond, ◌||◌, List, ◌∷◌, length, drop, get_or, Ok, refl, sym, ap, ◌∙◌}
use Rattle.std.proofs.Common.{arith}
use Rattle.std.specs.List.{list_any}
use Rattle.std.proofs.Math.Seq.{drop-cons}
use Rattle.sf_format.specs.declared.unit.Unit.{Unit as PrintUnit}
use Rattle.sf_format.specs.declared.unit.Unit.TheVariants as unit
use Rattle.sf_format.specs.declared.directive.Directive.{Directive}
use Rattle.sf_pair.specs.Groups.{starts_with_space, assigns, next_of}
use Rattle.sf_pair.specs.Walk.{Left, after_space, take_group, fault_after, fault_from}

pub drop_next : {A : Type 0} (xs : List A) (i : ℕ) (d : A) → i < length xs → drop i xs ≡ get_or xs i d ∷ drop (i + 1) xs
drop_next {A} xs i d h = drop-cons xs i d h ∙ ap (λ (k : ℕ). get_or xs i d ∷ drop k xs) {x = suc i} {y = i + 1} (omega arith)

one_space : (us rest : List PrintUnit) (u : PrintUnit) → us ≡ u ∷ rest → starts_with_space us ≡ true → after_space us ≡ after_space rest
one_space us rest (unit.Byte b) e start =
    let white = sym (ap starts_with_space e) ∙ start in
    ap after_space e ∙ ap (λ (t : Bool). cond t (after_space rest) (unit.Byte b ∷ rest)) white
one_space us rest (unit.Conv c) e start = let wrong : starts_with_space (unit.Conv c ∷ rest) ≡ true =
    sym (ap starts_with_space e) ∙ start in absurd cc

pub space_on : (us : List PrintUnit) (i : ℕ) → i < length us → starts_with_space (drop i us) ≡ true
    → after_space (drop i us) ≡ after_space (drop (i + 1) us)
space_on us i below start = one_space (drop i us) (drop (i + 1) us) (get_or us i (unit.Byte 0)) (drop_next us i (unit.Byte 0) below) start

pub walk_on : (ds : List Directive) (i : ℕ) (d : Directive) (units rest : List PrintUnit) → drop i ds ≡ d ∷ drop (i + 1) ds
    → take_group d units (next_of (drop (i + 1) ds)) ≡ Ok rest
    → fault_from (i + 1) (drop i ds) units ≡ fault_from (i + 1 + 1) (drop (i + 1) ds) rest
walk_on ds i d units rest e taken =
    ap (λ (ds : List Directive). fault_from (i + 1) ds units) e ∙ ap
    (λ (left : Left). fault_after (λ r. fault_from (i + 1 + 1) (drop (i + 1) ds) r) (i + 1) left) taken

pub assigned_on : (ds : List Directive) (i : ℕ) (d : Directive) (before after : Bool) → drop i ds ≡ d ∷ drop (i + 1) ds
    → after ≡ (before || assigns d)
    → (before || list_any assigns (drop i ds)) ≡ (after || list_any assigns (drop (i + 1) ds))
assigned_on ds i d before after e is =
    ap (λ (ds : List Directive). before || list_any assigns ds) e ∙ either before (assigns d) (list_any assigns (drop (i + 1) ds))
    ∙ ap (λ (t : Bool). t || list_any assigns (drop (i + 1) ds)) (sym is)
  where
    either : (a b c : Bool) → (a || (b || c)) ≡ ((a || b) || c)
    either true b c = refl
    either false b c = refl

pub by_true : (a b : Bool) → a ≡ true → true ≡ (a || b)
by_true a b e = ap (λ (t : Bool). t || b) (sym e)

pub by_false : (a b : Bool) → a ≡ false → b ≡ (a || b)
by_false a b e = ap (λ (t : Bool). t || b) (sym e)
