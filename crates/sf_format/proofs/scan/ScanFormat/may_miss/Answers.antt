use Rattle.std.proofs.Common.{◌≡◌, ◌||◌, ◌&&◌, ℕ, Bool, true, false, List, [], ◌∷◌, refl, sym, ◌∙◌}
use Rattle.sf_format.specs.declared.directive.Directive.{Directive}
use Rattle.sf_format.specs.declared.directive.Directive.TheVariants.{Space, Byte, Percent, Conv, Opens}
use Rattle.sf_format.specs.Proper.{assigns, has_optional, is_optional, may_miss, more_of}
use Rattle.sf_format.proofs.scan.ScanFormat.may_miss.Goals as goal

-- none is missing with one that can't be
no_more : (d : Directive) → is_optional d ≡ false → more_of d ≡ 0
no_more Space h = refl
no_more (Byte b) h = refl
no_more Percent h = refl
no_more (Conv c) h = rw h refl
no_more (Opens o) h = absurd cc

neither : (a b : Bool) → (a || b) ≡ false → (a ≡ false) × (b ≡ false)
neither true b h = absurd cc
neither false b h = (refl, h)

no_and : (a : Bool) → (a && false) ≡ false
no_and true = refl
no_and false = refl

-- where no directive may be missing, no slot may be left without a value
none_misses : (slot : ℕ) (ds : List Directive) → has_optional ds ≡ false → may_miss slot ds ≡ false
none_misses slot [] h = refl
none_misses slot (d ∷ ds) h =
    let both = neither (is_optional d) (has_optional ds) h in
    rw (both.0, no_and (assigns slot d), no_more d both.0) (none_misses slot ds both.1)

pub returns-then-not-self : goal.returns-then-not-self
returns-then-not-self c =
    let ds = c.self.inside.directives.items in
    let none : has_optional ds ≡ false = sym c.self.invariant.optional ∙ c.if-not-self.true in
    rw (← c.self.view_is) (sym (none_misses c.args.slot ds none))
