-- Tests that are joined.
use Rattle.std.proofs.Common.{◌≡◌, Bool, true, false, ◌&&◌, ◌||◌, refl}
use Rattle.std.specs.Prelude.{not}

pub or_none : (x y : Bool) → (x || y) ≡ false → (x ≡ false) × (y ≡ false)
or_none true y e = absurd cc
or_none false y e = (refl, e)

pub not_none : (x : Bool) → not x ≡ false → x ≡ true
not_none true e = refl
not_none false e = absurd cc

pub and_so : (x y : Bool) → x ≡ true → y ≡ true → (x && y) ≡ true
and_so true y e h = h
and_so false y e h = absurd cc

pub and_both : (x y : Bool) → (x && y) ≡ true → (x ≡ true) × (y ≡ true)
and_both true y e = (refl, e)
and_both false y e = absurd cc
