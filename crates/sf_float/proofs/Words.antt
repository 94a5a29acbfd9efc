-- The words of floats that are not finite.
use Rattle.std.proofs.Common.{◌≡◌, true, not, refl, sym, ap, ◌∙◌, true≢false, Some}
use Rattle.std.specs.Float.{float_is_finite}
use Rattle.std.specs.Float.Ieee.{Float, Format, nan, inf, fin, is_nan}
use Rattle.fast_float.specs.Parse.{read_float, parse_float}
use Rattle.fast_float.specs.Text.{scan}
use Rattle.ryu.specs.Plain as ryu
use Rattle.sf_float.specs.Shortest.{word_of}

pub nan_parses : (f : Format) → parse_float f (word_of nan) ≡ Some nan
unfolding read_float scan
nan_parses f = refl

pub nan_never : (x : Float) → nan ≡ x → float_is_finite x ≡ true → ⊥
unfolding float_is_finite
nan_never x e h = true≢false (sym h ∙ sym (ap float_is_finite e))

pub same_word : (x : Float) → not (is_nan x) ≡ true → ryu.word_of x ≡ word_of x
unfolding is_nan
same_word nan h = absurd (true≢false (sym h))
same_word (inf s) h = refl
same_word (fin s m e) h = refl
