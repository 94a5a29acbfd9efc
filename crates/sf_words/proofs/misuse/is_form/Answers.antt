use Rattle.std.proofs.Common.{◌≡◌, Bool, true, false, ◌||◌, codes, refl}
use Rattle.std.specs.Str.{bytes_eq}
use Rattle.sf_words.proofs.misuse.is_form.Goals as goal

or_none : (b : Bool) → (b || false) ≡ b
or_none true = refl
or_none false = refl

or_fifth : (a b c d : Bool) → (a || (b || (c || (d || false)))) ≡ (a || (b || (c || d)))
or_fifth true b c d = refl
or_fifth false true c d = refl
or_fifth false false true d = refl
or_fifth false false false d = or_none d

pub loop-form-init : goal.loop-form-init
loop-form-init c =
    let name = c.args.name.now in
    or_fifth (bytes_eq name (codes "plain")) (bytes_eq name (codes "tsv")) (bytes_eq name (codes "json")) (bytes_eq name (codes "csv"))
