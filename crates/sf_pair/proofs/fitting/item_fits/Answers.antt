use Rattle.std.proofs.Common.{ℕ, Bool, ◌&&◌, sym, ap, ◌∙◌}
use Rattle.sf_base.specs.Data.{datum_of}
use Rattle.sf_base.specs.declared.values.Value.{Value}
use Rattle.sf_pair.specs.Groups.{width_of}
use Rattle.sf_pair.specs.Fits.{text_fits, item_fits}
use Rattle.sf_pair.proofs.fitting.item_fits.Goals as goal

pub returns-in-Text : goal.returns-in-Text
returns-in-Text c =
    let b = c.in-Text.bytes.now in
    let s = c.args.scan.now in
    c.text_fits.ensures.fits
    ∙ ap (λ (w : ℕ). text_fits s.shape w b) c.width_of.ensures.value
    ∙ sym (ap (λ (t : Bool). t && text_fits s.shape (width_of s) b) c.text_fits.ensures.bytes)
    ∙ ap (λ (v : Value). item_fits c.args.conv.now s (datum_of v)) (sym c.in-Text.is)
