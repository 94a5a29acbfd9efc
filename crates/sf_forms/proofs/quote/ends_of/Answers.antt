use Rattle.std.proofs.Common.{◌+◌, ◌-◌, length, drop, ◌∙◌, arith}
use Rattle.std.proofs.lemmas.List.{take_all, length-drop}
use Rattle.sf_forms.proofs.Short.{plain_by_ends}
use Rattle.sf_forms.proofs.quote.ends_of.Goals as goal

pub returns : goal.returns
returns c odd odd_is =
    let xs = c.args.bytes.now in
    let w = c.args.width in
    plain_by_ends xs c.copy_from_slice.new.self c.copy_from_slice-2.new.self w (w + w - w) odd c.requires.width.0
    c.requires.width.1 c.requires.width.2 (omega arith)
    c.copy_from_slice.ensures.after (c.copy_from_slice-2.ensures.after
    ∙ take_all _ (drop (length xs - w) xs) (omega (arith, length-drop (length xs - w) xs))) odd_is
