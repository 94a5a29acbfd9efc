use Rattle.std.proofs.Common.{◌-◌, length, refl, drop, arith}
use Rattle.std.proofs.lemmas.List.{take_all, length-drop}
use Rattle.sf_print.proofs.DigitLemmas.EndsCopied.{parts_copied}
use Rattle.sf_print.proofs.digits.copies.copy_ends.Goals as goal

pub returns : goal.returns
returns c =
    let xs = c.args.bytes.now in
    parts_copied c.args.buf.now xs _ _ c.copy_part.new.buf c.copy_part-2.new.buf c.args.at c.args.width _
    c.requires.width.0 c.requires.width.1
    c.requires.room refl (take_all _ (drop (length xs - c.args.width) xs) (omega (arith, length-drop (length xs - c.args.width) xs))) refl
    c.copy_part.ensures c.copy_part-2.ensures
