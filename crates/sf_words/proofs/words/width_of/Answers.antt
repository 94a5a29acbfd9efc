use Rattle.std.proofs.Common.{◌∙◌, ap, codes, subst, sym}
use Rattle.std.specs.Prelude.{option_map}
use Rattle.std.specs.Str.Parse.{ParsesUnsigned, ExplainsUnsignedError, HasUnsignedDigitsIfOk}
use Rattle.clap.specs.Words.{found_of, one_text}
use Rattle.clap.proofs.WalkLemmas.{one_text-rows}
use Rattle.sf_words.specs.Orders.{number_in}
use Rattle.sf_words.specs.Taken.{IsWithin}
use Rattle.sf_words.proofs.Given.{width_read}
use Rattle.sf_words.proofs.words.width_of.Goals as goal

pub returns : goal.returns
returns c =
    let same = one_text-rows (found_of c.args.given.now) (codes "width") in
    let read = width_read _ (λ bs r. ParsesUnsigned 16 10 bs r × ExplainsUnsignedError 10 bs r × HasUnsignedDigitsIfOk bs r) (λ t r h. h.0)
    (one_text (found_of c.args.given.now) (codes "width")) c.get_one.result
    (subst (IsWithin 1 65535) (sym same) c.requires) c.get_one.ensures.none c.get_one.ensures.value in
    record { value = read.0 ∙ ap (option_map number_in) same; wide = read.1 }
