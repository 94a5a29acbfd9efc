use Rattle.std.proofs.Common.{◌∙◌, ap, arith, codes, subst, sym}
use Rattle.std.specs.Str.Parse.{ParsesUnsigned, ExplainsUnsignedError, HasUnsignedDigitsIfOk}
use Rattle.clap.specs.Words.{found_of, one_text}
use Rattle.clap.proofs.WalkLemmas.{one_text-rows}
use Rattle.sf_words.specs.Orders.{number_by}
use Rattle.sf_words.specs.Taken.{IsWithin}
use Rattle.sf_words.proofs.Given.{number_read}
use Rattle.sf_words.proofs.words.skip_of.Goals as goal

pub returns : goal.returns
returns c =
    let same = one_text-rows (found_of c.args.given.now) (codes "skip") in
    let read = number_read 64 0 9223372036854775807 0 (omega arith) (omega arith) (omega arith) _
    (λ bs r. ParsesUnsigned 64 10 bs r × ExplainsUnsignedError 10 bs r × HasUnsignedDigitsIfOk bs r) (λ t r h. h.0)
    (one_text (found_of c.args.given.now) (codes "skip")) c.get_one.result
    (subst (IsWithin 0 9223372036854775807) (sym same) c.requires) c.get_one.ensures.none c.get_one.ensures.value in
    c.unwrap_or.ensures ∙ read.0 ∙ ap (number_by 0) same
