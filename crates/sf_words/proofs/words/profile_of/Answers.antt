use Rattle.std.proofs.Common.{◌≡◌, ◌∙◌, ap, arith, codes, subst, sym}
use Rattle.std.specs.Prelude.{unwrap_or}
use Rattle.std.specs.Str.Parse.{ParsesUnsigned, ExplainsUnsignedError, HasUnsignedDigitsIfOk}
use Rattle.clap.specs.Words.{found_of, one_of, one_text, rows_of}
use Rattle.clap.proofs.WalkLemmas.{one_text-rows}
use Rattle.sf_words.specs.Orders.{number_by}
use Rattle.sf_words.specs.Taken.{IsWithin}
use Rattle.sf_words.proofs.Given.{number_read}
use Rattle.sf_words.proofs.words.profile_of.Goals as goal

pub returns-in-2 : goal.returns-in-2
returns-in-2 c =
    let same = one_text-rows (found_of c.args.given.now) (codes "profile") in
    let read = number_read 32 1 3 1 (omega arith) (omega arith) (omega arith) _
    (λ bs r. ParsesUnsigned 32 10 bs r × ExplainsUnsignedError 10 bs r × HasUnsignedDigitsIfOk bs r) (λ t r h. h.0)
    (one_text (found_of c.args.given.now) (codes "profile")) c.get_one.result
    (subst (IsWithin 1 3) (sym same) c.requires) c.get_one.ensures.none c.get_one.ensures.value in
    sym c.in-2.is ∙ c.unwrap_or.ensures ∙ read.0 ∙ ap (number_by 1) same

pub returns-in-3 : goal.returns-in-3
returns-in-3 c =
    let same = one_text-rows (found_of c.args.given.now) (codes "profile") in
    let read = number_read 32 1 3 1 (omega arith) (omega arith) (omega arith) _
    (λ bs r. ParsesUnsigned 32 10 bs r × ExplainsUnsignedError 10 bs r × HasUnsignedDigitsIfOk bs r) (λ t r h. h.0)
    (one_text (found_of c.args.given.now) (codes "profile")) c.get_one.result
    (subst (IsWithin 1 3) (sym same) c.requires) c.get_one.ensures.none c.get_one.ensures.value in
    sym c.in-3.is ∙ c.unwrap_or.ensures ∙ read.0 ∙ ap (number_by 1) same

pub returns-in_default : goal.returns-in_default
returns-in_default c =
    let same = one_text-rows (found_of c.args.given.now) (codes "profile") in
    let read = number_read 32 1 3 1 (omega arith) (omega arith) (omega arith) _
    (λ bs r. ParsesUnsigned 32 10 bs r × ExplainsUnsignedError 10 bs r × HasUnsignedDigitsIfOk bs r) (λ t r h. h.0)
    (one_text (found_of c.args.given.now) (codes "profile")) c.get_one.result
    (subst (IsWithin 1 3) (sym same) c.requires) c.get_one.ensures.none c.get_one.ensures.value in
    let given : c.unwrap_or.result ≡ unwrap_or c.get_one.result 1 = c.unwrap_or.ensures in
    let number : unwrap_or c.get_one.result 1 ≡ number_by 1 (one_of (codes "profile") (rows_of (found_of c.args.given.now))) =
    read.0 ∙ ap (number_by 1) same in
    omega (arith, given, number, read.1, read.2, c.in_default)
