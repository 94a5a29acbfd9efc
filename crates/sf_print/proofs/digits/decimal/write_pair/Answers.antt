use Rattle.std.proofs.Common.{◌+◌, ◌/◌, ◌%◌, [], ◌∷◌, ◌++◌, List, ℕ, set, ap, ◌∙◌, arith, length-set, append_assoc}
use Rattle.std.proofs.lemmas.Grind.{take-set_at}
use Rattle.std.proofs.lemmas.List.{take_more_set}
use Rattle.sf_print.proofs.digits.decimal.write_pair.Goals as goal

pub returns : goal.returns
returns c =
    let digits = c.pair_of-tens.ensures in
    let at = c.args.at in
    let buf = c.args.buf.now in
    let tens = 48 + c.args.pair / 10 in
    let ones = 48 + c.args.pair % 10 in
    rw (digits.tens, digits.ones)
    (take-set_at (set buf at tens) (at + 1) (at + 2) ones (omega arith) (omega (arith, length-set buf at tens))
    ∙ ap (λ (t : List ℕ). t ++ ones ∷ []) (take_more_set buf at tens (omega arith)) ∙ append_assoc _ (tens ∷ []) (ones ∷ []))
