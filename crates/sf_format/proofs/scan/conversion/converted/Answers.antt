use Rattle.std.proofs.Common.{sym, ◌∙◌}
use Rattle.sf_format.specs.Letters.{letter_of}
use Rattle.sf_format.specs.Faults.{letter_rules}
use Rattle.sf_format.specs.Passing.{opening_of}
use Rattle.sf_format.proofs.Rules.{quiet_is}
use Rattle.sf_format.proofs.Suits.{known, letter_is}
use Rattle.sf_format.proofs.scan.conversion.converted.Goals as goal

pub unwrap-found-requires : goal.unwrap-found-requires
unwrap-found-requires c =
    let quiet = quiet_is (letter_rules c.args.profile (opening_of c.args.written.now) c.args.letter c.args.at) (sym c.in_default.ensures) in
    rw c.letter_of.ensures (known (letter_of c.args.profile c.args.letter) quiet.1.1.0)

pub unwrap-kind-requires : goal.unwrap-kind-requires
unwrap-kind-requires c =
    let o = opening_of c.args.written.now in
    let letter = letter_is c.args.profile c.args.letter c.unwrap-found.result (sym c.letter_of.ensures ∙ c.unwrap-found.ensures) in
    rw (c.kind.ensures, c.values.ensures)
    (letter.allowed o c.args.at (quiet_is (letter_rules c.args.profile o c.args.letter c.args.at) (sym c.in_default.ensures))).0
