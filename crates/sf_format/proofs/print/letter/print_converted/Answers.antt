use Rattle.std.proofs.Common.{sym, ◌∙◌}
use Rattle.sf_format.specs.PrintLetters.{print_letter_of}
use Rattle.sf_format.specs.PrintRules.{print_letter_rules, flag_rules}
use Rattle.sf_format.specs.Passing.{opening_of, fault_of}
use Rattle.sf_format.proofs.Rules.{quiet_is}
use Rattle.sf_format.proofs.Suits.{known, print_letter_is}
use Rattle.sf_format.proofs.Passages.{first_left, flags_first}
use Rattle.sf_format.proofs.print.letter.print_converted.Goals as goal

pub returns-in-Some : goal.returns-in-Some
returns-in-Some c =
    let o = opening_of c.args.written.now in
    first_left (print_letter_rules c.args.profile o c.args.letter c.args.at)
    (flag_rules c.args.percent o (print_letter_of c.args.profile c.args.letter)) (fault_of c.in-Some.fault) (sym c.in-Some.ensures)

pub unwrap-found-requires : goal.unwrap-found-requires
unwrap-found-requires c =
    let quiet = quiet_is (print_letter_rules c.args.profile (opening_of c.args.written.now) c.args.letter c.args.at)
    (sym c.in_default.ensures) in
    rw c.print_letter_of.ensures (known (print_letter_of c.args.profile c.args.letter) quiet.1.1.0)

pub returns-in-Some-flag_fault : goal.returns-in-Some-flag_fault
returns-in-Some-flag_fault c =
    flags_first c.args.profile c.args.percent (opening_of c.args.written.now) c.args.at c.args.letter c.unwrap-found.result
    (sym c.in_default.ensures)
    (sym c.print_letter_of.ensures ∙ c.unwrap-found.ensures)
    ∙ sym c.in-Some-flag_fault.ensures

pub unwrap-kind-requires : goal.unwrap-kind-requires
unwrap-kind-requires c =
    let o = opening_of c.args.written.now in
    let letter = print_letter_is c.args.profile c.args.letter c.unwrap-found.result
    (sym c.print_letter_of.ensures ∙ c.unwrap-found.ensures) in
    rw (c.kind.ensures, c.print_row.ensures.prints)
    (letter.allowed o c.args.at (quiet_is (print_letter_rules c.args.profile o c.args.letter c.args.at) (sym c.in_default.ensures)))

pub returns : goal.returns
returns c =
    let found = sym c.print_letter_of.ensures ∙ c.unwrap-found.ensures in (
      flags_first c.args.profile c.args.percent (opening_of c.args.written.now) c.args.at c.args.letter c.unwrap-found.result
          (sym c.in_default.ensures) found
          ∙ sym c.in_default-flag_fault.ensures,
      found,
      rw (← c.print_row.ensures.prints, ← c.kind.ensures) c.unwrap-kind.ensures,
    )
