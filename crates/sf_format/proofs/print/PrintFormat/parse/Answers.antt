use Rattle.std.proofs.Common.{sym, ◌∙◌}
use Rattle.std.proofs.lemmas.Result.{err_from_is_err_and}
use Rattle.sf_format.proofs.Meanings.{print_meaning, print_slots}
use Rattle.sf_format.proofs.Accepted.{print_proper}
use Rattle.sf_format.proofs.PartSlots.{slots_count}
use Rattle.sf_format.proofs.print.PrintFormat.parse.Goals as goal

pub parse-requires : goal.parse-requires
parse-requires c = print_meaning c.args.profile

pub returns-in_err-units-clause-fault : goal.returns-in_err-units-clause-fault
returns-in_err-units-clause-fault c = λ at why fault.
    let p = err_from_is_err_and c.from_residual.result c.from_residual.ensures.1 in
    rw (p.1, p.2) (cc (c.in_err-units.ensures.fault at why fault))

pub returns-in_err-units-clause-accepted : goal.returns-in_err-units-clause-accepted
returns-in_err-units-clause-accepted c =
    let p = err_from_is_err_and c.from_residual.result c.from_residual.ensures.1 in rw (p.1, p.2) c.in_err-units.ensures.accepted

pub invariant_of-result : goal.invariant_of-result
invariant_of-result c =
    let spelled = c.in_ok-units.ensures.spelled in record {
      accepted = print_proper c.args.profile c.args.text.now c.in_ok-units.units.items spelled.0;
      counted = spelled.1 ∙ sym (slots_count (print_slots c.args.profile) spelled.0.0 c.in_ok-units.units.items spelled.0.3);
    }

pub returns-clause-fault : goal.returns-clause-fault
returns-clause-fault c = λ at why fault. absurd (cc (c.in_ok-units.ensures.fault at why fault))
