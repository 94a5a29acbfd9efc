use Rattle.std.proofs.Common.{Err, ap, arith, inr}
use Rattle.std.proofs.lemmas.Result.{err_from_is_err_and}
use Rattle.sf_format.proofs.Walks.{bytes_of}
use Rattle.sf_format.proofs.Judgements.{gathers_spells, judged_fault, hindered, told, no_fault, one_list}
use Rattle.sf_format.proofs.judgement.parse.Goals as goal

pub returns-in_err-count : goal.returns-in_err-count
returns-in_err-count g c =
    let p = err_from_is_err_and c.from_residual.result c.from_residual.ensures.1 in
    let refused = judged_fault c.requires c.args.text.now c.in_err-count.field-0.0
    (bytes_of c.args.text.now (λ i. omega (arith, c.type_inv.text i))) c.in_err-count.ensures.fault in
    let is = told c.requires c.args.text.now c.in_err-count.field-0.0 refused in
    rw (p.1, p.2) (record { spelled = tt; refused = refused; fault = λ at why fault. ap Err (is.0 at why fault); accepted = is.1 })

pub returns-in-Some : goal.returns-in-Some
returns-in-Some g c =
    let spelled =
    gathers_spells c.in_ok-count.count (bytes_of c.args.text.now (λ i. omega (arith, c.type_inv.text i))) c.in_ok-count.ensures.judged
    (rw c.in-Some.is at c.in_ok-count.ensures.gathered) in record {
      spelled = spelled;
      refused = tt;
      fault = λ at why fault. no_fault (g.G.Grammar.language c.args.grammar) c.args.text.now c.in_ok-count.count at why
          c.in_ok-count.ensures.judged fault;
      accepted = λ ds. one_list c.requires c.args.text.now c.in-Some.parts.items ds spelled.0;
    }

pub returns-in-None : goal.returns-in-None
returns-in-None g c =
    let refused =
    hindered c.requires c.args.text.now c.in_ok-count.count c.from.result
    (bytes_of c.args.text.now (λ i. omega (arith, c.type_inv.text i))) c.in_ok-count.ensures.judged (inr c.from.ensures) in
    let is = told c.requires c.args.text.now c.from.result refused in
    record { spelled = tt; refused = refused; fault = λ at why fault. ap Err (is.0 at why fault); accepted = is.1 }
