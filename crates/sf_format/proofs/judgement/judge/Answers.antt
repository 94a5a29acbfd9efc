use Rattle.std.proofs.Common.{Ok, Err, ◌∙◌, arith}
use Rattle.std.proofs.lemmas.Result.{err_from_is_err_and}
use Rattle.sf_format.specs.Passing.{fault_of}
use Rattle.sf_format.proofs.Walks.{bytes_of}
use Rattle.sf_format.proofs.Judgements.{read_judged, all_judged, judged_few}
use Rattle.sf_format.proofs.judgement.judge.Goals as goal

pub returns-in_err-all : goal.returns-in_err-all
returns-in_err-all g c =
    let p = err_from_is_err_and c.from_residual.result c.from_residual.ensures.1 in
    rw (p.1, p.2) (record {
      judged = tt;
      gathered = tt;
      fault = read_judged (g.G.Grammar.language c.args.grammar) c.args.text.now (Err (fault_of c.in_err-all.field-0.0))
          c.if-text-gt4096.false c.in_err-all.ensures.fault;
    })

pub returns-in-Some-clause-fault : goal.returns-in-Some-clause-fault
returns-in-Some-clause-fault g c =
    let walked = c.in_ok-all.ensures.walked in
    read_judged (g.G.Grammar.language c.args.grammar) c.args.text.now (Ok walked.0) c.if-text-gt4096.false walked.1
    ∙ rw (← c.in-Some.ensures walked.0 walked.1)

pub overflow_cast-result : goal.overflow_cast-result
overflow_cast-result g c =
    let walked = c.in_ok-all.ensures.walked in
    omega (
      arith,
      judged_few (g.G.Grammar.language c.args.grammar) c.args.text.now c.in_ok-all.all.slots.count
          (bytes_of c.args.text.now (λ i. omega (arith, c.type_inv.text i)))
          (all_judged (g.G.Grammar.language c.args.grammar) c.args.text.now c.in_ok-all.all c.if-text-gt4096.false walked
          (c.in-None.ensures walked.0 walked.1)),
    )

pub returns-in-None-clause-judged : goal.returns-in-None-clause-judged
returns-in-None-clause-judged g c =
    let walked = c.in_ok-all.ensures.walked in
    all_judged (g.G.Grammar.language c.args.grammar) c.args.text.now c.in_ok-all.all c.if-text-gt4096.false walked
    (c.in-None.ensures walked.0 walked.1)
