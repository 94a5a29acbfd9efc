use Rattle.std.proofs.Common.{sym, subst, arith}
use Rattle.sf_format.specs.declared.directive.Directive.{Directive}
use Rattle.sf_run.specs.Phases.{Shows}
use Rattle.sf_run.specs.Pieces.{Answers}
use Rattle.sf_run.specs.Texts.{IsSound}
use Rattle.sf_run.proofs.Pieces.{suits_any}
use Rattle.sf_run.proofs.directive.run_on.Goals as goal

pub returns-in-Conv-clause-answers : goal.returns-in-Conv-clause-answers
returns-in-Conv-clause-answers c q sound shows =
    let k = c.in-Conv.conversion in
    subst (λ (x : Directive). Answers x q c.args.used c.args.piece.now c.run_conversion.result) (sym c.in-Conv.is)
    (c.run_conversion.ensures.answers q (subst IsSound c.in-Conv.is sound)
    (subst (λ (x : Directive). Shows x c.args.phase q) c.in-Conv.is shows))

pub returns-in-Space-clause-suits : goal.returns-in-Space-clause-suits
returns-in-Space-clause-suits c = grind (arith, suits_any)

pub returns-in-Byte-clause-suits : goal.returns-in-Byte-clause-suits
returns-in-Byte-clause-suits c = grind (arith, suits_any)

pub returns-in-Percent-clause-suits : goal.returns-in-Percent-clause-suits
returns-in-Percent-clause-suits c = grind (arith, suits_any)

pub returns-in-Opens-clause-suits : goal.returns-in-Opens-clause-suits
returns-in-Opens-clause-suits c = grind (arith, suits_any)
