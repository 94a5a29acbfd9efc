use Rattle.sf_laws_tests.proofs.pairs.refused_pair.Goals as goal

pub returns-clause-one : goal.returns-clause-one
returns-clause-one c = λ d e left other s t. (c.stops_are_one.ensures c.args.print.now c.args.scan.now c.in-Err.fault.at d e left other s
    t).0
