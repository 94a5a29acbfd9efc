use Rattle.sf_float_tests.proofs.items.taken_of.Goals as goal

pub returns-clause-whole : goal.returns-clause-whole
returns-clause-whole c = λ forms f read.
    let rest = c.each_goes_on.ensures c.take_run.new.self.reached in
    (rest.0, rest.1, (read rest.0).1 rest.2)
