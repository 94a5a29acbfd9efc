use Rattle.sf_arguments.proofs.argument_fault.ArgumentFaultDisplay.fmt.Goals as goal

pub returns-in-WrongCount-clause-writes : goal.returns-in-WrongCount-clause-writes
returns-in-WrongCount-clause-writes g c = rw c.in-WrongCount.is c.write.ensures.writes
