use Rattle.sf_messages.proofs.fault.CommandFaultDisplay.fmt.Goals as goal

pub returns-in-Count-clause-writes : goal.returns-in-Count-clause-writes
returns-in-Count-clause-writes g c =
    rw (c.in-Unprintable.is, c.in-Count.is) c.write-in-Count.ensures.writes

pub returns-in-NameEmpty-clause-writes : goal.returns-in-NameEmpty-clause-writes
returns-in-NameEmpty-clause-writes g c = rw c.in-NameEmpty.is c.write-in-NameEmpty.ensures.writes

pub returns-in-NameTwice-clause-writes : goal.returns-in-NameTwice-clause-writes
returns-in-NameTwice-clause-writes g c = rw c.in-NameTwice.is c.write-in-NameTwice.ensures.writes
