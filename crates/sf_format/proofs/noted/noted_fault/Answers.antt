use Rattle.sf_format.proofs.Notings.{noted_first}
use Rattle.sf_format.proofs.noted.noted_fault.Goals as goal

pub returns-in-Some-default : goal.returns-in-Some-default
returns-in-Some-default c = λ count ns notes. rw c.in-Some-default.is-0 at (noted_first count ns c.args.noted.now notes)

pub returns-in-None-Some : goal.returns-in-None-Some
returns-in-None-Some c = λ count ns notes. rw (c.in-None-Some.is-0, c.in-None-Some.is-1) at (noted_first count ns c.args.noted.now notes)

pub returns-in-None-None : goal.returns-in-None-None
returns-in-None-None c = λ count ns notes. rw (c.in-None-None.is-0, c.in-None-None.is-1) at (noted_first count ns c.args.noted.now notes)
