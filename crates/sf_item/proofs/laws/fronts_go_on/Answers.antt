use Rattle.sf_item.proofs.Fronts.{can_take_fronts, integer_goes_on, read_more}
use Rattle.sf_item.proofs.laws.fronts_go_on.Goals as goal

pub returns-clause-front : goal.returns-clause-front
returns-clause-front c = can_take_fronts

pub returns-clause-zero : goal.returns-clause-zero
returns-clause-zero c = λ conversion numeral f is. integer_goes_on conversion f (numeral, is)

pub returns-clause-parts : goal.returns-clause-parts
returns-clause-parts c = read_more
