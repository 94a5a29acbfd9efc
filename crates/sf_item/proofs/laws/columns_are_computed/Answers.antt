use Rattle.std.proofs.Common.{sym, subst}
use Rattle.sf_item.specs.Columns.{IsTextOf}
use Rattle.sf_item.proofs.Columns.{fills_is, text_is, text_only}
use Rattle.sf_item.proofs.laws.columns_are_computed.Goals as goal

pub returns-clause-filling : goal.returns-clause-filling
returns-clause-filling c = λ conversion t. let is = fills_is conversion t in (is.1, is.0)

pub returns-clause-texts : goal.returns-clause-texts
returns-clause-texts c = λ conversion s t ink. (
  text_only conversion s t,
  λ e. subst (IsTextOf conversion s) (sym e) (text_is conversion s ink),
)
