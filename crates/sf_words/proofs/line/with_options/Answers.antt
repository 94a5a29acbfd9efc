use Rattle.std.proofs.Common.{IfOk, subst}
use Rattle.clap.specs.Words.{App, new_app}
use Rattle.sf_words.specs.Line.{IsLine}
use Rattle.sf_words.proofs.Table.{of_verb}
use Rattle.sf_words.proofs.line.with_options.Goals as goal

pub returns : goal.returns
returns c =
    let app : App = new_app c.args.name.now in
    subst (λ a. IfOk c.with_each.result (IsLine a)) (of_verb c.args.verb c.all_options.result.now c.all_options.ensures app)
    (c.with_each.ensures app c.command.ensures)
