-- Commands in commands.
use Rattle.std.proofs.Common.{◌≡◌, ◌∙◌, false, ap, ap₂, ◌||◌}
use Rattle.clap.specs.Words.{AddsArg, AddsSubcommand, App, Rule, rule_of, with_rule, with_subcommand}
use Rattle.clap.specs.declared.builder.arg.Arg.{Arg}
use Rattle.clap.specs.declared.builder.command.Command.{Command}
use Rattle.sf_words.specs.Line.{IsLine}

-- a command of its own, with one more argument
pub with_one_arg : (a : App) (rule : Rule) (old new : Command) (arg : Arg) → IsLine a old → rule_of arg ≡ rule → arg.global ≡ false
    → AddsArg old arg new → IsLine (with_rule a rule) new
with_one_arg a rule old new arg line is local added = record {
  is = added.shape local ∙ ap₂ with_rule line.is is;
  local = added.globals ∙ ap₂ (λ x y. x || y) line.local local;
}

-- a command of its own, with one more subcommand
pub with_one_more : (a b : App) (old sub new : Command) → IsLine a old → IsLine b sub → AddsSubcommand old sub new
    → IsLine (with_subcommand a b.top) new
with_one_more a b old sub new above below added = record {
  is = added.shape below.local ∙ ap₂ with_subcommand above.is (ap (λ (x : App). x.top) below.is);
  local = added.globals ∙ ap₂ (λ x y. x || y) above.local below.local;
}
