use Rattle.std.proofs.Common.{◌∙◌, ap}
use Rattle.clap.specs.Words.{found_of}
use Rattle.clap.proofs.WalkLemmas.{one_text-rows}
use Rattle.sf_words.specs.Orders.{is_true}
use Rattle.sf_words.proofs.Given.{flag_read}
use Rattle.sf_words.proofs.misuse.is_set.Goals as goal

pub returns : goal.returns
returns c =
    c.unwrap_or.ensures
    ∙ flag_read _ _ c.get_one.result c.get_one.ensures.none c.get_one.ensures.value
    ∙ ap is_true (one_text-rows (found_of c.args.given.now) c.args.name.now)
