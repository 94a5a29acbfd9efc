use Rattle.std.proofs.Common.{◌∙◌, ap, codes}
use Rattle.clap.specs.Words.{found_of}
use Rattle.clap.proofs.WalkLemmas.{first_value-rows}
use Rattle.sf_words.specs.Orders.{blank_faults}
use Rattle.sf_words.proofs.misuse.name_misuse.Goals as goal

pub returns : goal.returns
returns c =
    c.blank_misuse.ensures ∙ ap blank_faults (c.get_str.ensures ∙ first_value-rows (found_of c.args.given.now) (codes "names"))
