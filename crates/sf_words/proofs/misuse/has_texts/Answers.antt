use Rattle.std.proofs.Common.{◌∙◌, ap}
use Rattle.clap.specs.Walk.{texts}
use Rattle.clap.specs.Words.{found_of}
use Rattle.sf_words.specs.Orders.{is_full}
use Rattle.sf_words.proofs.Given.{none_given, not_empty, some_given}
use Rattle.sf_words.proofs.misuse.has_texts.Goals as goal

pub returns-in-Some : goal.returns-in-Some
returns-in-Some c =
    not_empty c.in-Some.values.now c.is_empty.result c.is_empty.ensures
    ∙ ap is_full (some_given (λ s. texts s.now) c.get_strs.result c.in-Some.values
    (found_of c.args.given.now) c.args.id.now c.get_strs.ensures c.in-Some.is)

pub returns-in-None : goal.returns-in-None
returns-in-None c = ap is_full (none_given (λ s. texts s.now) c.get_strs.result
    (found_of c.args.given.now) c.args.id.now c.get_strs.ensures c.in-None.is)
