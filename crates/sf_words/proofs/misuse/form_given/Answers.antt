use Rattle.std.proofs.Common.{◌∙◌, ap, codes}
use Rattle.clap.specs.Walk.{texts}
use Rattle.clap.specs.Words.{found_of}
use Rattle.sf_words.specs.Orders.{last_text}
use Rattle.sf_words.proofs.Given.{none_given, some_given}
use Rattle.sf_words.proofs.misuse.form_given.Goals as goal

pub returns-in-Some : goal.returns-in-Some
returns-in-Some c =
    c.last_text.ensures
    ∙ ap (last_text (codes "plain")) (some_given (λ s. texts s.now) c.get_strs.result c.in-Some.values (found_of c.args.given.now)
    (codes "output") c.get_strs.ensures c.in-Some.is)

pub returns-in-None : goal.returns-in-None
returns-in-None c = ap (last_text (codes "plain")) (none_given (λ s. texts s.now) c.get_strs.result (found_of c.args.given.now)
    (codes "output") c.get_strs.ensures c.in-None.is)
