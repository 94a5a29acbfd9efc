use Rattle.std.proofs.Common.{◌≡◌, ◌∙◌, Some, false, ap, rules, sym}
use Rattle.clap.specs.Words.{found_of}
use Rattle.clap.specs.declared.parser.matches.ValueSource.TheVariants.{CommandLine}
use Rattle.sf_words.specs.Orders.{is_of_words}
use Rattle.sf_words.proofs.Given.{source_read}
use Rattle.sf_words.proofs.misuse.is_given.Goals as goal

pub returns-in-Some-CommandLine : goal.returns-in-Some-CommandLine
returns-in-Some-CommandLine c =
    let given : c.value_source.result ≡ Some CommandLine = search rules in
    ap is_of_words (sym given ∙ c.value_source.ensures ∙ source_read (found_of c.args.given.now) c.args.id.now)

pub returns-in_default : goal.returns-in_default
returns-in_default c =
    let other : is_of_words c.value_source.result ≡ false = search rules in
    sym other ∙ ap is_of_words (c.value_source.ensures ∙ source_read (found_of c.args.given.now) c.args.id.now)

pub returns-in_default-2 : goal.returns-in_default-2
returns-in_default-2 c =
    let other : is_of_words c.value_source.result ≡ false = search rules in
    sym other ∙ ap is_of_words (c.value_source.ensures ∙ source_read (found_of c.args.given.now) c.args.id.now)
