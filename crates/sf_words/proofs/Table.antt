-- The table of options.
use Rattle.std.proofs.Common.{◌≡◌, List, fold}
use Rattle.clap.specs.Words.{App}
use Rattle.sf_words.specs.Line.{options_of}
use Rattle.sf_words.specs.Options.{AreOptions, with_option}
use Rattle.sf_words.specs.declared.options.CommandOption.{CommandOption}
use Rattle.sf_words.specs.declared.order.Verb.{Verb}
use Rattle.sf_words.specs.declared.order.Verb.TheVariants.{Show, Scan, Print, Check, Copy}

-- those of a verb
pub of_verb : (verb : Verb) (options : List CommandOption) → AreOptions options → (app : App)
    → fold (with_option verb) app options ≡ options_of verb app
of_verb Show options are app = are.show app
of_verb Scan options are app = are.scan app
of_verb Print options are app = are.print app
of_verb Check options are app = are.check app
of_verb Copy options are app = are.copy app
