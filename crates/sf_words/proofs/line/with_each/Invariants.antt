use Rattle.std.proofs.Common.{◌≡◌, fold, drop}
use Rattle.clap.specs.Words.{App}
use Rattle.sf_words.specs.Line.{IsLine}
use Rattle.sf_words.specs.Options.{with_option}
use Rattle.sf_words.proofs.line.with_each.Given as goal

-- with the options that are left, the command is what it is to be
abbrev pub invariant-loop-option : goal.invariant-loop-option
invariant-loop-option l =
    (app : App) → IsLine app l.fn.bare
    → (before : App) × IsLine before l.command × (fold (with_option l.verb) before (drop l.option-index l.options)
    ≡ fold (with_option l.verb) app l.options)
