use Rattle.std.proofs.Common.{◌≡◌, drop}
use Rattle.std.specs.List.{list_any}
use Rattle.clap.specs.Words.{found_of, rows_of}
use Rattle.sf_words.specs.Options.{is_given_of_lines}
use Rattle.sf_words.specs.Orders.{has_line_option}
use Rattle.sf_words.proofs.misuse.line_option.Given as goal

-- an option of lines was given where one of those that are left was
abbrev pub invariant-loop-option : goal.invariant-loop-option
invariant-loop-option l =
    list_any (is_given_of_lines (rows_of (found_of l.given))) (drop l.option-index l.option-items)
    ≡ has_line_option (rows_of (found_of l.given))
