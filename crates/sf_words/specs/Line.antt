-- The command line of sf: what clap's definitions read of it.
use Rattle.std.specs.Prelude.{◌≡◌, ◌^◌, ◌-◌, pos, false, true, ℕ, [], ◌∷◌, Some, codes}
use Rattle.clap.specs.Words.{App, Rule, Text, app_of, new_app, new_rule, with_rule, with_subcommand}
use Rattle.clap.specs.declared.builder.command.Command.{Command}
use Rattle.clap.specs.declared.builder.command.Command.TheViews.{out-Command}
use Rattle.clap.specs.declared.builder.value_parser.ValueParser.TheVariants.{Signed}
use Rattle.sf_words.specs.declared.order.Verb.{Verb}
use Rattle.sf_words.specs.declared.order.Verb.TheVariants.{Show, Scan, Print, Check, Copy}
use Rattle.clap.specs.declared.builder.action.ArgAction.TheVariants.{Append, SetTrue}

-- ---- arguments

-- a word that has to be given
abbrev pub word_rule : Text → Rule
word_rule name = record (new_rule name) { required = true }

-- --limit N: a number up to 2147483647, and 1048576 where it is not given
abbrev pub limit_rule : Rule
limit_rule = record (new_rule (codes "limit")) {
  long = Some (codes "limit");
  value_names = 1;
  defaults = codes "1048576" ∷ [];
  parser = Some (Signed (pos 0) (pos 2147483647));
}

-- --profile N, -p N (112): 1, 2 or 3, and 1 where it is not given
abbrev pub profile_rule : Rule
profile_rule = record (new_rule (codes "profile")) {
  long = Some (codes "profile");
  short = Some 112;
  value_names = 1;
  defaults = codes "1" ∷ [];
  parser = Some (Signed (pos 1) (pos 3));
}

-- --output FORM, -o FORM (111), as often as wanted: any text, and plain where it is not given
abbrev pub output_rule : Rule
output_rule = record (new_rule (codes "output")) {
  long = Some (codes "output");
  short = Some 111;
  value_names = 1;
  defaults = codes "plain" ∷ [];
  action = Some Append;
}

-- --print PRINT, --names NAMES: any text
abbrev pub text_rule : Text → Rule
text_rule name = record (new_rule name) { long = Some name; value_names = 1 }

-- an option without a value, and one for which a letter stands too
abbrev pub flag_rule : Text → Rule
flag_rule name = record (new_rule name) { long = Some name; action = Some SetTrue }

abbrev pub letter_flag_rule : Text → ℕ → Rule
letter_flag_rule name letter = record (flag_rule name) { short = Some letter }

-- --skip N, -s N (115): a number of i64 that isn't negative
abbrev pub skip_rule : Rule
skip_rule = record (new_rule (codes "skip")) {
  long = Some (codes "skip");
  short = Some 115;
  value_names = 1;
  parser = Some (Signed (pos 0) (pos 9223372036854775807));
}

-- -e FORMAT (101), as often as wanted
abbrev pub formats_rule : Rule
formats_rule = record (new_rule (codes "formats")) { short = Some 101; value_names = 1; action = Some Append }

-- --ignore FORMAT, as often as wanted
abbrev pub ignore_rule : Rule
ignore_rule = record (new_rule (codes "ignore")) { long = Some (codes "ignore"); value_names = 1; action = Some Append }

-- --width N: a number from 1 to 65535
abbrev pub width_rule : Rule
width_rule = record (new_rule (codes "width")) {
  long = Some (codes "width");
  value_names = 1;
  parser = Some (Signed (pos 1) (pos 65535));
}

-- any number of words
abbrev pub words_rule : Text → Rule
words_rule name = record (new_rule name) { range = Some (record { start_inclusive = 0; end_inclusive = 2 ^ 64 - 1 }) }

-- ---- commands

-- --lines is -l (108), and --whole is -w (119)
abbrev pub lines_rule : Rule
lines_rule = letter_flag_rule (codes "lines") 108

abbrev pub whole_rule : Rule
whole_rule = letter_flag_rule (codes "whole") 119

-- --strict is -S (83)
abbrev pub strict_rule : Rule
strict_rule = letter_flag_rule (codes "strict") 83

-- those of lines
abbrev pub with_lines : App → App
with_lines a = with_rule (with_rule a lines_rule) whole_rule

-- those of lines that fail: --keep-going is -k (107), and --quiet is -q (113)
abbrev pub with_failures : App → App
with_failures a = with_rule (with_rule a (letter_flag_rule (codes "keep-going") 107)) (letter_flag_rule (codes "quiet") 113)

-- those of lines that are passed over
abbrev pub with_passed : App → App
with_passed a = with_rule (with_rule (with_rule a (flag_rule (codes "matching"))) ignore_rule) skip_rule

-- those of what a scan writes
abbrev pub with_forms : App → App
with_forms a =
    with_rule (with_rule (with_rule (with_rule a output_rule) (text_rule (codes "names"))) (text_rule (codes "print")))
    (flag_rule (codes "tag"))

-- those of what is said of faults
abbrev pub with_notes : App → App
with_notes a = with_rule (with_rule a (flag_rule (codes "explain"))) (flag_rule (codes "no-explain"))

-- those of a command that scans records
abbrev pub with_records : App → App
with_records a = with_notes (with_rule (with_rule (with_rule a profile_rule) limit_rule) (flag_rule (codes "line-buffered")))

-- those of any other command
abbrev pub with_options : App → App
with_options a = with_notes (with_rule a profile_rule)

-- those of each verb
abbrev pub options_of : Verb → App → App
options_of Show a = with_options a
options_of Scan a = with_records (with_forms (with_passed (with_failures (with_rule (with_rule (with_lines a) strict_rule) formats_rule))))
options_of Print a = with_options (with_rule a (flag_rule (codes "raw")))
options_of Check a = with_options (with_rule a width_rule)
options_of Copy a = with_records (with_rule (with_failures (with_lines a)) skip_rule)

abbrev pub show_app : App
show_app = with_rule (options_of Show (new_app (codes "show"))) (word_rule (codes "FORMAT"))

abbrev pub scan_app : App
scan_app = with_rule (with_rule (options_of Scan (new_app (codes "scan"))) (new_rule (codes "FORMAT"))) (words_rule (codes "FILE"))

abbrev pub print_app : App
print_app = with_rule (with_rule (options_of Print (new_app (codes "print"))) (word_rule (codes "FORMAT"))) (words_rule (codes "VALUES"))

abbrev pub check_app : App
check_app = with_rule (with_rule (options_of Check (new_app (codes "check"))) (word_rule (codes "PRINT"))) (new_rule (codes "SCAN"))

abbrev pub copy_app : App
copy_app =
    with_rule (with_rule (with_rule (options_of Copy (new_app (codes "copy"))) (word_rule (codes "PRINT"))) (word_rule (codes "SCAN")))
    (words_rule (codes "FILE"))

-- a command with a version, which needs a subcommand, and shows its help where there is no word at all
abbrev pub wanting_subcommand : App → App
wanting_subcommand a = record a { top = record a.top { has_version = true; arg_required_else_help = true; subcommand_required = true } }

abbrev pub sf_app : App
sf_app =
    with_subcommand
    (with_subcommand
    (with_subcommand (with_subcommand (with_subcommand (wanting_subcommand (new_app (codes "sf"))) show_app.top) scan_app.top)
    print_app.top)
    check_app.top)
    copy_app.top

-- the command is this one, with no argument that goes down to its subcommands
pub record IsLine (app : App) (command : Command) : Type 0 where
  pub is : app_of command ≡ app
  pub local : (out-Command command).has_globals ≡ false
