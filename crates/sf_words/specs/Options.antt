-- What the command line has of an option of the table.
use Rattle.std.specs.Prelude.{◌≡◌, ◌&&◌, List, fold, Bool, true, false, [], ◌∷◌, Option, Some, None, ℕ, if◌then◌else◌}
use Rattle.clap.specs.Words.{App, Row, Rule, Text, new_rule, with_rule}
use Rattle.clap.specs.declared.builder.action.ArgAction.TheVariants.{Append, SetTrue}
use Rattle.clap.specs.declared.builder.value_parser.ValueParser.TheVariants.{Signed}
use Rattle.std.specs.List.{list_any}
use Rattle.sf_words.specs.Line.{options_of}
use Rattle.sf_words.specs.Orders.{has_line_option, has_texts, is_set}
use Rattle.sf_words.specs.declared.options.CommandOption.{CommandOption}
use Rattle.sf_words.specs.declared.options.OptionOf.{OptionOf}
use Rattle.sf_words.specs.declared.options.OptionOf.TheVariants.{All, Records, Scan, Lines, ScanLines, Print, Check}
use Rattle.sf_words.specs.declared.options.OptionValue.{OptionValue}
use Rattle.sf_words.specs.declared.options.OptionValue.TheVariants.{Nothing, Number, Text as OneText, LastText, Texts}
use Rattle.sf_words.specs.declared.order.Verb.{Verb}
use Rattle.sf_words.specs.declared.order.Verb.TheVariants as verb

-- what it takes
abbrev pub value_rule : OptionValue → Rule → Rule
value_rule Nothing rule = record rule { action = Some SetTrue }
value_rule (Number least most None) rule = record rule { value_names = 1; parser = Some (Signed least most) }
value_rule (Number least most (Some text)) rule = record rule {
  value_names = 1;
  parser = Some (Signed least most);
  defaults =
      text.now ∷ [];
}
value_rule (OneText name) rule = record rule { value_names = 1 }
value_rule (LastText name text) rule = record rule { value_names = 1; defaults = text.now ∷ []; action = Some Append }
value_rule (Texts name) rule = record rule { value_names = 1; action = Some Append }

abbrev pub short_rule : Option ℕ → Rule → Rule
short_rule (Some letter) rule = record rule { short = Some letter }
short_rule None rule = rule

abbrev pub long_rule : Text → Bool → Rule → Rule
long_rule name has_long rule = if has_long then record rule { long = Some name } else rule

abbrev pub option_rule : CommandOption → Rule
option_rule option = value_rule option.value (long_rule option.name.now option.has_long
    (short_rule option.short (new_rule option.name.now)))

-- the command has such an option
abbrev pub is_of : OptionOf → Verb → Bool
is_of All verb = true
is_of Records verb.Scan = true
is_of Records verb.Copy = true
is_of Scan verb.Scan = true
is_of Lines verb.Scan = true
is_of Lines verb.Copy = true
is_of ScanLines verb.Scan = true
is_of Print verb.Print = true
is_of Check verb.Check = true
is_of _ _ = false

-- a command with the option, if it has such an option
abbrev pub with_option : Verb → App → CommandOption → App
with_option verb app option = if is_of option.of verb then with_rule app (option_rule option) else app

-- the option was given
abbrev pub is_given_by : OptionValue → Text → List Row → Bool
is_given_by Nothing name rows = is_set name rows
is_given_by _ name rows = has_texts name rows

-- it was given, and is one of lines
abbrev pub is_line_option : OptionOf → Bool
is_line_option Lines = true
is_line_option ScanLines = true
is_line_option _ = false

abbrev pub is_given_of_lines : List Row → CommandOption → Bool
is_given_of_lines rows option = is_line_option option.of && is_given_by option.value option.name.now rows

-- the table: each verb has its options
pub record AreOptions (options : List CommandOption) : Type 0 where
  pub show : (app : App) → fold (with_option verb.Show) app options ≡ options_of verb.Show app
  pub scan : (app : App) → fold (with_option verb.Scan) app options ≡ options_of verb.Scan app
  pub print : (app : App) → fold (with_option verb.Print) app options ≡ options_of verb.Print app
  pub check : (app : App) → fold (with_option verb.Check) app options ≡ options_of verb.Check app
  pub copy : (app : App) → fold (with_option verb.Copy) app options ≡ options_of verb.Copy app
  -- and an option of lines was given where one of the table's was
  pub of_lines : (rows : List Row) → list_any (is_given_of_lines rows) options ≡ has_line_option rows
