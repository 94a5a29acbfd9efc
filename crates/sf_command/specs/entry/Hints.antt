-- What helps where a word stands for a file and was meant for a format, and where a format of lines that are passed over stands for
-- less than it seems to.
use Rattle.std.specs.Prelude.{ℕ, zero, suc, nat_eq, Bool, true, false, ◌&&◌, ◌||◌, List, [], ◌∷◌, Option, Some, None, Ok, Err, codes}
use Rattle.std.specs.Prelude.{if◌then◌else◌, map, slice_get, string_bytes}
use Rattle.std.specs.List.{list_any}
use Rattle.sf_words.specs.declared.order.Order.{Order}
use Rattle.sf_command.specs.jobs.Answers.{Answer}
use Rattle.sf_command.specs.jobs.Heads.{is_headed}

-- the text has a percent sign (37)
abbrev pub has_percent : List ℕ → Bool
has_percent [] = false
has_percent (b ∷ rest) = if nat_eq b 37 then true else has_percent rest

abbrev pub is_format_like : Option (List ℕ) → Bool
is_format_like (Some word) = has_percent word
is_format_like None = false

-- what helps, where more is said and the name has a percent sign, by whether the format has one
abbrev pub hint_by : Bool → Bool → Bool → List ℕ
hint_by true true true = codes "  a format with spaces stands between quotes, and after -e each word is a file\n"
hint_by true true false = codes "  the format stands before the files\n"
hint_by _ _ _ = []

-- the same of an order and the name of a file that can't be opened
abbrev pub hint_of : Bool → Order → List ℕ → List ℕ
hint_of explain order name = hint_by explain (has_percent name) (is_format_like (slice_get (map string_bytes order.texts.items) 0))

-- ---- formats by which lines are passed over

-- the text begins with ^ (94), as a regular expression may
abbrev pub is_anchored : List ℕ → Bool
is_anchored [] = false
is_anchored (b ∷ rest) = nat_eq b 94

-- it has a byte that is no blank: neither a space (32) nor a tab (9)
abbrev pub has_ink : List ℕ → Bool
has_ink [] = false
has_ink (b ∷ rest) = if nat_eq b 32 || nat_eq b 9 then has_ink rest else true

-- a line failed
abbrev pub has_failed : Answer → Bool
has_failed (Ok zero) = false
has_failed (Ok (suc n)) = true
has_failed (Err fault) = false

-- what helps, by whether a format begins with ^; and where a line failed, whether one has a conversion, and one more than blanks
abbrev pub passed_by : Bool → Bool → Bool → Bool → List ℕ
passed_by true failed converts inked =
    codes "  --ignore takes a scan format, in which ^ stands for itself: '#%*[^\\n]' passes over lines that begin with #\n"
passed_by false true false true =
    codes "  --ignore passes over lines that its format reads to their end: '#' a lone #, '#%*[^\\n]' a # and what follows\n"
passed_by _ _ _ _ = []

-- it is so with one of the formats
abbrev pub some_passed : (List ℕ → Bool) → Order → Bool
some_passed is order = list_any (λ word. is (string_bytes word)) order.ignored.items

-- the same of an order of lines and its answer, after the first of its inputs
abbrev pub passed_hint : Bool → Order → Answer → List ℕ
passed_hint explain order answer =
    if explain && is_headed order.file
    then passed_by (some_passed is_anchored order) (has_failed answer) (some_passed has_percent order) (some_passed has_ink order)
    else []
