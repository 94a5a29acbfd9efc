-- Words that begin with a hyphen and are no options, which clap takes for some. A format after -e gets there as `-e=FORMAT` in one
-- word, and so does what stands after --ignore and --print. A value of a print that is a number below zero gets there after `--`.
use Rattle.std.specs.Prelude.{◌&&◌, ◌||◌, ◌==◌, ℕ, Bool, true, false, nat_le, List, [], ◌∷◌, ◌++◌, Option, Some, None, codes, if◌then◌else◌}
use Rattle.std.specs.Str.{bytes_eq}
use Rattle.clap.specs.Words.{Text}
use Rattle.sf_words.specs.declared.hyphens.Next.{Next}
use Rattle.sf_words.specs.declared.hyphens.Next.TheVariants.{Command, Word, Format, Value, Other}

-- the letter of an option without a value: S, k, l, q or w
abbrev pub is_flag_letter : ℕ → Bool
is_flag_letter b = (b == 83) || ((b == 107) || ((b == 108) || ((b == 113) || (b == 119))))

-- such letters, and then the e (101) of -e
abbrev pub letters_ask : Text → Bool
letters_ask [] = false
letters_ask (b ∷ []) = b == 101
letters_ask (b ∷ rest) = is_flag_letter b && letters_ask rest

-- the word is a hyphen, letters of options without a value or none of them, and e
abbrev pub is_format_flag : Text → Bool
is_format_flag [] = false
is_format_flag (b ∷ letters) = (b == 45) && letters_ask letters

-- the word is one after which a format stands: -e, --ignore or --print
abbrev pub asks_format : Text → Bool
asks_format word = is_format_flag word || (bytes_eq word (codes "--ignore") || bytes_eq word (codes "--print"))

abbrev pub begins_with_hyphen : Text → Bool
begins_with_hyphen [] = false
begins_with_hyphen (b ∷ rest) = b == 45

-- the words of a scan, after one that asks for a format, if that is the last; what stands after -- is no option
abbrev pub joined : Option Text → List Text → List Text
joined None [] = []
joined None (word ∷ rest) =
    if asks_format word then joined (Some word) rest else word ∷ (if bytes_eq word (codes "--") then rest else joined None rest)
joined (Some asking) [] = asking ∷ []
joined (Some asking) (word ∷ rest) =
    if begins_with_hyphen word then (asking ++ codes "=" ++ word) ∷ joined None rest else asking ∷ word ∷ joined None rest

-- the byte is a digit (48 to 57)
abbrev pub is_digit : ℕ → Bool
is_digit b = nat_le 48 b && nat_le b 57

-- the word begins with a minus (45) and a digit
abbrev pub is_negative : Text → Bool
is_negative (b ∷ digit ∷ rest) = (b == 45) && is_digit digit
is_negative _ = false

-- the word is an option of a print after which a number stands
abbrev pub asks_number : Text → Bool
asks_number word = bytes_eq word (codes "-p") || bytes_eq word (codes "--profile")

-- the words of a print, where the one before them asks for a number or not: from the first value on that begins with a minus and a
-- digit, all are values
abbrev pub valued : Bool → List Text → List Text
valued asked [] = []
valued true (word ∷ rest) = word ∷ valued false rest
valued false (word ∷ rest) =
    if is_negative word then codes "--" ∷ word ∷ rest
    else word ∷ (if bytes_eq word (codes "--") then rest else valued (asks_number word) rest)

-- the words after the name of a command
abbrev pub words_after : Text → List Text → List Text
words_after name rest =
    if bytes_eq name (codes "scan") then joined None rest else (if bytes_eq name (codes "print") then valued false rest else rest)

-- the words as clap gets them
abbrev pub clap_words : List Text → List Text
clap_words [] = []
clap_words (word ∷ rest) = word ∷ words_after word rest

-- what clap gets of the words that are left
abbrev pub left_of : Next → List Text → List Text
left_of Command words = clap_words words
left_of Word words = joined None words
left_of (Format asking) words = joined (Some asking.now) words
left_of (Value asked) words = valued asked words
left_of Other words = words
