-- What is said of a conversion with !: what it wants, and what stands there that it doesn't take.
use Rattle.std.specs.Prelude.{ℕ, ◌-◌, ◌&&◌, ◌||◌, nat_eq, Bool, true, false, not, List, [], ◌∷◌, Option, Some, codes, slice_get}
use Rattle.std.specs.Prelude.{if◌then◌else◌, length}
use Rattle.sf_base.specs.Bytes.{is_white}
use Rattle.sf_format.specs.Leads.{has_minus, has_plus, has_prefix, is_strict_lead}
use Rattle.sf_format.specs.declared.directive.Base.{Base}
use Rattle.sf_format.specs.declared.directive.Base.TheVariants.{Hex, Bin}
use Rattle.sf_format.specs.declared.directive.Directive.{Directive}
use Rattle.sf_format.specs.declared.directive.Directive.TheVariants.{Conv}
use Rattle.sf_format.specs.declared.directive.Lead.{Lead}
use Rattle.sf_format.specs.declared.directive.Lead.TheVariants.{Any, Minus, Nothing}
use Rattle.sf_format.specs.declared.directive.Shape.{Shape}
use Rattle.sf_format.specs.declared.directive.Shape.TheVariants as shape
use Rattle.sf_run.specs.outcome.Outcome.{Outcome}
use Rattle.sf_run.specs.outcome.Status.{Status}
use Rattle.sf_run.specs.outcome.Status.TheVariants.{MatchingFailure}
use Rattle.sf_messages.specs.Columns.{is_column}
use Rattle.sf_messages.specs.Newlines.{begins_white}

-- ---- what it wants

-- the digits of an integer
abbrev pub digits_text : Lead → List ℕ
digits_text Any = []
digits_text Minus = codes "digits, and nothing but a minus before them"
digits_text Nothing = codes "digits alone, and no sign, prefix or white space before them"

-- what a conversion with ! wants; a set and characters have none
abbrev pub strict_text : Shape → List ℕ
strict_text (shape.Int numeral) = digits_text numeral.lead
strict_text (shape.Text lead) = codes "a text, and no white space before it"
strict_text (shape.Float lead) = codes "a decimal number, and nothing but a minus before it"
strict_text _ = []

-- ---- what stands there

-- what may stand before the digits, or before the bytes of a text
abbrev pub lead_of : Shape → Lead
lead_of (shape.Int numeral) = numeral.lead
lead_of (shape.Text lead) = lead
lead_of (shape.Float lead) = lead
lead_of _ = Any

-- a sign that may not: + (43), - (45)
abbrev pub is_barred_sign : Lead → ℕ → Bool
is_barred_sign lead b = (nat_eq b 43 && not (has_plus lead)) || (nat_eq b 45 && not (has_minus lead))

-- such a sign, or white space where none is skipped
abbrev pub is_barred : Lead → ℕ → Bool
is_barred lead b = (is_strict_lead lead && is_white b) || is_barred_sign lead b

-- the bytes begin with one that may not stand there; where the directive takes a column, they stand after it
abbrev pub is_barred_by : Option Directive → List ℕ → Bool
is_barred_by (Some (Conv c)) (b ∷ rest) = not c.column && is_barred (lead_of c.shape) b
is_barred_by _ _ = false

-- the letter of a prefix: of base 16 x (120) or X (88), of base 2 b (98) or B (66)
abbrev pub is_prefix_letter : Base → ℕ → Bool
is_prefix_letter Hex b = nat_eq b 120 || nat_eq b 88
is_prefix_letter Bin b = nat_eq b 98 || nat_eq b 66
is_prefix_letter base b = false

-- it is that of a prefix which these numbers have, but not with !
abbrev pub is_barred_prefix : Shape → ℕ → Bool
is_barred_prefix (shape.Int numeral) b = not (has_prefix numeral.lead) && is_prefix_letter numeral.base b
is_barred_prefix _ b = false

-- the bytes after those of such a number begin so; what follows a column is no part of its number
abbrev pub is_prefix_after : Option Directive → List ℕ → Bool
is_prefix_after (Some (Conv c)) (b ∷ rest) = not c.column && is_barred_prefix c.shape b
is_prefix_after _ _ = false

-- ---- a run that failed

abbrev pub is_mismatch : Status → Bool
is_mismatch MatchingFailure = true
is_mismatch status = false

-- at a byte that may not stand there
abbrev pub is_barred_there : List Directive → Outcome → List ℕ → Bool
is_barred_there ds outcome rest = is_mismatch outcome.status && is_barred_by (slice_get ds (outcome.at - 1)) rest

-- after a number, at the letter of its prefix, which no column took
abbrev pub is_prefix_there : List Directive → Outcome → List ℕ → Bool
is_prefix_there ds outcome rest =
    is_mismatch outcome.status
    && (not (is_column (slice_get ds (outcome.at - 1))) && is_prefix_after (slice_get ds (outcome.at - 2)) rest)

-- such a letter was left after the last directive
abbrev pub is_prefix_left : List Directive → List ℕ → Bool
is_prefix_left ds rest = is_prefix_after (slice_get ds (length ds - 1)) rest

-- ---- sentences

-- white space
abbrev pub strict_white_sentence : List ℕ
strict_white_sentence = codes "white space stands there, which a strict conversion doesn't skip: a blank before it in the format does"

-- a sign
abbrev pub strict_sign_sentence : List ℕ
strict_sign_sentence = codes "a sign stands there that this strict conversion doesn't take"

-- of the byte with which the bytes begin
abbrev pub barred_sentence : List ℕ → List ℕ
barred_sentence rest = if begins_white rest then strict_white_sentence else strict_sign_sentence

-- a prefix
abbrev pub strict_prefix_sentence : List ℕ
strict_prefix_sentence =
    codes "a strict conversion takes no prefix, of 0x1f the 0 alone: the format has it before the conversion, as in 0x%x"
