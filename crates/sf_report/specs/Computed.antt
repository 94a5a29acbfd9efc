-- Steps and runs as functions. By sf_run::laws these, and no others, are what the relations of Steps and Runs allow.
use Rattle.std.specs.Prelude.{ℕ, zero, suc, ◌+◌, Bool, true, false, if◌then◌else◌, nat_eq, min, List, [], ◌∷◌, ◌++◌, length, take}
use Rattle.std.specs.Prelude.{drop}
use Rattle.sf_base.specs.Bytes.{is_white}
use Rattle.sf_format.specs.declared.directive.Lead.{Lead}
use Rattle.sf_format.specs.declared.directive.Lead.TheVariants.{Any, Minus, Nothing}
use Rattle.sf_format.specs.declared.directive.Shape.{Shape}
use Rattle.sf_format.specs.declared.directive.Shape.TheVariants.{Int, Text, Float, Count}
use Rattle.sf_format.specs.declared.directive.Conversion.{Conversion}
use Rattle.sf_format.specs.declared.directive.Directive.{Directive}
use Rattle.sf_format.specs.declared.directive.Directive.TheVariants.{Space, Byte, Percent, Conv, Opens}
use Rattle.sf_format.specs.declared.directive.Literal.{Literal}
use Rattle.sf_format.specs.declared.directive.Literal.TheVariants as literal
use Rattle.sf_item.specs.Columns.{column_width}
use Rattle.sf_item.specs.Tests.{can_take}
use Rattle.sf_report.specs.Steps.{StepEnd, Passes, Fails, missed}
use Rattle.sf_report.specs.Runs.{Ran, over, left_out}
use Rattle.sf_report.specs.Machine.{count_end, item_end, column_end, nothing_end, empty_end}
use Rattle.sf_report.specs.Residual.{Part}

-- the length of the longest front that is white space
abbrev pub skip : List ℕ → ℕ
skip [] = 0
skip (b ∷ x) = if is_white b then suc (skip x) else 0

-- how many bytes of y the conversion takes after the front f of its item
abbrev pub len : Conversion → List ℕ → List ℕ → ℕ
len c f [] = 0
len c f (b ∷ y) = if can_take c (f ++ b ∷ []) then suc (len c (f ++ b ∷ []) y) else 0

-- whether a byte is left
abbrev pub has_more : List ℕ → Bool
has_more [] = false
has_more (b ∷ x) = true

abbrev pub byte_choice : Bool → ℕ × StepEnd
byte_choice true = (1, Passes)
byte_choice false = (0, nothing_end true)

-- a byte that has to stand next
abbrev pub byte_step : ℕ → List ℕ → ℕ × StepEnd
byte_step a [] = (0, nothing_end false)
byte_step a (b ∷ x) = byte_choice (nat_eq a b)

-- how much white space is skipped before the item
abbrev pub skip_under : Lead → List ℕ → ℕ
skip_under Any x = skip x
skip_under Minus x = 0
skip_under Nothing x = 0

abbrev pub skip_before : Shape → List ℕ → ℕ
skip_before (Int numeral) x = skip_under numeral.lead x
skip_before (Text lead) x = skip_under lead x
skip_before (Float lead) x = skip_under lead x
skip_before _ x = 0

-- the end of a conversion whose item is the first j bytes of y
abbrev pub item_ended : Conversion → List ℕ → ℕ → StepEnd
item_ended c y zero = empty_end c (has_more y)
item_ended c y (suc j) = item_end c (take (suc j) y)

-- the item after s bytes of x, with these
abbrev pub item_part : Conversion → List ℕ → ℕ → ℕ × StepEnd
item_part c x s = (s + len c [] (drop s x), item_ended c (drop s x) (len c [] (drop s x)))

abbrev pub item_step : Conversion → List ℕ → ℕ × StepEnd
item_step c x = item_part c x (skip_before c.shape x)

abbrev pub conversion_step : Conversion → Shape → List ℕ → ℕ → ℕ × StepEnd
conversion_step c Count x n = (0, count_end c c.slot n)
conversion_step c _ x n = item_step c x

-- how long a column is
abbrev pub column_len : Conversion → List ℕ → ℕ
column_len c x = min (length x) (column_width c)

-- the end of a conversion whose column has these bytes of x
abbrev pub column_ended : Conversion → List ℕ → List ℕ → StepEnd
column_ended c x [] = empty_end c (has_more x)
column_ended c x (b ∷ s) = column_end c (b ∷ s)

abbrev pub column_step : Conversion → List ℕ → ℕ × StepEnd
column_step c x = (column_len c x, column_ended c x (take (column_len c x) x))

-- by whether it has =
abbrev pub step_by : Bool → Conversion → List ℕ → ℕ → ℕ × StepEnd
step_by true c x n = column_step c x
step_by false c x n = conversion_step c c.shape x n

-- the percent sign after s bytes of x, with these
abbrev pub percent_step : List ℕ → ℕ → ℕ × StepEnd
percent_step x s = (s + (byte_step 37 (drop s x)).0, (byte_step 37 (drop s x)).1)

abbrev pub literal_step : Literal → List ℕ → ℕ × StepEnd
literal_step (literal.Byte a) x = byte_step a x
literal_step literal.Percent x = percent_step x (skip x)

-- a literal that opens a group
abbrev pub opener_step : Literal → List ℕ → ℕ × StepEnd
opener_step l x = ((literal_step l x).0, missed (literal_step l x).1)

-- how many bytes of x a directive consumes after n bytes of the run, and how it ends
abbrev pub step_of : Directive → List ℕ → ℕ → ℕ × StepEnd
step_of Space x n = (skip x, Passes)
step_of (Byte a) x n = byte_step a x
step_of Percent x n = percent_step x (skip x)
step_of (Conv c) x n = step_by c.column c x n
step_of (Opens o) x n = opener_step o.literal x

-- such a step of x, after n bytes of the run: what it leaves
abbrev pub part_of : ℕ → List ℕ → ℕ × StepEnd → Part
part_of n x r = record { used = n + r.0; left = drop r.0 x; end = r.1 }

-- a failure ends the run
abbrev pub go_on : StepEnd → List Ran → List Ran
go_on (Fails status) rest = []
go_on _ rest = rest

-- the directives that run on x after n bytes of the run, each with its step; the first m are missing with one before them
abbrev pub ran_past : ℕ → List Directive → List ℕ → ℕ → List Ran
ran_past m [] x n = []
ran_past zero (d ∷ ds) x n =
    let r = step_of d x n in
    record { directive = d; bytes = r.0; end = r.1 } ∷ go_on r.1 (ran_past (over d r.1) ds (drop r.0 x) (n + r.0))
ran_past (suc m) (d ∷ ds) x n = left_out d ∷ ran_past m ds x n

-- the same, where none is missing before the first
abbrev pub ran_of : List Directive → List ℕ → ℕ → List Ran
ran_of ds x n = ran_past 0 ds x n
