-- How a run and its store go together.
use Rattle.std.specs.Prelude.{◌≡◌, ℕ, ◌+◌, ◌≤◌, Bool, true, false, ◌&&◌, not, nat_eq, nat_le, is_some, unwrap_or, List, [], ◌∷◌, drop}
use Rattle.std.specs.Prelude.{Option}
use Rattle.std.specs.Prelude.{Some, None}
use Rattle.std.specs.List.{list_all, list_any, sum_by}
use Rattle.sf_format.specs.declared.directive.Directive.{Directive}
use Rattle.sf_format.specs.Proper.{slots_of}
use Rattle.sf_format.specs.Widths.{stored_width}
use Rattle.sf_format.specs.declared.directive.Directive.TheVariants.{Conv}
use Rattle.sf_item.specs.Scan.{most_bytes, HasLeft}
use Rattle.sf_item.specs.Taking.{left_of}
use Rattle.sf_item.specs.declared.column.ColumnScan.{ColumnScan}
use Rattle.sf_item.specs.ColumnScans.{column_left}
use Rattle.sf_run.specs.declared.directive.Phase.{Phase}
use Rattle.sf_run.specs.declared.directive.Phase.TheVariants.{Text, Column}
use Rattle.sf_run.specs.declared.scanner.Stop.{Stop}
use Rattle.sf_report.specs.Residual.{choose}
use Rattle.sf_run.specs.Texts.{text_slot}

-- each slot of the directives is one of the store's
abbrev pub are_placed : ℕ → List Directive → Bool
are_placed slots ds = list_all (λ n. nat_le 1 n && nat_le n slots) (slots_of ds)

-- no two of the numbers are the same
abbrev pub are_apart : List ℕ → Bool
are_apart [] = true
are_apart (n ∷ ns) = not (list_any (nat_eq n) ns) && are_apart ns

-- each of the numbers is one of the others
abbrev pub are_among : List ℕ → List ℕ → Bool
are_among ns others = list_all (λ n. list_any (nat_eq n) others) ns

-- the slot that is given the text of the directive at this place
abbrev pub first_slot : List Directive → Option ℕ
first_slot [] = None
first_slot (d ∷ ds) = text_slot d

-- a text is under way
abbrev pub is_text : Phase → Bool
is_text (Text slot scan) = true
is_text (Column slot scan) = is_some slot
is_text _ = false

-- the bytes that the directives store at most
abbrev pub stored_widths : List Directive → ℕ
stored_widths ds = sum_by (λ d. unwrap_or (stored_width d) 0) ds

-- the bytes that a column with this slot for its text still stores at most
abbrev pub column_room : Option ℕ → ColumnScan → ℕ
column_room None scan = 0
column_room (Some slot) scan = column_left scan

-- the bytes that a directive that has come so far still stores at most
abbrev pub width_left : Directive → Phase → ℕ
width_left d (Text slot scan) = unwrap_or (left_of scan) 0
width_left d (Column slot scan) = column_room (text_slot d) scan
width_left d _ = unwrap_or (stored_width d) 0

abbrev pub widths_from : List Directive → Phase → ℕ
widths_from [] phase = 0
widths_from (d ∷ ds) phase = width_left d phase + stored_widths ds

-- the bytes that a run still stores at most
abbrev pub still_stored : Option Stop → List Directive → ℕ → Phase → ℕ
still_stored ended ds passed phase = choose ended (widths_from (drop passed ds) phase) (λ stop. 0)

-- the text under way has a bounded width
abbrev pub is_limited : Phase → Bool
is_limited (Text slot scan) = is_some (left_of scan)
is_limited _ = true

-- how many more bytes the item of a directive that has come so far may have
abbrev pub left_before : Directive → Phase → Option ℕ
left_before d (Text slot scan) = left_of scan
left_before d (Column slot scan) = Some (column_left scan)
left_before (Conv c) _ = most_bytes c.shape c.width
left_before _ _ = None

-- so many are left at most, after n bytes of the text; white space before it takes up the width of a column too
abbrev pub HasLeftAtMost : Option ℕ → ℕ → ℕ → Type 0
HasLeftAtMost None left n = Unit {0}
HasLeftAtMost (Some most) left n = left + n ≤ most

-- a column that is given up was no text's
abbrev pub IsGivenUp : Directive → Phase → Type 0
IsGivenUp d (Column slot scan) = text_slot d ≡ None
IsGivenUp d _ = Unit {0}

-- where n bytes of a text were taken, so many less are left
abbrev pub LeftAfterAll : Directive → Phase → Phase → ℕ → Type 0
LeftAfterAll d before (Text slot scan) n = HasLeft (left_before d before) (left_of scan) n
LeftAfterAll d before (Column slot scan) n = HasLeftAtMost (left_before d before) (column_left scan) n
LeftAfterAll d before _ n = IsGivenUp d before

-- from so many bytes that are left
abbrev pub FallsBy : Option ℕ → Phase → ℕ → Type 0
FallsBy left (Text slot scan) n = HasLeft left (left_of scan) n
FallsBy left (Column slot scan) n = HasLeftAtMost left (column_left scan) n
FallsBy left _ n = Unit {0}
