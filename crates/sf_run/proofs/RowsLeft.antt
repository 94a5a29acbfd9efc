-- The rows of a format that are left of those of its directives.
use Rattle.std.proofs.Common.{◌≡◌, ◌<◌, ◌≤◌, ◌+◌, ◌-◌, [], ◌∷◌, ◌∙◌, ℕ, List, length}
use Rattle.std.proofs.Common.{map, drop, get_or, refl, sym, ap, subst, None, Some, arith}
use Rattle.std.proofs.lemmas.List.{drop-drop, drop-map, length-map}
use Rattle.std.proofs.lemmas.Option.{none-some, slice_get_read}
use Rattle.std.specs.Prelude.{slice_get}
use Rattle.sf_format.specs.declared.directive.Directive.{Directive}
use Rattle.sf_format.specs.declared.layout.Row.{Row}
use Rattle.sf_format.specs.Layout.{row_of}
use Rattle.sf_run.specs.Texts.{slot_of}
use Rattle.sf_run.proofs.Groups.{drop_at}

-- a format has as many rows as directives
pub as_many : (rows : List Row) (ds all : List Directive) → rows ≡ map row_of all → ds ≡ all → length rows ≡ length ds
as_many rows ds all is same = ap length is ∙ length-map all row_of ∙ ap length (sym same)

-- a row that stands first opens the list
pub opens : (left : List Row) (row : Row) → Some row ≡ slice_get left 0 → left ≡ row ∷ drop 1 left
opens [] row is = absurd (none-some row (sym is))
opens (r ∷ rs) row is = cc

-- and where none does, the list has none
pub nothing_left : (left : List Row) → None ≡ slice_get left 0 → length left ≡ 0
nothing_left [] is = refl
nothing_left (r ∷ rs) is = absurd (none-some r is)

-- as long as a row is left, so is its directive
pub still_left : (rows : List Row) (ds all : List Directive) (left others : List Row) (row : Row) → rows ≡ map row_of all → ds ≡ all
    → length left ≤ length rows → left ≡ row ∷ others → length rows - length left < length ds
still_left rows ds all left others row is same short first =
    let many = as_many rows ds all is same in
    let one : length left ≡ length others + 1 = ap length first ∙ omega arith in
    omega (arith, many, short, one)

-- the first row that is left is that of its directive
pub first_left : (rows : List Row) (ds all : List Directive) (left others : List Row) (row : Row) (i : ℕ) (d : Directive)
    → rows ≡ map row_of all → ds ≡ all → left ≡ drop i rows → left ≡ row ∷ others → slice_get ds i ≡ Some d → row ≡ row_of d
first_left rows ds all left others row i d is same ahead first at =
    let from : drop i ds ≡ d ∷ drop (i + 1) ds = drop_at ds i d at in
    let rest : row ∷ others ≡ row_of d ∷ map row_of (drop (i + 1) ds) =
    sym first ∙ ahead ∙ ap (drop i) is ∙ ap (λ l. drop i (map row_of l)) (sym same) ∙ drop-map row_of i ds ∙ ap (map row_of) from in
    cc

-- the rows after it are left then
pub left_next : (rows left others : List Row) (row : Row) → length left ≤ length rows → left ≡ drop (length rows - length left) rows
    → left ≡ row ∷ others → others ≡ drop (length rows - length others) rows
left_next rows left others row short ahead first =
    let one : length left ≡ length others + 1 = ap length first ∙ omega arith in
    let next : length rows - length left + 1 ≡ length rows - length others = omega (arith, one, short) in
    let rest : others ≡ drop 1 left = ap (drop 1) (sym first) in
    rest ∙ ap (drop 1) ahead ∙ drop-drop 1 (length rows - length left) rows ∙ ap (λ n. drop n rows) next

-- the directive of the first row that is left is that many from the end of the format
pub from_end : (rows : List Row) (ds all : List Directive) (left : ℕ) (d : Directive) → rows ≡ map row_of all → ds ≡ all
    → slice_get ds (length rows - left) ≡ Some d → slice_get all (length all - left) ≡ Some d
from_end rows ds all left d is same at =
    let many : length rows ≡ length all = ap length is ∙ length-map all row_of in
    subst (λ n. slice_get all (n - left) ≡ Some d) many (subst (λ (l : List Directive). slice_get l (length rows - left) ≡ Some d) same at)

-- and back
pub from_start : (rows : List Row) (ds all : List Directive) (left : ℕ) (d : Directive) → rows ≡ map row_of all → ds ≡ all
    → slice_get all (length all - left) ≡ Some d → slice_get ds (length rows - left) ≡ Some d
from_start rows ds all left d is same at =
    let many : length rows ≡ length all = ap length is ∙ length-map all row_of in
    subst (λ (l : List Directive). slice_get l (length rows - left) ≡ Some d) (sym same)
    (subst (λ n. slice_get all (n - left) ≡ Some d) (sym many) at)

-- the directive at the place of the first row that is left
pub there : (rows : List Row) (ds all : List Directive) (left : List Row) (row : Row) (d : Directive) → rows ≡ map row_of all → ds ≡ all
    → length left ≤ length rows → Some row ≡ slice_get left 0 → d ≡ get_or ds (length rows - length left) d
    → slice_get ds (length rows - length left) ≡ Some d
there rows ds all left row d is same short some at =
    let within = still_left rows ds all left (drop 1 left) row is same short (opens left row some) in
    slice_get_read ds (length ds) (length rows - length left) d refl within at

row_slot : (d : Directive) → (row_of d).slot ≡ slot_of d
row_slot d = grind arith

-- a row has the slot of its directive
pub slot_in_row : (row : Row) (d : Directive) → row ≡ row_of d → row.slot ≡ slot_of d
slot_in_row row d is = ap (λ (r : Row). r.slot) is ∙ row_slot d
