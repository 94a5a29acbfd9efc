-- A format as if each conversion had ! has what the format has, but for what stands before an item.
use Rattle.std.proofs.Common.{◌≡◌, ℕ, suc, ◌+◌, Bool, List, [], ◌∷◌, length, map, if◌then◌else◌, Option, Some, None}
use Rattle.std.proofs.Common.{ap, ◌∙◌, refl}
use Rattle.std.specs.List.{AllByRecursion, fold}
use Rattle.sf_format.specs.declared.directive.Shape.{Shape}
use Rattle.sf_format.specs.declared.directive.Shape.TheVariants.{Int, Text, Set, Chars, Float, Count}
use Rattle.sf_format.specs.declared.directive.Directive.{Directive}
use Rattle.sf_format.specs.declared.directive.Directive.TheVariants.{Space, Byte, Percent, Conv, Opens}
use Rattle.sf_base.specs.declared.values.Kind.{Kind}
use Rattle.sf_format.specs.Layout.{is_item, items_assigned, items_taken, takes_item, assigns_item}
use Rattle.sf_format.specs.Proper.{IsAccepted, destination_of, destinations_of, has_optional, is_optional}
use Rattle.sf_format.specs.Proper.{IsProperShape, HasItsWidth, HasItsKind, TakesColumn, IsSized, IsKinded, IsColumned, IsProper}
use Rattle.sf_format.specs.Strictness.{strict_shape, strictly}
use Rattle.sf_format.specs.Widths.{stored_width, text_width, width_sum}

-- ---- a shape

proper_shape : (kind : Kind) (s : Shape) → IsProperShape s → IsProperShape (strict_shape kind s)
proper_shape kind (Int numeral) h = h
proper_shape kind (Text lead) h = h
proper_shape kind (Set members) h = h
proper_shape kind Chars h = h
proper_shape kind (Float lead) h = h
proper_shape kind Count h = h

has_width : (kind : Kind) (s : Shape) (width : Option ℕ) → HasItsWidth s width → HasItsWidth (strict_shape kind s) width
has_width kind (Int numeral) width h = h
has_width kind (Text lead) width h = h
has_width kind (Set members) width h = h
has_width kind Chars width h = h
has_width kind (Float lead) width h = h
has_width kind Count width h = h

has_kind : (kind : Kind) (s : Shape) → HasItsKind s kind → HasItsKind (strict_shape kind s) kind
has_kind kind (Int numeral) h = h
has_kind kind (Text lead) h = h
has_kind kind (Set members) h = h
has_kind kind Chars h = h
has_kind kind (Float lead) h = h
has_kind kind Count h = h

has_column : (kind : Kind) (s : Shape) → TakesColumn s → TakesColumn (strict_shape kind s)
has_column kind (Int numeral) h = h
has_column kind (Text lead) h = h
has_column kind (Set members) h = h
has_column kind Chars h = h
has_column kind (Float lead) h = h
has_column kind Count h = h

item_stays : (kind : Kind) (s : Shape) → is_item (strict_shape kind s) ≡ is_item s
item_stays kind (Int numeral) = refl
item_stays kind (Text lead) = refl
item_stays kind (Set members) = refl
item_stays kind Chars = refl
item_stays kind (Float lead) = refl
item_stays kind Count = refl

width_stays : (kind : Kind) (s : Shape) (width : Option ℕ) → text_width (strict_shape kind s) width ≡ text_width s width
width_stays kind (Int numeral) width = refl
width_stays kind (Text lead) width = refl
width_stays kind (Set members) width = refl
width_stays kind Chars width = refl
width_stays kind (Float lead) width = refl
width_stays kind Count width = refl

-- ---- a directive

all_mapped : {P : Directive → Type 0} → ((d : Directive) → P d → P (strictly d)) → (ds : List Directive) → AllByRecursion P ds
    → AllByRecursion P (map strictly ds)
all_mapped one [] h = h
all_mapped one (d ∷ ds) h = (one d h.0, all_mapped one ds h.1)

proper_one : (d : Directive) → IsProper d → IsProper (strictly d)
proper_one Space h = h
proper_one (Byte b) h = h
proper_one Percent h = h
proper_one (Opens o) h = h
proper_one (Conv c) h = (proper_shape c.kind c.shape h.0, h.1)

sized_one : (d : Directive) → IsSized d → IsSized (strictly d)
sized_one Space h = h
sized_one (Byte b) h = h
sized_one Percent h = h
sized_one (Opens o) h = h
sized_one (Conv c) h = has_width c.kind c.shape c.width h

kinded_one : (d : Directive) → IsKinded d → IsKinded (strictly d)
kinded_one Space h = h
kinded_one (Byte b) h = h
kinded_one Percent h = h
kinded_one (Opens o) h = h
kinded_one (Conv c) h = has_kind c.kind c.shape h

columned_one : (d : Directive) → IsColumned d → IsColumned (strictly d)
columned_one Space h = h
columned_one (Byte b) h = h
columned_one Percent h = h
columned_one (Opens o) h = h
columned_one (Conv c) h = λ e. let has = h e in (has.0, has_column c.kind c.shape has.1)

destination_stays : (d : Directive) → destination_of (strictly d) ≡ destination_of d
destination_stays Space = refl
destination_stays (Byte b) = refl
destination_stays Percent = refl
destination_stays (Opens o) = refl
destination_stays (Conv c) = refl

optional_stays : (d : Directive) → is_optional (strictly d) ≡ is_optional d
optional_stays Space = refl
optional_stays (Byte b) = refl
optional_stays Percent = refl
optional_stays (Opens o) = refl
optional_stays (Conv c) = refl

stored_stays : (d : Directive) → stored_width (strictly d) ≡ stored_width d
stored_stays Space = refl
stored_stays (Byte b) = refl
stored_stays Percent = refl
stored_stays (Opens o) = refl
stored_stays (Conv c) = by c.slot refl
  where
    by : (slot : Option ℕ) → c.slot ≡ slot → stored_width (strictly (Conv c)) ≡ stored_width (Conv c)
    by None e = rw e refl
    by (Some slot) e = rw e (width_stays c.kind c.shape c.width)

takes_stays : (d : Directive) → takes_item (strictly d) ≡ takes_item d
takes_stays Space = refl
takes_stays (Byte b) = refl
takes_stays Percent = refl
takes_stays (Opens o) = refl
takes_stays (Conv c) = item_stays c.kind c.shape

assigns_stays : (d : Directive) → assigns_item (strictly d) ≡ assigns_item d
assigns_stays Space = refl
assigns_stays (Byte b) = refl
assigns_stays Percent = refl
assigns_stays (Opens o) = refl
assigns_stays (Conv c) = rw (item_stays c.kind c.shape) refl

-- ---- a list

pub destinations_stay : (ds : List Directive) → destinations_of (map strictly ds) ≡ destinations_of ds
destinations_stay [] = refl
destinations_stay (d ∷ ds) = rw (destination_stays d) (rw (destinations_stay ds) refl)

pub optionals_stay : (ds : List Directive) → has_optional (map strictly ds) ≡ has_optional ds
optionals_stay [] = refl
optionals_stay (d ∷ ds) = rw (optional_stays d) (rw (optionals_stay ds) refl)

pub widths_stay : (ds : List Directive) → width_sum (map strictly ds) ≡ width_sum ds
widths_stay [] = refl
widths_stay (d ∷ ds) = rw (stored_stays d) (rw (widths_stay ds) refl)

-- as many directives pass a test that doesn't ask for !
counts_on : (test : Directive → Bool) → ((d : Directive) → test (strictly d) ≡ test d) → (n : ℕ) (ds : List Directive)
    → fold (λ a x. a + (if test x then 1 else 0)) n (map strictly ds) ≡ fold (λ a x. a + (if test x then 1 else 0)) n ds
counts_on test same n [] = refl
counts_on test same n (d ∷ ds) =
    ap (λ b. fold (λ a x. a + (if test x then 1 else 0)) (n + (if b then 1 else 0)) (map strictly ds)) (same d)
    ∙ counts_on test same (n + (if test d then 1 else 0)) ds

pub taken_stay : (ds : List Directive) → items_taken (map strictly ds) ≡ items_taken ds
taken_stay ds = counts_on takes_item takes_stays 0 ds

pub assigned_stay : (ds : List Directive) → items_assigned (map strictly ds) ≡ items_assigned ds
assigned_stay ds = counts_on assigns_item assigns_stays 0 ds

length_stays : (ds : List Directive) → length (map strictly ds) ≡ length ds
length_stays [] = refl
length_stays (d ∷ ds) = ap suc (length_stays ds)

pub accepted_stays : (ds : List Directive) → IsAccepted ds → IsAccepted (map strictly ds)
accepted_stays ds h = record {
  proper = all_mapped proper_one ds h.proper;
  sized = all_mapped sized_one ds h.sized;
  kinded = all_mapped kinded_one ds h.kinded;
  columns = all_mapped columned_one ds h.columns;
  short = rw (length_stays ds) h.short;
  few = rw (destinations_stay ds) h.few;
  slots = rw (destinations_stay ds) h.slots;
}
