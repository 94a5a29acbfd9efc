-- What the phases of the code show of a directive's stage.
use Rattle.std.proofs.lemmas.Bool.{false_from_ne_true}
use Rattle.std.proofs.Common.{◌≡◌, ℕ, ◌<◌, Bool, true, false, cond, nat_eq, List, [], ◌∷◌, ◌++◌, Option, Some, None, refl, sym, ap, subst}
use Rattle.std.proofs.Common.{◌∙◌, arith, lit<, true≢false}
use Rattle.std.specs.Prelude.{IsTrue, is_some, ◌≢◌, ◌↔◌}
use Rattle.sf_format.specs.declared.layout.Way.{Way}
use Rattle.sf_format.specs.declared.layout.Way.TheVariants as ways
use Rattle.sf_format.specs.Layout.{way_placed}
use Rattle.sf_base.specs.Data.{Bytes, value_of}
use Rattle.sf_base.specs.declared.values.Kind.{Kind}
use Rattle.sf_format.specs.declared.directive.Lead.{Lead}
use Rattle.sf_format.specs.declared.directive.Numeral.{Numeral}
use Rattle.sf_format.specs.declared.directive.Shape.{Shape}
use Rattle.sf_format.specs.declared.directive.Shape.TheVariants.{Int, Text, Set, Chars, Float, Count}
use Rattle.sf_format.specs.declared.directive.Conversion.{Conversion}
use Rattle.sf_format.specs.declared.directive.Directive.{Directive}
use Rattle.sf_format.specs.declared.directive.Directive.TheVariants.{Space, Byte, Percent, Conv, Opens}
use Rattle.sf_format.specs.declared.directive.Literal.{Literal}
use Rattle.sf_format.specs.declared.directive.Literal.TheVariants as literal
use Rattle.sf_format.specs.Proper.{IsColumned, IsProper, IsProperShape, TakesColumn}
use Rattle.sf_item.specs.Matching.{IsInteger, Matches, ShapeMatches}
use Rattle.sf_item.specs.Scan.{HoldsNumber}
use Rattle.sf_item.specs.Taking.{CanTake, HasTaken, conversion_of, Ends}
use Rattle.sf_item.specs.Tests.{can_take, integer_at}
use Rattle.sf_item.proofs.Fronts.{HasItem}
use Rattle.sf_item.specs.declared.item.ItemScan.{ItemScan}
use Rattle.sf_item.specs.declared.item.ItemEnd.{ItemEnd}
use Rattle.sf_item.specs.declared.item.ItemEnd.TheVariants as ends
use Rattle.sf_item.proofs.Deciding.{Tests, tests_same, tests_can_take, tests_matches, integer_at_is}
use Rattle.sf_report.specs.declared.outcome.Status.TheVariants.{MatchingFailure}
use Rattle.sf_report.specs.Steps.{Passes, Stores, Fails}
use Rattle.sf_run.specs.Pieces.{IsTextShape}
use Rattle.sf_run.specs.Texts.{is_column, text_slot, slot_of_text, is_count, counts_bytes}
use Rattle.sf_report.specs.Machine.{Stage, Skipping, Taken, Item, stepped, is_full, count_end, integer_end, stored_end, passed_end}
use Rattle.sf_report.specs.Machine.{item_end, item_finished, conversion_finished, real_at, real_end}
use Rattle.sf_run.specs.Phases.{ShowsItem, passed_number}
use Rattle.sf_report.proofs.Machines.{can_take_one, not_full, full_of_none, item_not_full}
use Rattle.sf_run.proofs.Columns.{stepped_plain}

-- ---- a byte more

module _ (scan : ItemScan) (f : List ℕ) (b : ℕ) (proper : IsProperShape (conversion_of scan).shape) where
  decides : Tests (can_take (conversion_of scan) (f ++ b ∷ [])) (CanTake (conversion_of scan) (f ++ b ∷ []))
  decides = tests_can_take (conversion_of scan) proper (f ++ b ∷ [])

-- n takes nothing
pub count_takes_nothing : (c : Conversion) (b : ℕ) → c.column ≡ false → c.shape ≡ Count → stepped (Conv c) Skipping b ≡ None
count_takes_nothing c b plain e = grind (arith, stepped_plain)

-- ---- full

-- n has no column
pub count_plain : (c : Conversion) → IsColumned (Conv c) → c.shape ≡ Count → c.column ≡ false
count_plain c columned e = false_from_ne_true c.column (λ column. subst TakesColumn e (columned column).1)

-- nor has a conversion without a width
pub no_width_plain : (c : Conversion) → IsColumned (Conv c) → c.width ≡ None → c.column ≡ false
no_width_plain c columned e =
    false_from_ne_true c.column (λ column. true≢false (sym (columned column).0 ∙ ap is_some e))

-- nor one that is passed the way that its row says
pub way_plain : (column : Bool) (shape : Shape) (numeric : Bool) (way : Way) → way_placed column shape numeric ≡ way
    → (way ≡ ways.Another → ⊥) → column ≡ false
way_plain true shape numeric way is other = absurd (other (sym is))
way_plain false shape numeric way is other = refl

same_test : (a : ℕ) → nat_eq a a ≡ true
same_test a = (tests_same a a).to refl

has_item : (shape : Shape) → is_count shape ≡ false → HasItem shape
has_item shape e = grind arith

-- each takes a byte but n
pub skipping_open : (d : Directive) → IsProper d → counts_bytes d ≡ false → is_full d Skipping ≡ false
skipping_open Space proper other = not_full Space Skipping 32 Skipping (lit< tt) refl
skipping_open (Byte a) proper other = not_full (Byte a) Skipping a Taken proper (ap (λ v. cond v (Some Taken) None) (same_test a))
skipping_open Percent proper other = not_full Percent Skipping 37 Taken (lit< tt) refl
skipping_open (Opens o) proper other = by o.literal refl
  where
    by : (l : Literal) → o.literal ≡ l → is_full (Opens o) Skipping ≡ false
    by (literal.Byte a) e =
        not_full (Opens o) Skipping a Taken (rw e at proper) (rw e (ap (λ v. cond v (Some Taken) None) (same_test a)))
    by literal.Percent e = not_full (Opens o) Skipping 37 Taken (lit< tt) (rw e refl)
skipping_open (Conv c) proper other = false_from_ne_true (is_full (Conv c) Skipping) (item_not_full c proper (has_item c.shape other))

pub count_full : (c : Conversion) → c.column ≡ false → c.shape ≡ Count → is_full (Conv c) Skipping ≡ true
count_full c plain e = full_of_none (Conv c) Skipping (λ b below. count_takes_nothing c b plain e)

pub taken_full : (d : Directive) → true ≡ is_full d Taken
taken_full d = grind (arith, full_of_none)

pub item_full : (scan : ItemScan) (f : List ℕ) (full : Bool) → IsProperShape (conversion_of scan).shape
    → (conversion_of scan).column ≡ false
    → (IsTrue full ↔ ((b : ℕ) → b < 256 → CanTake (conversion_of scan) (f ++ b ∷ []) → ⊥))
    → full ≡ is_full (Conv (conversion_of scan)) (Item f)
item_full scan f full proper plain says = by_case (is_full (Conv (conversion_of scan)) (Item f)) refl
  where
    taken : (b : ℕ) (r : Stage) → stepped (Conv (conversion_of scan)) (Item f) b ≡ Some r
        → can_take (conversion_of scan) (f ++ b ∷ []) ≡ true
    taken b r is = grind (arith, (stepped_plain (conversion_of scan) plain (Item f) b))

    by_case : (v : Bool) → is_full (Conv (conversion_of scan)) (Item f) ≡ v → full ≡ v
    by_case true e = says.1 (λ b below can. true≢false (sym e ∙ not_full (Conv (conversion_of scan)) (Item f) b (Item (f ++ b ∷ [])) below
        (stepped_plain (conversion_of scan) plain (Item f) b
        ∙ ap (λ v. cond v (Some (Item (f ++ b ∷ []))) None) ((decides scan f b proper).to can))))
    by_case false e =
        let (b, below, r, is) = can_take_one (Conv (conversion_of scan)) (Item f) e in
        false_from_ne_true full (λ on. says.0 on b below ((decides scan f b proper).from (taken b r is)))

-- ---- the end of an item

pub unmatched_end : (c : Conversion) (f : List ℕ) → (Matches c f → ⊥) → Fails MatchingFailure ≡ item_end c f
unmatched_end c f none = grind (arith, (tests_matches c f))

-- no kind holds a number that 64 bits don't hold
pub held_value : (kind : Kind) (negative : Bool) (magnitude m : ℕ) (overflowed : Bool) → HoldsNumber magnitude overflowed m
    → cond overflowed None (value_of kind negative magnitude) ≡ value_of kind negative m
held_value kind negative magnitude m overflowed h = grind arith

matched_end : (c : Conversion) (f : List ℕ) → Matches c f → passed_end c c.slot f ≡ item_end c f
matched_end c f m = ap (λ v. cond v (passed_end c c.slot f) (Fails MatchingFailure)) (sym ((tests_matches c f).to m))

-- the number of an integer
pub integer_is : (numeral : Numeral) (f : List ℕ) (negative : Bool) (m : ℕ) → IsInteger numeral f negative m
    → integer_at numeral f ≡ Some (negative, m)
integer_is numeral f negative m is = integer_at_is numeral f negative m is

-- an integer's item ends with its number
pub integer_ends : (c : Conversion) (f : List ℕ) (negative : Bool) (magnitude : ℕ) (overflowed : Bool)
    (is : Ends c f (ends.Integer negative magnitude overflowed))
    → passed_number c c.slot (value_of c.kind negative is.1) ≡ item_end c f
integer_ends c f negative magnitude overflowed is = passes_is c.slot ∙ matched_end c f matching
  where
    matching : Matches c f
    matching = subst (λ shape. ShapeMatches shape c.width f) (sym is.2) (negative, is.1, is.3)

    passes_is : (slot : Option ℕ) → passed_number c slot (value_of c.kind negative is.1) ≡ passed_end c slot f
    passes_is None = refl
    passes_is (Some slot) =
        ap (integer_end c slot) (sym (integer_at_is is.0 f negative is.1 is.3)) ∙ ap (λ shape. stored_end c slot shape f) (sym is.2)

-- a matching item that is no integer's and is kept nowhere is that of a suppressed conversion
pub matched_unstored : (c : Conversion) (f : List ℕ) → Ends c f ends.Matched → text_slot (Conv c) ≡ None → c.slot ≡ None
matched_unstored c f h none = by_shape c.shape refl
  where
    by_shape : (shape : Shape) → c.shape ≡ shape → c.slot ≡ None
    by_shape (Int numeral) e = absurd (h.2 (numeral, e))
    by_shape Count e = absurd (subst (λ (s : Shape). ShapeMatches s c.width f) e h.1)
    by_shape (Text lead) e = ap (λ s. slot_of_text s c.slot) (sym e) ∙ none
    by_shape (Set members) e = ap (λ s. slot_of_text s c.slot) (sym e) ∙ none
    by_shape Chars e = ap (λ s. slot_of_text s c.slot) (sym e) ∙ none
    by_shape (Float lead) e = ap (λ s. slot_of_text s c.slot) (sym e) ∙ none

-- a suppressed one passes
pub suppressed_end : (c : Conversion) (f : List ℕ) → c.slot ≡ None → Matches c f → Passes ≡ item_end c f
suppressed_end c f none m = ap (λ slot. passed_end c slot f) (sym none) ∙ matched_end c f m

slot_of_text_is : (shape : Shape) (slot : Option ℕ) (n : ℕ) → slot_of_text shape slot ≡ Some n → slot ≡ Some n
slot_of_text_is shape slot n e = grind arith

-- a matching item that is kept gives what a conversion of its slot gives
pub kept_end : (c : Conversion) (f : List ℕ) (slot : ℕ) → text_slot (Conv c) ≡ Some slot → Matches c f
    → passed_end c (Some slot) f ≡ item_end c f
kept_end c f slot text m = ap (λ o. passed_end c o f) (sym (slot_of_text_is c.shape c.slot slot text)) ∙ matched_end c f m

-- a text is stored as it stands
text_stored : (c : Conversion) (f : List ℕ) (slot : ℕ) (shape : Shape) → IsTextShape shape
    → stored_end c slot shape f ≡ Stores slot (Bytes f)
text_stored c f slot shape text = grind arith

pub text_end : (c : Conversion) (f : List ℕ) (slot : ℕ) → IsTextShape c.shape → c.slot ≡ Some slot → Matches c f
    → Stores slot (Bytes f) ≡ item_end c f
text_end c f slot text own m =
    sym (text_stored c f slot c.shape text) ∙ ap (λ o. passed_end c o f) (sym own) ∙ matched_end c f m

-- a float is stored where it is in range
pub float_end : (c : Conversion) (f : List ℕ) (slot : ℕ) (lead : Lead) → c.shape ≡ Float lead → c.slot ≡ Some slot → Matches c f
    → real_end slot (real_at c.kind f) ≡ item_end c f
float_end c f slot lead shape own m = ap (λ s. stored_end c slot s f) (sym shape) ∙ ap (λ o. passed_end c o f) (sym own) ∙ matched_end c f m

-- a text that is no match
pub text_fails : (c : Conversion) (f : List ℕ) (slot : ℕ) (e : ItemEnd) → text_slot (Conv c) ≡ Some slot → f ≢ [] → Ends c f e
    → (e ≡ ends.Matched → ⊥)
    → Fails MatchingFailure ≡ item_end c f
text_fails c f slot e text some h never = grind (arith, unmatched_end)

-- an item that is not stored as it stands, and is no match
pub item_fails : (c : Conversion) (f : List ℕ) (e : ItemEnd) → f ≢ [] → Ends c f e → (e ≡ ends.Matched → ⊥)
    → ((negative : Bool) (magnitude : ℕ) (overflowed : Bool) → e ≡ ends.Integer negative magnitude overflowed → ⊥)
    → Fails MatchingFailure ≡ item_end c f
item_fails c f e some h never none = grind (arith, unmatched_end)

-- ---- the end of a directive

pub count_is : (c : Conversion) (slot : Option ℕ) (n : ℕ) → passed_number c slot (value_of c.kind false n) ≡ count_end c slot n
count_is c slot n = grind arith

pub count_finished : (c : Conversion) (shape : Shape) (q : Stage) (n : ℕ) (more : Bool) → is_count shape ≡ true
    → conversion_finished c shape q n more ≡ count_end c c.slot n
count_finished c shape q n more e = grind arith

pub other_finished : (c : Conversion) (shape : Shape) (q : Stage) (n : ℕ) (more : Bool) → is_count shape ≡ false
    → conversion_finished c shape q n more ≡ item_finished c q more
other_finished c shape q n more e = grind arith

pub conv_is : (a b : Conversion) → Conv a ≡ Conv b → a ≡ b
conv_is a b e = cc

-- an item under way is full as its scan is
pub shown_full : (d : Directive) (slot : Option ℕ) (scan : ItemScan) (q : Stage) (full : Bool) → IsProper d → ShowsItem d slot scan q
    → ((f : List ℕ) → HasTaken scan f → IsProperShape (conversion_of scan).shape
    → (IsTrue full ↔ ((b : ℕ) → b < 256 → CanTake (conversion_of scan) (f ++ b ∷ []) → ⊥)))
    → full ≡ is_full d q
shown_full d slot scan q full proper s says =
    let own : IsProper (Conv (conversion_of scan)) = subst IsProper s.own proper in
    item_full scan s.item full own.0 (ap is_column (sym s.own) ∙ s.plain) (says s.item s.taken own.0)
    ∙ ap (λ e. is_full e (Item s.item)) (sym s.own) ∙ ap (is_full d) (sym s.stage)
